-- What FLASH_PROTECT does to a controller that is on.
use Rattle.std.proofs.Common.{◌≡◌, refl, sym, ap, ◌∙◌, subst, ℕ, suc, ◌+◌, ◌^◌, ◌≤◌, ◌<◌, Bool, true, false, ◌&&◌, ◌||◌, if◌then◌else◌, List, [], length, take, inl, inr, arith, Option, Some, None, Result, Ok, Err}
use Rattle.std.specs.Prelude.{option_map, IfSome}
use Rattle.std.proofs.lemmas.List.{take_all}
use Rattle.flash_dev.specs.Told.{Changes}
use Rattle.flash_dev.specs.declared.device.DevErr.{DevErr}
use Rattle.flash_dev.specs.declared.device.DevErr.TheVariants.{Failed as FailedErr, PowerLost}
use Rattle.flash_dev.specs.declared.hurt.Hurt.{Hurt}
use Rattle.flash_dev.specs.declared.hurt.Hurt.TheVariants.{Failed, Cut}
use Rattle.flash_dev.specs.View.{DeviceView}
use Rattle.flash_ctl.specs.Locks.{CtlView}
use Rattle.ec_model.specs.declared.live.HashView.{HashView}
use Rattle.ec_model.specs.declared.live.HashView.TheVariants.{Idle, Busy, Done}
use Rattle.ec_model.specs.declared.live.Live.{Live}
use Rattle.ec_model.specs.declared.live.ProtectView.{ProtectView}
use Rattle.ec_model.specs.Ranges.{is_flash_size}
use Rattle.ec_model.specs.Stored.{stored, ro_now_flag, all_now_flag}
use Rattle.ec_model.specs.Table.{Core, IsHashable}
use Rattle.ec_model.specs.Hash.{without_hash}
use Rattle.ec_model.specs.Operations.{Operation, operated_all, touched_by}
use Rattle.ec_model.specs.ProtectRow.{protect_operations, protect_view, protected, locks_set, is_asked}
use Rattle.ec_model.proofs.ValidRows.{IsCoreValid, protect-inside}
use Rattle.flash_protect.specs.declared.protect.Protect.{Protect}
use Rattle.flash_protect.specs.Locking.{Locks}
use Rattle.flash_protect.specs.Setting.{Sets, IsStoppedIn, covering, core_with}
use Rattle.vboot_hash.specs.Hashing.{HashState, IsHashing, Stands, StandsBy, IsNoHash}
use Rattle.ec_boot.specs.declared.lasting.Lasting.{Lasting}
use Rattle.ec_boot.specs.States.{core_at, told_core}
use Rattle.ec_boot.specs.Ran.{IsStopped, IsProtected}
use Rattle.ec_boot.specs.Shared.{live_of, run_by, IsMeant, IsOn, TouchesIf, is_over_some}
use Rattle.ec_boot.proofs.LockLemmas.{sized}
use Rattle.ec_boot.proofs.HashLemmas.{with_state, over_any, some-bytes, untouched_by, protect-over, touched_by-any, stands-operated, stands-stopped}

-- what lasts, with another protection
abbrev pub with_protect : Protect → Lasting → Lasting
with_protect protect lasting = record lasting { protect = protect }

-- a hash behind operations, by the range of those that were begun
touched-if : (operations : List Operation) (range : Option (ℕ × ℕ)) (core : Core) (old new : HashState) → over_any operations old.shown ≡ is_over_some range old.shown → TouchesIf range old new →
    with_state new core ≡ touched_by operations (with_state old core)
touched-if operations range core old new same touches =
    by (is_over_some range old.shown) refl ∙ ap (λ (over : Bool). if over then without_hash (with_state old core) else with_state old core) (sym same) ∙ sym (touched_by-any operations (with_state old core)) where
      gone : IsNoHash new → with_state new core ≡ without_hash (with_state old core)
      gone none =
          ap (λ (hash : HashView). with_state (record new { shown = hash }) core) none.idle
          ∙ ap (λ (nonce : List ℕ). with_state (record new { shown = Idle; nonce = nonce }) core) none.no_nonce

      by : (over : Bool) → is_over_some range old.shown ≡ over → with_state new core ≡ (if over then without_hash (with_state old core) else with_state old core)
      by true is = gone (touches.over is)
      by false is = ap (λ (hash : HashState). with_state hash core) (touches.beside is)

-- a controller that is on, by its parts
abbrev pub made : Bool → Live → List ℕ → List ℕ → Bool → Bool → Core
made pin live nonce flash ro all = record { flash = flash; pin = pin; live = record live { ro_now = ro; all_now = all }; nonce = nonce }

made-same : (pin : Bool) (live : Live) (nonce f g : List ℕ) (ro ro2 all all2 : Bool) → f ≡ g → ro ≡ ro2 → all ≡ all2 → made pin live nonce f ro all ≡ made pin live nonce g ro2 all2
made-same pin live nonce f g ro ro2 all all2 flash first second =
    ap (λ (x : List ℕ). made pin live nonce x ro all) flash ∙ ap (λ (x : Bool). made pin live nonce g x all) first ∙ ap (λ (x : Bool). made pin live nonce g ro2 x) second

-- a live state with the locks that are asked for
abbrev pub locked_live : ℕ → ℕ → Live → Live
locked_live mask flags live =
    record live {
      ro_now = live.ro_now || is_asked ro_now_flag mask flags || is_asked all_now_flag mask flags;
      all_now = live.all_now || is_asked all_now_flag mask flags;
    }

-- locks that are set on the protection alone are set on the whole
locks-lift : (can : Bool) (mask flags : ℕ) (pin : Bool) (live : Live) (nonce f g : List ℕ) (old new : Protect) → old.ro_now ≡ live.ro_now → old.all_now ≡ live.all_now →
    core_with new pin g ≡ (if can then record (core_with old pin f) { live = locked_live mask flags (core_with old pin f).live } else core_with old pin f) →
    made pin live nonce g new.ro_now new.all_now ≡ (if can then record (made pin live nonce f live.ro_now live.all_now) { live = locked_live mask flags live } else made pin live nonce f live.ro_now live.all_now)
locks-lift true mask flags pin live nonce f g old new ro all same =
    let after : Live = locked_live mask flags live in
    made-same pin live nonce g f new.ro_now after.ro_now new.all_now after.all_now (ap (λ (core : Core). core.flash) same)
    (ap (λ (core : Core). core.live.ro_now) same ∙ ap (λ (b : Bool). b || is_asked ro_now_flag mask flags || is_asked all_now_flag mask flags) ro)
    (ap (λ (core : Core). core.live.all_now) same ∙ ap (λ (b : Bool). b || is_asked all_now_flag mask flags) all)
locks-lift false mask flags pin live nonce f g old new ro all same =
    made-same pin live nonce g f new.ro_now live.ro_now new.all_now live.all_now (ap (λ (core : Core). core.flash) same) (ap (λ (core : Core). core.live.ro_now) same ∙ ro) (ap (λ (core : Core). core.live.all_now) same ∙ all)

-- a controller that is on, by its parts
abbrev pub core_by : Bool → Lasting → HashState → List ℕ → Core
core_by pin lasting hash flash = record { flash = flash; pin = pin; live = live_of lasting hash.shown; nonce = hash.nonce }

-- another protection, of which what the last boot met stays
by-made : (pin : Bool) (lasting : Lasting) (hash : HashState) (flash : List ℕ) (new : Protect) → new.bad ≡ lasting.protect.bad →
    core_by pin (with_protect new lasting) hash flash ≡ made pin (live_of lasting hash.shown) hash.nonce flash new.ro_now new.all_now
by-made pin lasting hash flash new same =
    ap (λ (bad : Bool). core_by pin (with_protect (record { ro_now = new.ro_now; all_now = new.all_now; bad = bad }) lasting) hash flash) same

-- the hash is that behind these operations
record IsBehind (operations : List Operation) (range : Option (ℕ × ℕ)) (old new : HashState) : Type 0 where
  pub same : over_any operations old.shown ≡ is_over_some range old.shown
  pub touches : TouchesIf range old new

-- FLASH_PROTECT was done
lift-done : (mask flags : ℕ) (pin : Bool) (lasting : Lasting) (old new : HashState) (f g : List ℕ) (protect : Protect) (range : Option (ℕ × ℕ)) → protect.bad ≡ lasting.protect.bad →
    IsBehind (protect_operations (core_by pin lasting old f) mask flags) range old new →
    core_with protect pin g ≡ protected mask flags (core_with lasting.protect pin f) → core_by pin (with_protect protect lasting) new g ≡ protected mask flags (core_by pin lasting old f)
lift-done mask flags pin lasting old new f g protect range bad behind same =
    let core : Core = core_by pin lasting old f in
    let operations : List Operation = protect_operations core mask flags in
    let flash : List ℕ = operated_all operations f in
    by-made pin lasting new g protect bad
    ∙ locks-lift (pin && (stored flash).ro) mask flags pin (live_of lasting new.shown) new.nonce flash g lasting.protect protect refl refl
    (same ∙ ap (λ (c : Core). locks_set mask flags (record c { flash = flash })) (untouched_by operations (core_with lasting.protect pin f)))
    ∙ ap (λ (c : Core). locks_set mask flags (record c { flash = flash })) (touched-if operations range core old new behind.same behind.touches)

-- an operation of FLASH_PROTECT did not end
lift-stopped : (hurt : Hurt) (mask flags : ℕ) (pin : Bool) (lasting : Lasting) (old new : HashState) (device changed : DeviceView) (f g : List ℕ) (protect : Protect) (range : ℕ × ℕ) →
    (stopped : IsStoppedIn hurt mask flags pin device changed lasting.protect f protect g range) → IsBehind (take (suc stopped.place) (protect_operations (core_by pin lasting old f) mask flags)) (Some range) old new →
    IsStopped hurt (protect_operations (core_by pin lasting old f) mask flags) device changed (core_by pin lasting old f) (core_by pin (with_protect protect lasting) new g)
lift-stopped hurt mask flags pin lasting old new device changed f g protect range stopped behind =
    let core : Core = core_by pin lasting old f in
    let operations : List Operation = protect_operations core mask flags in
    record {
      place = stopped.place;
      stops = stopped.stops;
      account = stopped.account;
      leaves = ap (λ (p : Protect). core_by pin (with_protect p lasting) new g) stopped.same
          ∙ ap (λ (c : Core). record c { flash = g }) (touched-if (take (suc stopped.place) operations) (Some range) core old new behind.same behind.touches);
    }

-- the stored bits could not be read
lift-unread : (pin : Bool) (lasting : Lasting) (old new : HashState) (f g : List ℕ) (protect : Protect) → g ≡ f → protect ≡ lasting.protect → TouchesIf None old new →
    core_by pin (with_protect protect lasting) new g ≡ core_by pin lasting old f
lift-unread pin lasting old new f g protect flash same touches =
    ap (λ (x : List ℕ). core_by pin (with_protect protect lasting) new x) flash
    ∙ ap (λ (p : Protect). core_by pin (with_protect p lasting) new f) same
    ∙ ap (λ (hash : HashState). core_by pin lasting hash f) (touches.beside refl)

lift-shown : (pin : Bool) (lasting : Lasting) (hash : HashState) (g : List ℕ) (protect : Protect) (view : ProtectView) → view ≡ protect_view (core_with protect pin g) → view ≡ protect_view (core_by pin (with_protect protect lasting) hash g)
lift-shown pin lasting hash g protect view shown = shown

-- the operations of FLASH_PROTECT, up to one, and the range of those
first-behind : (n mask flags : ℕ) (pin : Bool) (lasting : Lasting) (old new : HashState) (f : List ℕ) (range : Option (ℕ × ℕ)) → IsCoreValid (core_by pin lasting old f) → TouchesIf range old new →
    range ≡ covering (take n (protect_operations (core_by pin lasting old f) mask flags)) → IsBehind (take n (protect_operations (core_by pin lasting old f) mask flags)) range old new
first-behind n mask flags pin lasting old new f range valid touches covers =
    record {
      same = protect-over n mask flags (core_by pin lasting old f) old.shown valid.size (some-bytes (length f) old.shown old.nonce valid.hash)
          ∙ ap (λ (r : Option (ℕ × ℕ)). is_over_some r old.shown) (sym covers);
      touches = touches;
    }

all-behind : (mask flags : ℕ) (pin : Bool) (lasting : Lasting) (old new : HashState) (f : List ℕ) (range : Option (ℕ × ℕ)) → IsCoreValid (core_by pin lasting old f) → TouchesIf range old new →
    range ≡ covering (protect_operations (core_by pin lasting old f) mask flags) → IsBehind (protect_operations (core_by pin lasting old f) mask flags) range old new
all-behind mask flags pin lasting old new f range valid touches covers =
    let operations : List Operation = protect_operations (core_by pin lasting old f) mask flags in
    let whole : take (length operations) operations ≡ operations = take_all (length operations) operations (omega arith) in
    subst (λ (list : List Operation). IsBehind list range old new) whole
    (first-behind (length operations) mask flags pin lasting old new f range valid touches (covers ∙ ap covering (sym whole)))

-- FLASH_PROTECT, by the protection alone and by the whole
lift : (mask flags : ℕ) (pin : Bool) (lasting : Lasting) (old new : HashState) (device changed : DeviceView) (f g : List ℕ) (protect : Protect) (range : Option (ℕ × ℕ)) (result : Result ProtectView DevErr) →
    protect.bad ≡ lasting.protect.bad → IsCoreValid (core_by pin lasting old f) → TouchesIf range old new →
    Sets mask flags pin device changed lasting.protect f protect g range result → IsProtected mask flags device changed (core_by pin lasting old f) (core_by pin (with_protect protect lasting) new g) result
lift mask flags pin lasting old new device changed f g protect range (Ok view) bad valid touches set = (
  lift-done mask flags pin lasting old new f g protect range bad (all-behind mask flags pin lasting old new f range valid touches set.0.begun) set.0.done,
  lift-shown pin lasting new g protect view set.0.shown,
  set.1,
)
lift mask flags pin lasting old new device changed f g protect None (Err FailedErr) bad valid touches unread = inl (lift-unread pin lasting old new f g protect unread.1 unread.2 touches, unread.3)
lift mask flags pin lasting old new device changed f g protect None (Err PowerLost) bad valid touches unread = cc
lift mask flags pin lasting old new device changed f g protect (Some range) (Err FailedErr) bad valid touches stopped =
    inr (lift-stopped Failed mask flags pin lasting old new device changed f g protect range stopped (first-behind (suc stopped.place) mask flags pin lasting old new f (Some range) valid touches stopped.begun))
lift mask flags pin lasting old new device changed f g protect (Some range) (Err PowerLost) bad valid touches stopped =
    lift-stopped Cut mask flags pin lasting old new device changed f g protect range stopped (first-behind (suc stopped.place) mask flags pin lasting old new f (Some range) valid touches stopped.begun)

-- what holds of a controller holds of its core, where the flash tells its bytes
pub core-valid : (ctl : CtlView) (pin : Bool) (lasting : Lasting) (hash : HashState) (f : List ℕ) → IsOn ctl pin lasting hash → length f ≡ ctl.device.extent → IsCoreValid (core_by pin lasting hash f)
core-valid ctl pin lasting hash f is same =
    record {
      size = rw same is.size;
      all_with_ro = is.valid.all_with_ro;
      jumped = is.valid.jumped;
      erase = rw same is.valid.erase;
      hash = rw same is.valid.hash;
      saved = is.valid.saved;
    }

-- FLASH_PROTECT, told
pub protect-told : (mask flags : ℕ) (ctl after : CtlView) (pin : Bool) (lasting : Lasting) (old new : HashState) (protect : Protect) (range : Option (ℕ × ℕ)) (result : Result ProtectView DevErr) → protect.bad ≡ lasting.protect.bad →
    IsOn ctl pin lasting old → IfSome ctl.device.held (λ flash. length flash ≡ ctl.device.extent) → TouchesIf range old new →
    Changes (λ before behind. Sets mask flags pin ctl.device after.device lasting.protect before protect behind range result) ctl.device.held after.device.held →
    Changes (λ before behind. IsProtected mask flags ctl.device after.device before behind result) (told_core (run_by ctl pin lasting old)) (told_core (run_by after pin (with_protect protect lasting) new))
protect-told mask flags ctl after pin lasting old new protect range result bad is sized touches told = by ctl.device.held after.device.held sized told where
  by : (o p : Option (List ℕ)) → IfSome o (λ flash. length flash ≡ ctl.device.extent) → Changes (λ before behind. Sets mask flags pin ctl.device after.device lasting.protect before protect behind range result) o p →
      Changes (λ before behind. IsProtected mask flags ctl.device after.device before behind result) (option_map (core_at (run_by ctl pin lasting old)) o) (option_map (core_at (run_by after pin (with_protect protect lasting) new)) p)
  by None None here set = tt
  by None (Some g) here set = set
  by (Some f) None here set = set
  by (Some f) (Some g) here set = lift mask flags pin lasting old new ctl.device after.device f g protect range result bad (core-valid ctl pin lasting old f is here) touches set

-- a valid hash is one of the hash's own
pub hashing-of : (size : ℕ) (hash : HashView) (nonce : List ℕ) → is_flash_size size ≡ true → IsHashable size hash nonce → IsHashing hash nonce
hashing-of size Idle nonce allowed valid = valid
hashing-of size (Busy at count left) nonce allowed valid = (valid.0, small size at count allowed valid.1, valid.2, valid.3, valid.4) where
  small : (size at count : ℕ) → is_flash_size size ≡ true → at + count ≤ size → at + count < 2 ^ 32
  small size at count allowed inside = omega (arith, sized size allowed, inside)
hashing-of size (Done at count digest) nonce allowed valid = valid.3

-- the flash behind locks that were set
locks-flash : (mask flags : ℕ) (core : Core) → (locks_set mask flags core).flash ≡ core.flash
locks-flash mask flags core = by (core.pin && (stored core.flash).ro) where
  by : (can : Bool) → (if can then record core { live = locked_live mask flags core.live } else core).flash ≡ core.flash
  by true = refl
  by false = refl

-- the hash stands for the flash behind FLASH_PROTECT
beside-meant : (mask flags : ℕ) (pin : Bool) (lasting : Lasting) (hash : HashState) (device changed : DeviceView) (f g : List ℕ) (protect : Protect) (range : Option (ℕ × ℕ)) (result : Result ProtectView DevErr) →
    IsCoreValid (core_by pin lasting hash f) → IsHashing hash.shown hash.nonce → is_over_some range hash.shown ≡ false → (nonce : List ℕ) →
    Sets mask flags pin device changed lasting.protect f protect g range result → Stands hash nonce f → Stands hash nonce g
beside-meant mask flags pin lasting hash device changed f g protect range (Ok view) valid hashing apart nonce set stands =
    let core : Core = core_by pin lasting hash f in
    let operations : List Operation = protect_operations core mask flags in
    let behind = all-behind mask flags pin lasting hash hash f range valid (record { over = λ over. cc; beside = λ here. refl }) set.0.begun in
    let flash : g ≡ operated_all operations f =
    ap (λ (c : Core). c.flash) set.0.done ∙ locks-flash mask flags (record (touched_by operations (core_with lasting.protect pin f)) { flash = operated_all operations f }) in
    subst (Stands hash nonce) (sym flash) (stands-operated operations hash nonce f (length f) refl (protect-inside core mask flags valid) hashing (behind.same ∙ apart) stands)
beside-meant mask flags pin lasting hash device changed f g protect None (Err error) valid hashing apart nonce unread stands = subst (Stands hash nonce) (sym unread.1) stands
beside-meant mask flags pin lasting hash device changed f g protect (Some range) (Err error) valid hashing apart nonce stopped stands =
    let core : Core = core_by pin lasting hash f in
    let operations : List Operation = protect_operations core mask flags in
    let behind = first-behind (suc stopped.place) mask flags pin lasting hash hash f (Some range) valid (record { over = λ over. cc; beside = λ here. refl }) stopped.begun in
    stands-stopped stopped.place operations hash nonce f g (length f) refl (protect-inside core mask flags valid) hashing (behind.same ∙ apart) stopped.stops stands

protect-meant : (mask flags : ℕ) (pin : Bool) (lasting : Lasting) (old new : HashState) (device changed : DeviceView) (f g : List ℕ) (protect : Protect) (range : Option (ℕ × ℕ)) (result : Result ProtectView DevErr) →
    IsCoreValid (core_by pin lasting old f) → IsHashing old.shown old.nonce → TouchesIf range old new →
    Sets mask flags pin device changed lasting.protect f protect g range result → IsMeant old f → IsMeant new g
protect-meant mask flags pin lasting old new device changed f g protect range result valid hashing touches set meant = by (is_over_some range old.shown) refl where
  by : (over : Bool) → is_over_some range old.shown ≡ over → IsMeant new g
  by true is = ([], subst (λ (hash : HashView). StandsBy hash new [] g) (sym (touches.over is).idle) tt)
  by false is = (
    meant.0,
    subst (λ (hash : HashState). Stands hash meant.0 g) (sym (touches.beside is))
        (beside-meant mask flags pin lasting old device changed f g protect range result valid hashing is meant.0 set meant.1),
  )

-- a hash that may be dropped is valid
if-hashable : (size : ℕ) (range : Option (ℕ × ℕ)) (old new : HashState) → TouchesIf range old new → IsHashable size old.shown old.nonce → IsHashable size new.shown new.nonce
if-hashable size range old new touches valid = by (is_over_some range old.shown) refl where
  gone : IsNoHash new → IsHashable size new.shown new.nonce
  gone none = subst (λ (hash : HashView). IsHashable size hash new.nonce) (sym none.idle) none.no_nonce

  by : (over : Bool) → is_over_some range old.shown ≡ over → IsHashable size new.shown new.nonce
  by true is = gone (touches.over is)
  by false is = subst (λ (hash : HashState). IsHashable size hash.shown hash.nonce) (sym (touches.beside is)) valid

-- what holds of each controller holds behind FLASH_PROTECT
pub protect-on : (mask flags : ℕ) (ctl after : CtlView) (pin : Bool) (lasting : Lasting) (old new : HashState) (protect : Protect) (range : Option (ℕ × ℕ)) (result : Result ProtectView DevErr) →
    IsOn ctl pin lasting old → lasting.erase ≡ None → IfSome ctl.device.held (λ flash. length flash ≡ ctl.device.extent) → after.device.extent ≡ ctl.device.extent → Locks protect after → TouchesIf range old new →
    Changes (λ before behind. Sets mask flags pin ctl.device after.device lasting.protect before protect behind range result) ctl.device.held after.device.held → IsOn after pin (with_protect protect lasting) new
protect-on mask flags ctl after pin lasting old new protect range result is free sized extent locks touches told =
    record {
      size = rw extent is.size;
      valid = record {
        locks = locks.locks;
        all_with_ro = locks.all_with_ro;
        jumped = is.valid.jumped;
        erase = rw free tt;
        hash = rw extent (if-hashable ctl.device.extent range old new touches is.valid.hash);
        saved = is.valid.saved;
      };
      meant = by ctl.device.held after.device.held sized told is.meant;
    } where
      by : (o p : Option (List ℕ)) → IfSome o (λ flash. length flash ≡ ctl.device.extent) → Changes (λ before behind. Sets mask flags pin ctl.device after.device lasting.protect before protect behind range result) o p → IfSome o (IsMeant old) → IfSome p (IsMeant new)
      by None None here set meant = tt
      by None (Some g) here set meant = absurd set
      by (Some f) None here set meant = absurd set
      by (Some f) (Some g) here set meant =
          protect-meant mask flags pin lasting old new ctl.device after.device f g protect range result (core-valid ctl pin lasting old f is here)
          (hashing-of ctl.device.extent old.shown old.nonce is.size is.valid.hash) touches set meant
