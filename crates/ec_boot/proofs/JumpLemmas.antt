-- What a jump looks at, and what it keeps.
use Rattle.std.proofs.Common.{◌≡◌, refl, sym, ap, ◌∙◌, subst, ℕ, zero, suc, ◌+◌, ◌-◌, ◌/◌, ◌≤◌, Bool, true, false, not, ◌==◌, if◌then◌else◌, arith, List, [], ◌∷◌, ◌++◌, length, take, drop, replicate, slice_range, slice_index, Option, Some, None, Result, Ok, Err}
use Rattle.std.specs.Prelude.{option_map, IfSome, is_some, is_err, slice_index_or}
use Rattle.std.specs.List.{list_all}
use Rattle.std.proofs.Math.ListN.{get_or, get_or-append}
use Rattle.std.proofs.lemmas.List.{get_or-take, get_or-drop, get_or-replicate, get_or-append-add, length-replicate}
use Rattle.ec_types.specs.LittleEndian.{u32_at}
use Rattle.ec_types.specs.declared.image.ImageCopy.{ImageCopy}
use Rattle.ec_types.specs.declared.image.ImageCopy.TheVariants.{Ro, Rw}
use Rattle.flash_dev.specs.Told.{Changes}
use Rattle.flash_dev.specs.Device.{DeviceView, IsRead}
use Rattle.flash_dev.specs.Costs.{HurtRose, refused_by}
use Rattle.flash_dev.specs.declared.hurt.Hurt.{Hurt}
use Rattle.flash_dev.specs.declared.hurt.Hurt.TheVariants.{Whole, Failed, Cut}
use Rattle.flash_ctl.specs.Locks.{CtlView, no_locks, lock_count}
use Rattle.flash_protect.specs.Locking.{locks_of}
use Rattle.jump_data.specs.declared.kept.JumpData.{JumpData}
use Rattle.jump_data.specs.declared.kept.TagLayout.{TagLayout}
use Rattle.jump_data.specs.declared.kept.TagLayout.TheVariants.{V2, V3}
use Rattle.jump_data.specs.Spelling.{spelling, has_switches, is_switch}
use Rattle.ec_model.specs.declared.live.HashView.{HashView}
use Rattle.ec_model.specs.declared.live.HashView.TheVariants.{Idle, Busy, Done}
use Rattle.ec_model.specs.declared.live.Live.{Live}
use Rattle.ec_model.specs.declared.live.EraseJob.{EraseJob}
use Rattle.ec_model.specs.Ranges.{Range, is_flash_size, copy_range, part}
use Rattle.ec_model.specs.Table.{Core, IsHashable}
use Rattle.ec_model.specs.Jump.{vector_in, has_vector, keeps_all, kept_hash, kept_live, arrived}
use Rattle.ec_model.proofs.StoredLemmas.{u32_at-take}
use Rattle.vboot_hash.specs.Hashing.{HashState, StandsBy}
use Rattle.ec_boot.specs.declared.lasting.Lasting.{Lasting}
use Rattle.ec_boot.specs.declared.jump.JumpNo.{JumpNo}
use Rattle.ec_boot.specs.declared.jump.JumpNo.TheVariants.{Denied, Vector, Fault}
use Rattle.ec_boot.specs.States.{RunView, core_at, told_core}
use Rattle.ec_boot.specs.Shared.{live_of, run_by, IsMeant, IsOn, switch, finished, data_of, lasting_of, kept_of, shown_of, layout_by}
use Rattle.ec_boot.specs.Jumping.{is_denied_on, HasLooked, IsJump, Arrives, IsOutside, IsSeen, IsRefused}
use Rattle.ec_boot.specs.Guarding.{KeepsGuard}
use Rattle.ec_boot.proofs.LockLemmas.{sized}
use Rattle.ec_boot.proofs.KeepLemmas.{guard-kept}

-- whether all is kept, by the byte that says so
layout-keeps : (flash : List ℕ) (byte : ℕ) → byte ≡ slice_index flash 40 → is_some (layout_by byte) ≡ keeps_all flash Ro
layout-keeps flash byte same = ap (λ (b : ℕ). is_some (layout_by b)) same ∙ by (slice_index flash 40 == 1) (slice_index flash 40 == 2) where
  by : (one two : Bool) → is_some (if one then None else if two then Some V2 else Some V3) ≡ not ((if one then 1 else if two then 2 else 3) == 1)
  by true two = refl
  by false true = refl
  by false false = refl

-- RO's byte was read
pub layout-told : (o : Option (List ℕ)) (out : List ℕ) (layout : Option TagLayout) (copy : ImageCopy) → copy ≡ Ro → layout ≡ layout_by (slice_index out 0) → IfSome o (λ bytes. out ≡ slice_range bytes 40 (40 + 1)) →
    IfSome o (λ flash. is_some layout ≡ keeps_all flash copy)
layout-told None out layout copy runs is read = tt
layout-told (Some flash) out layout copy runs is read =
    let byte : slice_index out 0 ≡ slice_index flash 40 =
    ap (λ (bytes : List ℕ). slice_index bytes 0) read ∙ get_or-take 1 (drop 40 flash) 0 0 (omega arith) ∙ get_or-drop 40 flash 0 0 in
    ap is_some is ∙ layout-keeps flash (slice_index out 0) byte ∙ ap (keeps_all flash) (sym runs)

-- the vector that was read is that of the region
vector-same : (copy : ImageCopy) (flash out : List ℕ) (size : ℕ) → length flash ≡ size → is_flash_size size ≡ true → out ≡ slice_range flash (copy_range copy size).at ((copy_range copy size).at + 8) →
    has_vector flash copy ≡ vector_in (copy_range copy size) (u32_at 4 out)
vector-same copy flash out size same allowed read =
    ap (λ (n : ℕ). vector_in (copy_range copy n) (u32_at 4 (part (copy_range copy n) flash))) same
    ∙ ap (vector_in (copy_range copy size)) (whole copy ∙ sym (ap (u32_at 4) read ∙ first copy)) where
      first : (copy : ImageCopy) → u32_at 4 (slice_range flash (copy_range copy size).at ((copy_range copy size).at + 8)) ≡ u32_at 4 (drop (copy_range copy size).at flash)
      first copy =
          let count : (copy_range copy size).at + 8 - (copy_range copy size).at ≡ 8 = omega arith in
          ap (λ (n : ℕ). u32_at 4 (take n (drop (copy_range copy size).at flash))) count ∙ u32_at-take 4 8 (drop (copy_range copy size).at flash) (omega arith)

      large : (copy : ImageCopy) → 8 ≤ (copy_range copy size).size
      large Ro = omega (arith, sized size allowed)
      large Rw = omega (arith, sized size allowed)

      whole : (copy : ImageCopy) → u32_at 4 (part (copy_range copy size) flash) ≡ u32_at 4 (drop (copy_range copy size).at flash)
      whole copy =
          let range : Range = copy_range copy size in
          let count : range.at + range.size - range.at ≡ range.size = omega arith in
          ap (λ (n : ℕ). u32_at 4 (take n (drop range.at flash))) count ∙ u32_at-take 4 range.size (drop range.at flash) (omega (arith, large copy))

-- what a look at the head says of the vector
pub vector-told : (o : Option (List ℕ)) (copy : ImageCopy) (out : List ℕ) (size : ℕ) (fits : Bool) → IfSome o (λ bytes. length bytes ≡ size) → is_flash_size size ≡ true →
    IfSome o (λ bytes. out ≡ slice_range bytes (copy_range copy size).at ((copy_range copy size).at + 8)) → vector_in (copy_range copy size) (u32_at 4 out) ≡ fits → IfSome o (λ flash. has_vector flash copy ≡ fits)
vector-told None copy out size fits whole allowed read tests = tt
vector-told (Some flash) copy out size fits whole allowed read tests = vector-same copy flash out size whole allowed read ∙ tests

-- one read, as a look
pub looked-once : {T E : Type 0} (count most at : ℕ) (room out : List ℕ) (old new : DeviceView) (x : T) → length room ≤ most → IsRead {T = T} {E = E} at room out old new (Ok x) → HasLooked Whole most old new
looked-once count most at room out old new x few read =
    record {
      held = read.kept;
      begun = read.begun;
      armed = read.armed;
      wear = read.wear;
      spent = record {
        extent = read.extent;
        faults = read.faults.later;
        cuts = read.cuts;
        own_cuts = read.own_cuts;
        rose = tt;
        refusals = read.refusals;
        fetched = record { least = omega (arith, read.fetched); most = omega (arith, read.fetched, few) };
      };
    }

-- two reads, one after the other
pub looked-then : (hurt : Hurt) (first second : ℕ) (old middle new : DeviceView) → HasLooked Whole first old middle → HasLooked hurt second middle new → HasLooked hurt (first + second) old new
looked-then hurt first second old middle new once again =
    record {
      held = again.held ∙ once.held;
      begun = again.begun ∙ once.begun;
      armed = again.armed ∙ once.armed;
      wear = again.wear ∙ once.wear;
      spent = record {
        extent = again.spent.extent ∙ once.spent.extent;
        faults = omega (arith, once.spent.faults, again.spent.faults);
        cuts = omega (arith, once.spent.cuts, again.spent.cuts);
        own_cuts = omega (arith, once.spent.own_cuts, again.spent.own_cuts);
        rose = rose hurt again.spent.rose;
        refusals = again.spent.refusals ∙ ap (refused_by hurt) once.spent.refusals;
        fetched = record { least = omega (arith, once.spent.fetched.least, again.spent.fetched.least); most = omega (arith, once.spent.fetched.most, again.spent.fetched.most) };
      };
    } where
      rose : (hurt : Hurt) → HurtRose hurt middle new → HurtRose hurt old new
      rose Whole rises = tt
      rose Failed rises = omega (arith, once.spent.faults, rises)
      rose Cut rises = omega (arith, once.spent.cuts, rises)

-- the first of some locks
first-set : (n : ℕ) (rest : List Bool) → 1 ≤ n → slice_index_or (replicate n true ++ rest) 0 false ≡ true
first-set zero rest some = absurd (omega (arith, some))
first-set (suc n) rest some = refl

-- RO's first block tells RO's lock
pub first-lock : (size : ℕ) (ro all : Bool) → is_flash_size size ≡ true → (all ≡ true → ro ≡ true) → slice_index_or (locks_of size ro all) 0 false ≡ ro
first-lock size ro true allowed with_ro = first-set (size / 4096) _ (omega (arith, sized size allowed)) ∙ sym (with_ro refl)
first-lock size true false allowed with_ro = first-set (size / 2 / 4096) _ (omega (arith, sized size allowed))
first-lock size false false allowed with_ro = refl

-- RW's first block tells the lock of all
pub upper-lock : (size block : ℕ) (ro all : Bool) → is_flash_size size ≡ true → block ≡ size / 2 / 4096 → slice_index_or (locks_of size ro all) block false ≡ all
upper-lock size block ro true allowed is =
    get_or-append (replicate (size / 4096) true) (drop (0 + size / 4096) no_locks) false block (omega (arith, sized size allowed, is, length-replicate (size / 4096) true))
    ∙ get_or-replicate (size / 4096) block true false (omega (arith, sized size allowed, is))
upper-lock size block true false allowed is =
    let half : ℕ = size / 2 / 4096 in
    let place : block ≡ length (replicate half true) + 0 = omega (arith, is, length-replicate half true) in
    ap (λ (n : ℕ). get_or (replicate half true ++ drop (0 + half) no_locks) n false) place
    ∙ get_or-append-add (replicate half true) (drop (0 + half) no_locks) 0 false
    ∙ get_or-drop (0 + half) no_locks 0 false
    ∙ get_or-replicate lock_count (0 + half + 0) false false (omega (arith, sized size allowed))
upper-lock size block false false allowed is = get_or-replicate lock_count block false false (omega (arith, sized size allowed, is))

-- a switch is read back
switch-is : (b : Bool) → (switch b == 1) ≡ b
switch-is true = refl
switch-is false = refl

-- what lasts behind a jump is what was kept of it
pub lasting-kept : (target : ImageCopy) (layout : Option TagLayout) (lasting : Lasting) (hash : HashView) → lasting.erase ≡ None →
    live_of (lasting_of target lasting.protect.ro_now lasting.protect.all_now (data_of layout lasting hash)) (shown_of (kept_of (data_of layout lasting hash))) ≡ arrived target (kept_live (is_some layout) (live_of lasting hash))
lasting-kept target None lasting hash free =
    ap (λ (job : Option EraseJob). let live : Live = record (arrived target (kept_live false (live_of lasting hash))) { erase = job } in live) (sym free)
lasting-kept target (Some layout) lasting hash free = by hash where
  made : Bool → Bool → Bool → Bool → Option EraseJob → HashView → Live
  made ro all bad off job shown = record (arrived target (live_of lasting hash)) { ro_now = ro; all_now = all; pstate_bad = bad; jump_off = off; erase = job; hash = shown }

  same : (shown : HashView) →
      made (switch lasting.protect.ro_now == 1) (switch lasting.protect.all_now == 1) (switch lasting.protect.bad == 1) (switch lasting.jump_off == 1) None shown
      ≡ made lasting.protect.ro_now lasting.protect.all_now lasting.protect.bad lasting.jump_off lasting.erase shown
  same shown =
      ap (λ (b : Bool). made b (switch lasting.protect.all_now == 1) (switch lasting.protect.bad == 1) (switch lasting.jump_off == 1) None shown) (switch-is lasting.protect.ro_now)
      ∙ ap (λ (b : Bool). made lasting.protect.ro_now b (switch lasting.protect.bad == 1) (switch lasting.jump_off == 1) None shown) (switch-is lasting.protect.all_now)
      ∙ ap (λ (b : Bool). made lasting.protect.ro_now lasting.protect.all_now b (switch lasting.jump_off == 1) None shown) (switch-is lasting.protect.bad)
      ∙ ap (λ (b : Bool). made lasting.protect.ro_now lasting.protect.all_now lasting.protect.bad b None shown) (switch-is lasting.jump_off)
      ∙ ap (λ (job : Option EraseJob). made lasting.protect.ro_now lasting.protect.all_now lasting.protect.bad lasting.jump_off job shown) (sym free)

  by : (hash : HashView) → made (switch lasting.protect.ro_now == 1) (switch lasting.protect.all_now == 1) (switch lasting.protect.bad == 1) (switch lasting.jump_off == 1) None (shown_of (finished hash))
      ≡ made lasting.protect.ro_now lasting.protect.all_now lasting.protect.bad lasting.jump_off lasting.erase (kept_hash hash)
  by Idle = same Idle
  by (Busy at size left) = same Idle
  by (Done at size digest) = same (Done at size digest)

-- switches are spelled
switch-small : (b : Bool) → is_switch (switch b) ≡ true
switch-small true = refl
switch-small false = refl

switches-small : (a b c d : Bool) → list_all is_switch (switch a ∷ switch b ∷ switch c ∷ switch d ∷ []) ≡ true
switches-small a b c d = rw (switch-small a, switch-small b, switch-small c, switch-small d) refl

pub data-switches : (layout : Option TagLayout) (lasting : Lasting) (hash : HashView) → has_switches (data_of layout lasting hash) ≡ true
data-switches None lasting hash = refl
data-switches (Some layout) lasting hash = switches-small lasting.protect.ro_now lasting.protect.all_now lasting.protect.bad lasting.jump_off

-- a hash that is kept is valid
finished-hashable : (extent : ℕ) (hash : HashView) (nonce : List ℕ) → IsHashable extent hash nonce → IsHashable extent (shown_of (finished hash)) []
finished-hashable extent Idle nonce valid = refl
finished-hashable extent (Busy at size left) nonce valid = refl
finished-hashable extent (Done at size digest) nonce valid = (valid.0, valid.1, valid.2, refl)

-- and it stands for the flash
finished-stands : (hash : HashView) (old new : HashState) (nonce flash : List ℕ) → StandsBy hash old nonce flash → StandsBy (shown_of (finished hash)) new nonce flash
finished-stands Idle old new nonce flash stands = tt
finished-stands (Busy at size left) old new nonce flash stands = tt
finished-stands (Done at size digest) old new nonce flash stands = stands

finished-meant : (o : Option (List ℕ)) (old new : HashState) → new.shown ≡ shown_of (finished old.shown) → IfSome o (IsMeant old) → IfSome o (IsMeant new)
finished-meant None old new shown meant = tt
finished-meant (Some flash) old new shown meant =
    (meant.0, subst (λ (hash : HashView). StandsBy hash new meant.0 flash) (sym shown) (finished-stands old.shown old new meant.0 flash meant.1))

none-meant : (o : Option (List ℕ)) (new : HashState) → new.shown ≡ Idle → IfSome o (IsMeant new)
none-meant None new shown = tt
none-meant (Some flash) new shown = ([], subst (λ (hash : HashView). StandsBy hash new [] flash) (sym shown) tt)

-- what holds of each controller holds behind a jump
pub jump-on : (target : ImageCopy) (layout : Option TagLayout) (ctl : CtlView) (pin : Bool) (lasting : Lasting) (old new : HashState) → IsOn ctl pin lasting old →
    new.shown ≡ shown_of (kept_of (data_of layout lasting old.shown)) → new.nonce ≡ [] → IsOn ctl pin (lasting_of target lasting.protect.ro_now lasting.protect.all_now (data_of layout lasting old.shown)) new
jump-on target None ctl pin lasting old new is shown same =
    record {
      size = is.size;
      valid = record {
        locks = is.valid.locks;
        all_with_ro = is.valid.all_with_ro;
        jumped = λ runs. refl;
        erase = tt;
        hash = rw (shown, same) refl;
        saved = omega arith;
      };
      meant = none-meant ctl.device.held new shown;
    }
jump-on target (Some layout) ctl pin lasting old new is shown same =
    record {
      size = is.size;
      valid = record {
        locks = rw (switch-is lasting.protect.ro_now, switch-is lasting.protect.all_now) is.valid.locks;
        all_with_ro = rw (switch-is lasting.protect.ro_now, switch-is lasting.protect.all_now) is.valid.all_with_ro;
        jumped = λ runs. refl;
        erase = tt;
        hash = rw (shown, same) (finished-hashable ctl.device.extent old.shown old.nonce is.valid.hash);
        saved = is.valid.saved;
      };
      meant = finished-meant ctl.device.held old new shown is.meant;
    }

-- what was decoded is what was encoded
pub decoded-same : (jump kept : JumpData) (o : Option JumpData) → o ≡ Some jump → o ≡ Some kept → jump ≡ kept
decoded-same jump kept o first second = cc

-- a jump that was granted
pub arrives : (target : ImageCopy) (old middle new : RunView) (layout : Option TagLayout) → is_denied_on old target ≡ false → IsSeen target old middle (Ok layout) →
    new ≡ record middle { live = arrived target (kept_live (is_some layout) middle.live); nonce = [] } → Arrives target old new
arrives target old middle new layout granted seen made =
    subst (Arrives target old) (sym (made ∙ ap (λ (run : RunView). let next : RunView = record run { live = arrived target (kept_live (is_some layout) run.live); nonce = [] } in next) seen.rest))
    (record {
      granted = granted;
      told = by old.device.held middle.device.held seen.seen.1.held seen.seen.0;
      all = is_some layout;
      live = refl;
      pin = refl;
      looked = seen.seen.1;
    }) where
      after : RunView
      after = record old { device = middle.device; live = arrived target (kept_live (is_some layout) old.live); nonce = [] }

      by : (o p : Option (List ℕ)) → p ≡ o → IfSome o (λ flash. (has_vector flash target ≡ true) × (is_some layout ≡ keeps_all flash old.live.copy)) →
          Changes (IsJump target) (option_map (core_at old) o) (option_map (core_at after) p)
      by None None same here = tt
      by None (Some g) same here = cc
      by (Some f) None same here = cc
      by (Some f) (Some g) same here =
          let flash : g ≡ f = cc in
          record {
            vector = here.0;
            jumped = ap (λ (bytes : List ℕ). core_at after bytes) flash
                ∙ ap (λ (all : Bool). let core : Core = record (core_at old f) { live = arrived target (kept_live all old.live); nonce = [] } in core) here.1;
          }

-- a jump that was refused behind a look
pub turned : (target : ImageCopy) (old middle : RunView) (no : JumpNo) → is_denied_on old target ≡ false → IsSeen target old middle (Err no) → IsRefused target old middle no
turned target old middle Denied granted seen = absurd seen.seen
turned target old middle Vector granted seen =
    (record { granted = granted; rest = seen.rest; looked = seen.seen.1 }, rw seen.rest (by old.device.held middle.device.held seen.seen.1.held seen.seen.0)) where
      by : (o p : Option (List ℕ)) → p ≡ o → IfSome o (λ flash. has_vector flash target ≡ false) → Changes (IsOutside target) (option_map (core_at old) o) (option_map (core_at (record old { device = middle.device })) p)
      by None None same here = tt
      by None (Some g) same here = cc
      by (Some f) None same here = cc
      by (Some f) (Some g) same here = here
turned target old middle Fault granted seen = record { granted = granted; rest = seen.rest; looked = seen.seen }

-- a jump keeps the guard
pub arrives-guard : (target : ImageCopy) (old new : RunView) → Arrives target old new → Changes KeepsGuard (told_core old) (told_core new)
arrives-guard target old new arrived_ = guard-kept old new arrived_.looked.held arrived_.pin (ap (λ (live : Live). live.ro_now) arrived_.live)

pub refused-guard : (target : ImageCopy) (old new : RunView) (no : JumpNo) → IsRefused target old new no → Changes KeepsGuard (told_core old) (told_core new)
refused-guard target old new Denied refused = guard-kept old new (ap (λ (run : RunView). run.device.held) refused.1) (ap (λ (run : RunView). run.pin) refused.1) (ap (λ (run : RunView). run.live.ro_now) refused.1)
refused-guard target old new Vector refused = guard-kept old new refused.0.looked.held (ap (λ (run : RunView). run.pin) refused.0.rest) (ap (λ (run : RunView). run.live.ro_now) refused.0.rest)
refused-guard target old new Fault refused = guard-kept old new refused.looked.held (ap (λ (run : RunView). run.pin) refused.rest) (ap (λ (run : RunView). run.live.ro_now) refused.rest)

-- the image that a refused jump leaves
pub refused-copy : (target : ImageCopy) (old new : RunView) (no : JumpNo) → IsRefused target old new no → new.live.copy ≡ old.live.copy
refused-copy target old new Denied refused = ap (λ (run : RunView). run.live.copy) refused.1
refused-copy target old new Vector refused = ap (λ (run : RunView). run.live.copy) refused.0.rest
refused-copy target old new Fault refused = ap (λ (run : RunView). run.live.copy) refused.rest

-- the pair of a range
range-first : (at size : ℕ) (range : ℕ × ℕ) → range ≡ (at, size) → (range.0 ≡ at) × (range.1 ≡ size)
range-first at size range same = (ap (λ (r : ℕ × ℕ). r.0) same, ap (λ (r : ℕ × ℕ). r.1) same)

-- the head was read, and this is what is known of the vector
head-told : {T E : Type 0} (target : ImageCopy) (ctl after : CtlView) (pin : Bool) (lasting : Lasting) (hash : HashState) (geometry : ℕ) (range : ℕ × ℕ) (out room : List ℕ) (x : T) (fits : Bool) → IsOn ctl pin lasting hash → geometry ≡ ctl.device.extent →
    IfSome ctl.device.held (λ bytes. length bytes ≡ ctl.device.extent) → range ≡ ((copy_range target geometry).at, (copy_range target geometry).size) → length room ≡ 8 → IsRead {T = T} {E = E} range.0 room out ctl.device after.device (Ok x) →
    fits ≡ vector_in (record { at = range.0; size = range.1 }) (u32_at 4 out) → IfSome ctl.device.held (λ flash. has_vector flash target ≡ fits)
head-told target ctl after pin lasting hash geometry range out room x fits is size whole range_is eight read tests =
    let parts = range-first (copy_range target geometry).at (copy_range target geometry).size range range_is in
    let place : range.0 ≡ (copy_range target ctl.device.extent).at = parts.0 ∙ ap (λ (n : ℕ). (copy_range target n).at) size in
    let same : (let r : Range = record { at = range.0; size = range.1 } in r) ≡ copy_range target ctl.device.extent =
    ap (λ (n : ℕ). let r : Range = record { at = n; size = range.1 } in r) parts.0 ∙ ap (λ (n : ℕ). let r : Range = record { at = (copy_range target geometry).at; size = n } in r) parts.1
    ∙ ap (copy_range target) size in
    vector-told ctl.device.held target out ctl.device.extent fits whole is.size
    (by ctl.device.held place read.bytes)
    (sym (tests ∙ ap (λ (r : Range). vector_in r (u32_at 4 out)) same)) where
      by : (o : Option (List ℕ)) → range.0 ≡ (copy_range target ctl.device.extent).at → IfSome o (λ bytes. out ≡ slice_range bytes range.0 (range.0 + length room)) →
          IfSome o (λ bytes. out ≡ slice_range bytes (copy_range target ctl.device.extent).at ((copy_range target ctl.device.extent).at + 8))
      by None place here = tt
      by (Some bytes) place here = here ∙ ap (λ (n : ℕ). slice_range bytes range.0 (range.0 + n)) eight ∙ ap (λ (n : ℕ). slice_range bytes n (n + 8)) place

-- the device of a controller, and its locks
rest-of : (ctl after : CtlView) (pin : Bool) (lasting : Lasting) (hash : HashState) → after.locks ≡ ctl.locks →
    run_by after pin lasting hash ≡ (let run : RunView = record (run_by ctl pin lasting hash) { device = after.device } in run)
rest-of ctl after pin lasting hash locks = ap (λ (l : List Bool). let run : RunView = record (run_by after pin lasting hash) { locks = l } in run) locks

-- a vector that lies outside
pub seen-outside : {T E : Type 0} (target : ImageCopy) (ctl after : CtlView) (pin : Bool) (lasting : Lasting) (hash : HashState) (geometry : ℕ) (range : ℕ × ℕ) (out room : List ℕ) (read : Result T E) (fits : Bool) → IsOn ctl pin lasting hash → geometry ≡ ctl.device.extent →
    IfSome ctl.device.held (λ bytes. length bytes ≡ ctl.device.extent) → range ≡ ((copy_range target geometry).at, (copy_range target geometry).size) → length room ≡ 8 → is_err read ≡ false → IsRead range.0 room out ctl.device after.device read → after.locks ≡ ctl.locks →
    fits ≡ vector_in (record { at = range.0; size = range.1 }) (u32_at 4 out) → fits ≡ false → IsSeen target (run_by ctl pin lasting hash) (run_by after pin lasting hash) (Err Vector)
seen-outside {T} {E} target ctl after pin lasting hash geometry range out room (Ok x) fits is size whole range_is eight done read locks tests outside =
    record {
      rest = rest-of ctl after pin lasting hash locks;
      seen = (
        subst (λ (b : Bool). IfSome ctl.device.held (λ flash. has_vector flash target ≡ b)) outside
            (head-told {T = T} {E = E} target ctl after pin lasting hash geometry range out room x fits is size whole range_is eight read tests),
        looked-once {T = T} {E = E} 8 9 range.0 room out ctl.device after.device x (omega (arith, eight)) read,
      );
    }
seen-outside target ctl after pin lasting hash geometry range out room (Err error) fits is size whole range_is eight done read locks tests outside = absurd (cc)

-- a vector that lies in the region, and the layout of the jump data
pub seen-all : {T E : Type 0} (target : ImageCopy) (ctl after : CtlView) (pin : Bool) (lasting : Lasting) (hash : HashState) (geometry : ℕ) (range : ℕ × ℕ) (out room : List ℕ) (read : Result T E) (fits : Bool) (last : RunView) (layout : Option TagLayout) → IsOn ctl pin lasting hash → geometry ≡ ctl.device.extent →
    IfSome ctl.device.held (λ bytes. length bytes ≡ ctl.device.extent) → range ≡ ((copy_range target geometry).at, (copy_range target geometry).size) → length room ≡ 8 → is_err read ≡ false → IsRead range.0 room out ctl.device after.device read → after.locks ≡ ctl.locks →
    fits ≡ vector_in (record { at = range.0; size = range.1 }) (u32_at 4 out) → fits ≡ true → IfSome after.device.held (λ flash. is_some layout ≡ keeps_all flash lasting.copy) → HasLooked Whole 1 after.device last.device →
    last ≡ record (run_by after pin lasting hash) { device = last.device } → IsSeen target (run_by ctl pin lasting hash) last (Ok layout)
seen-all {T} {E} target ctl after pin lasting hash geometry range out room (Ok x) fits last layout is size whole range_is eight done read locks tests inside told looked rest =
    record {
      rest = rest ∙ ap (λ (l : List Bool). let run : RunView = record (run_by ctl pin lasting hash) { device = last.device; locks = l } in run) locks;
      seen = (
        both ctl.device.held
            (subst (λ (b : Bool). IfSome ctl.device.held (λ flash. has_vector flash target ≡ b)) inside
            (head-told {T = T} {E = E} target ctl after pin lasting hash geometry range out room x fits is size whole range_is eight read tests))
            (subst (λ (o : Option (List ℕ)). IfSome o (λ flash. is_some layout ≡ keeps_all flash lasting.copy)) read.kept told),
        looked-then Whole 8 1 ctl.device after.device last.device (looked-once {T = T} {E = E} 8 8 range.0 room out ctl.device after.device x (omega (arith, eight)) read) looked,
      );
    } where
      both : (o : Option (List ℕ)) → IfSome o (λ flash. has_vector flash target ≡ true) → IfSome o (λ flash. is_some layout ≡ keeps_all flash lasting.copy) →
          IfSome o (λ flash. (has_vector flash target ≡ true) × (is_some layout ≡ keeps_all flash lasting.copy))
      both None first second = tt
      both (Some flash) first second = (first, second)
seen-all target ctl after pin lasting hash geometry range out room (Err error) fits last layout is size whole range_is eight done read locks tests inside told looked rest = absurd (cc)

-- what was passed on is what lasts behind the jump
pub passed-run : (target : ImageCopy) (layout : Option TagLayout) (ctl : CtlView) (pin : Bool) (lasting after : Lasting) (old new : HashState) (jump : JumpData) (ro all : Bool) → IsOn ctl pin lasting old → lasting.erase ≡ None →
    jump ≡ data_of layout lasting old.shown → ro ≡ slice_index_or ctl.locks 0 false → all ≡ slice_index_or ctl.locks (ctl.device.extent / 2 / 4096) false →
    after ≡ lasting_of target ro all jump → new.shown ≡ shown_of (kept_of jump) → new.nonce ≡ [] →
    (after ≡ lasting_of target lasting.protect.ro_now lasting.protect.all_now (data_of layout lasting old.shown)) × (new.shown ≡ shown_of (kept_of (data_of layout lasting old.shown)))
passed-run target layout ctl pin lasting after old new jump ro all is free jump_is ro_is all_is after_is shown same =
    let first : ro ≡ lasting.protect.ro_now = ro_is ∙ ap (λ (l : List Bool). slice_index_or l 0 false) is.valid.locks ∙ first-lock ctl.device.extent lasting.protect.ro_now lasting.protect.all_now is.size is.valid.all_with_ro in
    let upper : all ≡ lasting.protect.all_now =
    all_is ∙ ap (λ (l : List Bool). slice_index_or l (ctl.device.extent / 2 / 4096) false) is.valid.locks ∙ upper-lock ctl.device.extent (ctl.device.extent / 2 / 4096) lasting.protect.ro_now lasting.protect.all_now is.size refl in (
      after_is ∙ ap (λ (b : Bool). lasting_of target b all jump) first ∙ ap (λ (b : Bool). lasting_of target lasting.protect.ro_now b jump) upper
          ∙ ap (lasting_of target lasting.protect.ro_now lasting.protect.all_now) jump_is,
      shown ∙ ap (λ (j : JumpData). shown_of (kept_of j)) jump_is,
    )

pub passed-on : (target : ImageCopy) (layout : Option TagLayout) (ctl : CtlView) (pin : Bool) (lasting after : Lasting) (old new : HashState) → IsOn ctl pin lasting old →
    after ≡ lasting_of target lasting.protect.ro_now lasting.protect.all_now (data_of layout lasting old.shown) → new.shown ≡ shown_of (kept_of (data_of layout lasting old.shown)) → new.nonce ≡ [] → IsOn ctl pin after new
passed-on target layout ctl pin lasting after old new is after_is shown same =
    subst (λ (l : Lasting). IsOn ctl pin l new) (sym after_is) (jump-on target layout ctl pin lasting old new is shown same)

pub passed-live : (target : ImageCopy) (layout : Option TagLayout) (ctl : CtlView) (pin : Bool) (lasting after : Lasting) (old new : HashState) → lasting.erase ≡ None →
    after ≡ lasting_of target lasting.protect.ro_now lasting.protect.all_now (data_of layout lasting old.shown) → new.shown ≡ shown_of (kept_of (data_of layout lasting old.shown)) → new.nonce ≡ [] →
    run_by ctl pin after new ≡ (let run : RunView = record (run_by ctl pin lasting old) { live = arrived target (kept_live (is_some layout) (live_of lasting old.shown)); nonce = [] } in run)
passed-live target layout ctl pin lasting after old new free after_is shown same =
    ap (λ (l : Lasting). run_by ctl pin l new) after_is
    ∙ ap (λ (hash : HashView). let run : RunView = record (run_by ctl pin lasting old) { live = live_of (lasting_of target lasting.protect.ro_now lasting.protect.all_now (data_of layout lasting old.shown)) hash; nonce = new.nonce } in run) shown
    ∙ ap (λ (nonce : List ℕ). let run : RunView = record (run_by ctl pin lasting old) { live = live_of (lasting_of target lasting.protect.ro_now lasting.protect.all_now (data_of layout lasting old.shown)) (shown_of (kept_of (data_of layout lasting old.shown))); nonce = nonce } in run) same
    ∙ ap (λ (live : Live). let run : RunView = record (run_by ctl pin lasting old) { live = live; nonce = [] } in run) (lasting-kept target layout lasting old.shown free)

-- what was encoded is the spelling of what lasts
pub data-spelled : (layout : Option TagLayout) (lasting : Lasting) (hash view : HashView) (jump : JumpData) (items bytes : List ℕ) → view ≡ hash → jump ≡ data_of layout lasting view → items ≡ spelling jump → bytes ≡ items → bytes ≡ spelling (data_of layout lasting hash)
data-spelled layout lasting hash view jump items bytes view_is jump_is items_are bytes_are =
    bytes_are ∙ items_are ∙ ap spelling (jump_is ∙ ap (data_of layout lasting) view_is)
