-- What a tick does to a hash.
use Rattle.std.proofs.Common.{◌≡◌, refl, sym, ap, ◌∙◌, subst, ℕ, ◌-◌, ◌≤◌, ◌<◌, arith, Bool, true, false, nat_le, if◌then◌else◌, List, [], ◌++◌, length, ◌+◌, ◌^◌, Option, Some, None, Result, Ok, Err}
use Rattle.std.specs.Prelude.{option_map, IfSome, OnOk, OnErr}
use Rattle.std.proofs.lemmas.Bool.{leb-false}
use Rattle.sha2.specs.Sha256.{sha256}
use Rattle.flash_dev.specs.Told.{Changes}
use Rattle.flash_dev.specs.declared.device.DevErr.TheVariants.{Failed as FailedErr}
use Rattle.flash_dev.specs.declared.hurt.Hurt.TheVariants.{Whole, Failed}
use Rattle.flash_dev.specs.View.{DeviceView}
use Rattle.flash_dev.specs.Costs.{Costs, hurt_of}
use Rattle.flash_dev.proofs.Accounting.{account-none}
use Rattle.flash_ctl.specs.Locks.{CtlView}
use Rattle.ec_model.specs.declared.live.HashView.{HashView}
use Rattle.ec_model.specs.declared.live.HashView.TheVariants.{Idle, Busy, Done}
use Rattle.ec_model.specs.Ranges.{is_flash_size, part}
use Rattle.ec_types.specs.declared.image.ImageCopy.TheVariants.{Ro}
use Rattle.flash_protect.specs.Locking.{Locks}
use Rattle.ec_model.specs.Table.{Core, IsHashable, ticks_of}
use Rattle.ec_model.specs.Hash.{with_hash, hash_ticked}
use Rattle.ec_model.specs.Work.{hash_work, HashNext}
use Rattle.vboot_hash.specs.Hashing.{HashState, Stands, StandsBy, IsTickedFrom, IsTicked as IsHashTick, IsNoHash, HasRead, next_bytes}
use Rattle.ec_boot.specs.declared.lasting.Lasting.{Lasting}
use Rattle.ec_boot.specs.States.{RunView, core_at, told_core}
use Rattle.ec_boot.specs.Shared.{run_by, IsMeant, IsOn}
use Rattle.ec_boot.specs.Ticked.{IsTicked, IsNextHash, LeavesTicked, device_result}
use Rattle.ec_boot.proofs.HashLemmas.{with_state}
use Rattle.ec_boot.proofs.OperatedLemmas.{on-kept}

-- a core with a hash that is the same
with-same : (core : Core) (old new : HashState) (hash : HashView) (nonce : List ℕ) → new.shown ≡ hash → new.nonce ≡ nonce → with_state new core ≡ with_hash hash nonce core
with-same core old new hash nonce shown same = ap (λ (h : HashView). with_hash h new.nonce core) shown ∙ ap (λ (n : List ℕ). with_hash hash n core) same

-- the next bytes of a hash are in it
ticked-core : (at size left : ℕ) (core : Core) (old new : HashState) → old.shown ≡ Busy at size left → IsHashTick at size left old new → IsMeant old core.flash →
    ((nonce : List ℕ) → Stands old nonce core.flash → Stands new nonce core.flash) → with_state new core ≡ hash_ticked (Busy at size left) (with_state old core)
ticked-core at size left core old new busy ticked meant keeps = by (nat_le left 1) refl where
  nonce : List ℕ
  nonce = meant.0

  own : old.nonce ≡ nonce
  own = (subst (λ (hash : HashView). StandsBy hash old nonce core.flash) busy meant.1).0

  by : (last : Bool) → nat_le left 1 ≡ last →
      with_state new core ≡ (if last then with_hash (Done at size (sha256 (old.nonce ++ part (record { at = at; size = size }) core.flash))) [] (with_state old core) else with_hash (Busy at size (left - 1)) old.nonce (with_state old core))
  by true is =
      let done = ticked.last is in
      let digest : done.digest ≡ sha256 (nonce ++ part (record { at = at; size = size }) core.flash) =
      subst (λ (hash : HashView). StandsBy hash new nonce core.flash) done.shown (keeps nonce meant.1) in
      with-same core old new (Done at size (sha256 (old.nonce ++ part (record { at = at; size = size }) core.flash))) []
      (done.shown ∙ ap (λ (d : List ℕ). Done at size d) digest ∙ ap (λ (n : List ℕ). Done at size (sha256 (n ++ part (record { at = at; size = size }) core.flash))) (sym own)) done.no_nonce
  by false is = let more = ticked.more is in with-same core old new (Busy at size (left - 1)) old.nonce more.0 more.1

-- where the flash tells its bytes
pub hashed-told : (T : Type 0) (x : T) (E : Type 0) (at size left : ℕ) (ctl after : CtlView) (pin : Bool) (lasting : Lasting) (old new : HashState) → old.shown ≡ Busy at size left → IsTickedFrom old.shown old new → IfSome ctl.device.held (IsMeant old) →
    ((nonce : List ℕ) → IfSome ctl.device.held (λ flash. Stands old nonce flash → Stands new nonce flash)) → HasRead {T = T} {E = E} (next_bytes old.shown) ctl.device after.device (Ok x) →
    Changes (λ before behind. IsTicked {T = T} HashNext ctl.device after.device before behind (Ok x)) (told_core (run_by ctl pin lasting old)) (told_core (run_by after pin lasting new))
hashed-told T x E at size left ctl after pin lasting old new busy ticked meant keeps read = by ctl.device.held after.device.held read.kept meant keeps where
  tick : IsHashTick at size left old new
  tick = subst (λ (hash : HashView). IsTickedFrom hash old new) busy ticked

  by : (o p : Option (List ℕ)) → p ≡ o → IfSome o (IsMeant old) → ((nonce : List ℕ) → IfSome o (λ flash. Stands old nonce flash → Stands new nonce flash)) →
      Changes (λ before behind. IsTicked {T = T} HashNext ctl.device after.device before behind (Ok x)) (option_map (core_at (run_by ctl pin lasting old)) o) (option_map (core_at (run_by after pin lasting new)) p)
  by None None same meant keeps = tt
  by None (Some g) same meant keeps = cc
  by (Some f) None same meant keeps = cc
  by (Some f) (Some g) same meant keeps =
      let flash : g ≡ f = some-same g f same in
      let core : Core = core_at (run_by ctl pin lasting old) f in (
        ap (λ (bytes : List ℕ). core_at (run_by after pin lasting new) bytes) flash ∙ ticked-core at size left core old new busy tick meant keeps
            ∙ ap (λ (hash : HashView). hash_ticked hash core) (sym busy),
        account-none Whole [] ctl.device after.device f g read.begun read.armed read.wear tt,
      ) where
        some-same : (g f : List ℕ) → Some g ≡ Some f → g ≡ f
        some-same g f same = cc

-- where the read failed
pub unread-told : (T E : Type 0) (error : E) (ctl after : CtlView) (pin : Bool) (lasting : Lasting) (old new : HashState) → IsNoHash new → HasRead {T = T} {E = E} (next_bytes old.shown) ctl.device after.device (Err error) →
    Changes (λ before behind. IsTicked {T = T} HashNext ctl.device after.device before behind (Err FailedErr)) (told_core (run_by ctl pin lasting old)) (told_core (run_by after pin lasting new))
unread-told T E error ctl after pin lasting old new none read = by ctl.device.held after.device.held read.kept where
  by : (o p : Option (List ℕ)) → p ≡ o →
      Changes (λ before behind. IsTicked {T = T} HashNext ctl.device after.device before behind (Err FailedErr)) (option_map (core_at (run_by ctl pin lasting old)) o) (option_map (core_at (run_by after pin lasting new)) p)
  by None None same = tt
  by None (Some g) same = cc
  by (Some f) None same = cc
  by (Some f) (Some g) same =
      let core : Core = core_at (run_by ctl pin lasting old) f in (
        ap (λ (o : Option (List ℕ)). core_at (run_by after pin lasting new) (bytes_of o)) same ∙ with-same core old new Idle [] none.idle none.no_nonce,
        account-none Failed [] ctl.device after.device f g read.begun read.armed read.wear read.faults.failed,
      ) where
        bytes_of : Option (List ℕ) → List ℕ
        bytes_of None = []
        bytes_of (Some bytes) = bytes

-- nothing to do
pub rests-told : (T : Type 0) (x : T) (run : RunView) → Changes (λ before behind. IsTicked {T = T} (hash_work Idle) run.device run.device before behind (Ok x)) (told_core run) (told_core run)
rests-told T x run = by run.device.held where
  by : (o : Option (List ℕ)) → Changes (λ before behind. IsTicked {T = T} (hash_work Idle) run.device run.device before behind (Ok x)) (option_map (core_at run) o) (option_map (core_at run) o)
  by None = tt
  by (Some f) = (refl, refl)

-- what one more tick shows of a hash
pub next-hash : (hash : HashView) (old new : HashState) → IsTickedFrom hash old new → IsNextHash hash old.nonce new.shown new.nonce
next-hash Idle old new ticked = ticked
next-hash (Busy at size left) old new ticked =
    ((λ last. let done = ticked.last last in record { digest = done.digest; shown = done.shown; long = done.long; no_nonce = done.no_nonce }), ticked.more)
next-hash (Done at size digest) old new ticked = ticked

-- a hash behind a tick is valid
ticked-hashable : (extent at size left : ℕ) (old new : HashState) → IsHashable extent (Busy at size left) old.nonce → IsHashTick at size left old new → IsHashable extent new.shown new.nonce
ticked-hashable extent at size left old new valid ticked = by (nat_le left 1) refl where
  by : (last : Bool) → nat_le left 1 ≡ last → IsHashable extent new.shown new.nonce
  by true is =
      let done = ticked.last is in
      subst (λ (hash : HashView). IsHashable extent hash new.nonce) (sym done.shown) (valid.0, valid.1, done.long, done.no_nonce)
  by false is =
      let more = ticked.more is in
      let many : 1 < left = leb-false left 1 is in
      subst (λ (hash : HashView). IsHashable extent hash new.nonce) (sym more.0)
      (subst (λ (nonce : List ℕ). IsHashable extent (Busy at size (left - 1)) nonce) (sym more.1) (valid.0, valid.1, omega (arith, many), omega (arith, valid.3), valid.4))

-- what holds of each controller holds behind the next bytes of its hash
pub hashed-on : (T : Type 0) (x : T) (E : Type 0) (at size left : ℕ) (ctl after : CtlView) (pin : Bool) (lasting : Lasting) (old new : HashState) → IsOn ctl pin lasting old → old.shown ≡ Busy at size left → IsTickedFrom old.shown old new →
    ((nonce : List ℕ) → IfSome ctl.device.held (λ flash. Stands old nonce flash → Stands new nonce flash)) → HasRead {T = T} {E = E} (next_bytes old.shown) ctl.device after.device (Ok x) → after.locks ≡ ctl.locks → IsOn after pin lasting new
hashed-on T x E at size left ctl after pin lasting old new is busy ticked keeps read locks =
    on-kept ctl after pin lasting old new is read.extent locks
    (ticked-hashable ctl.device.extent at size left old new (subst (λ (hash : HashView). IsHashable ctl.device.extent hash old.nonce) busy is.valid.hash) (subst (λ (hash : HashView). IsTickedFrom hash old new) busy ticked))
    (subst (λ (o : Option (List ℕ)). IfSome o (IsMeant new)) (sym read.kept) (by ctl.device.held is.meant keeps)) where
      by : (o : Option (List ℕ)) → IfSome o (IsMeant old) → ((nonce : List ℕ) → IfSome o (λ flash. Stands old nonce flash → Stands new nonce flash)) → IfSome o (IsMeant new)
      by None meant keeps = tt
      by (Some f) meant keeps = (meant.0, keeps meant.0 meant.1)

-- and where the read failed, or the hash is dropped
pub dropped-on : (ctl after : CtlView) (pin : Bool) (lasting : Lasting) (old new : HashState) → IsOn ctl pin lasting old → IsNoHash new → after.device.extent ≡ ctl.device.extent → after.locks ≡ ctl.locks → IsOn after pin lasting new
dropped-on ctl after pin lasting old new is none extent locks =
    on-kept ctl after pin lasting old new is extent locks
    (subst (λ (hash : HashView). IsHashable ctl.device.extent hash new.nonce) (sym none.idle) none.no_nonce)
    (by after.device.held) where
      by : (o : Option (List ℕ)) → IfSome o (IsMeant new)
      by None = tt
      by (Some f) = ([], subst (λ (hash : HashView). StandsBy hash new [] f) (sym none.idle) tt)

-- what the next bytes of a hash cost
pub hashed-costs : (T : Type 0) (x : T) (E : Type 0) (bytes : ℕ) (old new : DeviceView) → bytes ≤ 1024 → HasRead {T = T} {E = E} bytes old new (Ok x) → Costs Whole 1024 old new
hashed-costs T x E bytes old new few read =
    record {
      extent = read.extent;
      faults = read.faults.later;
      cuts = read.cuts;
      own_cuts = read.own_cuts;
      rose = tt;
      refusals = read.refusals;
      fetched = record { least = omega (arith, read.fetched); most = omega (arith, read.fetched, few) };
    }

pub unread-costs : (T E : Type 0) (error : E) (bytes : ℕ) (old new : DeviceView) → bytes ≤ 1024 → HasRead {T = T} {E = E} bytes old new (Err error) → Costs Failed 1024 old new
unread-costs T E error bytes old new few read =
    record {
      extent = read.extent;
      faults = read.faults.later;
      cuts = read.cuts;
      own_cuts = read.own_cuts;
      rose = read.faults.failed;
      refusals = read.refusals;
      fetched = record { least = omega (arith, read.fetched); most = omega (arith, read.fetched, few) };
    }

-- a tick covers at most 1,024 bytes
pub few-bytes : (hash : HashView) → next_bytes hash ≤ 1024
few-bytes Idle = omega arith
few-bytes (Busy at size left) = omega arith
few-bytes (Done at size digest) = omega arith

-- a hash that begins is valid
started-hashable : (extent : ℕ) (new : HashState) (at size : ℕ) (nonce : List ℕ) → 1 ≤ size → at + size ≤ extent → length nonce ≤ 64 → new.shown ≡ Busy at size (ticks_of size) → new.nonce ≡ nonce → IsHashable extent new.shown new.nonce
started-hashable extent new at size nonce some inside short shown same =
    rw (shown, same) (some, inside, omega (arith, some), omega arith, short)

-- and stands for each flash
started-meant : (o : Option (List ℕ)) (new : HashState) (nonce : List ℕ) → ((flash : List ℕ) → Stands new nonce flash) → IfSome o (IsMeant new)
started-meant None new nonce stands = tt
started-meant (Some flash) new nonce stands = (nonce, stands flash)

-- a hash that is started
pub started-on : (ctl : CtlView) (pin : Bool) (lasting : Lasting) (old new : HashState) (at size : ℕ) (nonce : List ℕ) → IsOn ctl pin lasting old → 1 ≤ size → at + size ≤ ctl.device.extent → length nonce ≤ 64 →
    new.shown ≡ Busy at size (ticks_of size) → new.nonce ≡ nonce → ((flash : List ℕ) → Stands new nonce flash) → IsOn ctl pin lasting new
started-on ctl pin lasting old new at size nonce is some inside short shown same stands =
    on-kept ctl ctl pin lasting old new is refl refl (started-hashable ctl.device.extent new at size nonce some inside short shown same) (started-meant ctl.device.held new nonce stands)

-- what a boot leaves
pub boot-on : (ctl : CtlView) (pin : Bool) (lasting : Lasting) (hash : HashState) (at size : ℕ) → is_flash_size ctl.device.extent ≡ true → Locks lasting.protect ctl → lasting.copy ≡ Ro → lasting.erase ≡ None → lasting.saved < 2 ^ 16 →
    at + size ≤ ctl.device.extent → 1 ≤ size → hash.shown ≡ Busy at size (ticks_of size) → hash.nonce ≡ [] → ((flash : List ℕ) → Stands hash [] flash) → IsOn ctl pin lasting hash
boot-on ctl pin lasting hash at size allowed locks runs free small inside some shown same stands =
    record {
      size = allowed;
      valid = record {
        locks = locks.locks;
        all_with_ro = locks.all_with_ro;
        jumped = λ other. cc;
        erase = rw free tt;
        hash = started-hashable ctl.device.extent hash at size [] some inside (omega arith) shown same;
        saved = small;
      };
      meant = started-meant ctl.device.held hash [] stands;
    }

-- the next bytes of a hash, read or not
pub hash-told : {T E : Type 0} (at size left : ℕ) (ctl after : CtlView) (pin : Bool) (lasting : Lasting) (old new : HashState) (read : Result T E) → old.shown ≡ Busy at size left → OnOk read (IsTickedFrom old.shown old new) → OnErr read (IsNoHash new) →
    IfSome ctl.device.held (IsMeant old) → ((nonce : List ℕ) → IfSome ctl.device.held (λ flash. Stands old nonce flash → Stands new nonce flash)) → HasRead (next_bytes old.shown) ctl.device after.device read →
    Changes (λ before behind. IsTicked (hash_work old.shown) ctl.device after.device before behind (device_result read)) (told_core (run_by ctl pin lasting old)) (told_core (run_by after pin lasting new))
hash-told {T} {E} at size left ctl after pin lasting old new (Ok x) busy ticked failed meant keeps read =
    subst (λ (hash : HashView). Changes (λ before behind. IsTicked {T = T} (hash_work hash) ctl.device after.device before behind (Ok x)) (told_core (run_by ctl pin lasting old)) (told_core (run_by after pin lasting new))) (sym busy)
    (hashed-told T x E at size left ctl after pin lasting old new busy ticked meant keeps read)
hash-told {T} {E} at size left ctl after pin lasting old new (Err error) busy ticked failed meant keeps read =
    subst (λ (hash : HashView). Changes (λ before behind. IsTicked {T = T} (hash_work hash) ctl.device after.device before behind (Err FailedErr)) (told_core (run_by ctl pin lasting old)) (told_core (run_by after pin lasting new))) (sym busy)
    (unread-told T E error ctl after pin lasting old new failed read)

pub hash-on : {T E : Type 0} (at size left : ℕ) (ctl after : CtlView) (pin : Bool) (lasting : Lasting) (old new : HashState) (read : Result T E) → IsOn ctl pin lasting old → old.shown ≡ Busy at size left → OnOk read (IsTickedFrom old.shown old new) → OnErr read (IsNoHash new) →
    ((nonce : List ℕ) → IfSome ctl.device.held (λ flash. Stands old nonce flash → Stands new nonce flash)) → HasRead (next_bytes old.shown) ctl.device after.device read → after.locks ≡ ctl.locks → IsOn after pin lasting new
hash-on {T} {E} at size left ctl after pin lasting old new (Ok x) is busy ticked failed keeps read locks = hashed-on T x E at size left ctl after pin lasting old new is busy ticked keeps read locks
hash-on {T} {E} at size left ctl after pin lasting old new (Err error) is busy ticked failed keeps read locks = dropped-on ctl after pin lasting old new is failed read.extent locks

pub hash-leaves : {T E : Type 0} (at size left : ℕ) (ctl after : CtlView) (pin : Bool) (lasting : Lasting) (old new : HashState) (read : Result T E) → old.shown ≡ Busy at size left → OnOk read (IsTickedFrom old.shown old new) → OnErr read (IsNoHash new) →
    after.locks ≡ ctl.locks → LeavesTicked HashNext (run_by ctl pin lasting old) (run_by after pin lasting new) (device_result read)
hash-leaves at size left ctl after pin lasting old new (Ok x) busy ticked failed locks = (ap (λ (l : List Bool). let run : RunView = record (run_by after pin lasting new) { locks = l } in run) locks, next-hash old.shown old new ticked)
hash-leaves at size left ctl after pin lasting old new (Err error) busy ticked failed locks = (ap (λ (l : List Bool). let run : RunView = record (run_by after pin lasting new) { locks = l } in run) locks, (failed.idle, failed.no_nonce))

pub hash-costs : {T E : Type 0} (hash : HashView) (old new : DeviceView) (read : Result T E) → HasRead (next_bytes hash) old new read → Costs (hurt_of (device_result read)) 1024 old new
hash-costs {T} {E} hash old new (Ok x) read = hashed-costs T x E (next_bytes hash) old new (few-bytes hash) read
hash-costs {T} {E} hash old new (Err error) read = unread-costs T E error (next_bytes hash) old new (few-bytes hash) read
