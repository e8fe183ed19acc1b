-- A hash of a range of the flash while it is taken, a part of the range in each tick.
use Rattle.std.specs.Prelude.{◌≡◌, ℕ, ◌+◌, ◌-◌, ◌*◌, ◌<◌, ◌≤◌, ◌^◌, min, nat_le, Bool, true, false, IsTrue, IsFalse, List, [], ◌++◌, length, Result, ⊤}
use Rattle.sha2.specs.Sha256.{sha256}
use Rattle.sha2.specs.Hashers.{Holds256}
use Rattle.sha2.specs.declared.Sha256.{Sha256}
use Rattle.ec_model.specs.declared.live.HashView.{HashView}
use Rattle.ec_model.specs.declared.live.HashView.TheVariants.{Idle, Busy, Done}
use Rattle.flash_dev.specs.Counts.{HasFaults, raised_by, refused_after}
use Rattle.flash_dev.specs.View.{DeviceView}
use Rattle.ec_model.specs.Ranges.{part}
use Rattle.ec_model.specs.Table.{ticks_of}

-- a hash: what is shown of it, the nonce of a busy one, and the running digest
pub record HashState : Type 0 where
  pub shown : HashView
  pub nonce : List ℕ
  pub running : Sha256

-- a busy hash has a range of some bytes and ticks to come; only a busy one has a nonce
abbrev pub IsHashing : HashView → List ℕ → Type 0
IsHashing Idle nonce = nonce ≡ []
IsHashing (Busy at size left) nonce =
    (1 ≤ size) × (at + size < 2 ^ 32) × (1 ≤ left) × (left ≤ ticks_of size) × (length nonce ≤ 64)
IsHashing (Done at size digest) nonce = nonce ≡ []

-- whether a hash is busy
abbrev pub is_busy : HashView → Bool
is_busy Idle = false
is_busy (Busy at size left) = true
is_busy (Done at size digest) = false

-- the bytes of a range that the ticks covered of which so many are left
abbrev pub covered : ℕ → ℕ → ℕ
covered size left = 1024 * (ticks_of size - left)

-- the bytes that the next tick of a busy hash covers: 1,024, or what is left of its range
abbrev pub next_bytes : HashView → ℕ
next_bytes Idle = 0
next_bytes (Busy at size left) = min 1024 (size - covered size left)
next_bytes (Done at size digest) = 0

-- the range of a busy hash ends within a flash of so many bytes
abbrev pub EndsWithin : ℕ → HashView → Type 0
EndsWithin extent Idle = ⊤
EndsWithin extent (Busy at size left) = at + size ≤ extent
EndsWithin extent (Done at size digest) = ⊤

-- A hash stands for a nonce and a flash: the running digest of a busy one holds the nonce and then the bytes that the
-- finished ticks covered, as the flash has them; the digest of a done one is that of the nonce and of its range.
abbrev pub StandsBy : HashView → HashState → List ℕ → List ℕ → Type 0
StandsBy Idle hash nonce flash = ⊤
StandsBy (Busy at size left) hash nonce flash =
    (hash.nonce ≡ nonce) × Holds256 hash.running (nonce ++ part (record { at = at; size = covered size left }) flash)
StandsBy (Done at size digest) hash nonce flash =
    digest ≡ sha256 (nonce ++ part (record { at = at; size = size }) flash)

abbrev pub Stands : HashState → (nonce flash : List ℕ) → Type 0
Stands hash nonce flash = StandsBy hash.shown hash nonce flash

-- the last tick was taken: a digest is shown, and the nonce is gone
pub record IsFinished (at size : ℕ) (new : HashState) : Type 0 where
  pub digest : List ℕ
  pub shown : new.shown ≡ Done at size digest
  pub long : length digest ≡ 32
  pub no_nonce : new.nonce ≡ []

-- a tick was taken: the last one, or one less is left
pub record IsTicked (at size left : ℕ) (old new : HashState) : Type 0 where
  pub last : IsTrue (nat_le left 1) → IsFinished at size new
  pub more : IsFalse (nat_le left 1) → (new.shown ≡ Busy at size (left - 1)) × (new.nonce ≡ old.nonce)

-- the same of a hash that was busy
abbrev pub IsTickedFrom : HashView → HashState → HashState → Type 0
IsTickedFrom Idle old new = ⊥
IsTickedFrom (Busy at size left) old new = IsTicked at size left old new
IsTickedFrom (Done at size digest) old new = ⊥

-- a hash that is none
pub record IsNoHash (hash : HashState) : Type 0 where
  pub idle : hash.shown ≡ Idle
  pub no_nonce : hash.nonce ≡ []

-- one read of so many bytes, which changed none and began no operation
pub record HasRead {T E : Type 0} (count : ℕ) (old new : DeviceView) (result : Result T E) : Type 0 where
  pub kept : new.held ≡ old.held
  pub extent : new.extent ≡ old.extent
  pub faults : HasFaults old.faults new.faults result
  pub cuts : old.cuts ≤ new.cuts
  pub own_cuts : old.own_cuts ≤ new.own_cuts
  pub refusals : new.refusals ≡ refused_after result old.refusals
  pub begun : new.begun ≡ old.begun
  pub armed : new.armed ≡ old.armed
  pub wear : new.wear ≡ old.wear
  pub fetched : new.fetched ≡ raised_by count old.fetched
