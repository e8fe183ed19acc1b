-- What a read takes from a source, and what a write adds to a sink.
use Rattle.std.specs.Prelude.{◌≡◌, ◌<◌, ℕ, List, [], ◌++◌, length, take, Result, Ok, Err}
use Rattle.flash_dev.specs.Counts.{raised_by}
use Rattle.flash_dev.specs.declared.device.Failed.{Failed}

-- how often a source was asked, and how many bytes it gave when it was asked last
pub record Asks : Type 0 where
  pub calls : ℕ
  pub last : ℕ

-- the source was asked once more, and gave so many bytes
abbrev pub asked_for : ℕ → Asks → Asks
asked_for count asks = record { calls = raised_by 1 asks.calls; last = count }

-- a read put the first bytes of what was left into the buffer, and none only at the end; a failure takes nothing
abbrev pub Gives : Result ℕ Failed → List ℕ → List ℕ → List ℕ → Type 0
Gives (Ok count) buffer old new = (take count buffer ++ new ≡ old) × (count ≡ 0 → old ≡ [])
Gives (Err failed) buffer old new = new ≡ old

-- a write added the first bytes; a failure adds nothing
abbrev pub Puts : Result ℕ Failed → List ℕ → List ℕ → List ℕ → Type 0
Puts (Ok count) bytes old new = new ≡ old ++ take count bytes
Puts (Err failed) bytes old new = new ≡ old

-- all the bytes were added, or at a failure the first of them, and not all
abbrev pub PutsAll : {T : Type 0} → Result T Failed → List ℕ → List ℕ → List ℕ → Type 0
PutsAll (Ok done) bytes old new = new ≡ old ++ bytes
PutsAll (Err failed) bytes old new = (count : ℕ) × (count < length bytes) × (new ≡ old ++ take count bytes)
