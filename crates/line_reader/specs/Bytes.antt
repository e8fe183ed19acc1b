-- What a call for the next byte finds.
use Rattle.std.specs.Prelude.{◌≡◌, ℕ, ◌+◌, ◌<◌, ◌≤◌, ◌⊎◌, List, [], ◌∷◌, ◌++◌, length, Option, IfSome, Result, Ok, Err}
use Rattle.flash_dev.specs.declared.device.Failed.{Failed}
use Rattle.bench_io.specs.Streams.{Asks, asked_for}
use Rattle.line_reader.specs.declared.input.Came.{Came}
use Rattle.line_reader.specs.declared.input.Came.TheVariants.{Byte, End, Full}
use Rattle.line_reader.specs.Lines.{most_bytes}
use Rattle.line_reader.specs.Taking.{Takes}

-- the bytes that came and were not read yet, and how many were read
pub record InputView : Type 0 where
  pub ahead : List ℕ
  pub given : ℕ

-- at most one byte more came than a script has, and at most 4,096 of them wait
pub record IsWithin (ahead : List ℕ) (given : ℕ) : Type 0 where
  pub read : given ≤ most_bytes
  pub came : given + length ahead ≤ most_bytes + 1
  pub waiting : length ahead ≤ 4096

-- nothing is left, where that is told
abbrev pub NoneLeft : Option (List ℕ) → Type 0
NoneLeft rest = IfSome rest (λ bytes. bytes ≡ [])

-- what the answer says of all the bytes that were ahead or came, and of what is left
abbrev pub SaysByte : Result Came Failed → InputView → InputView → List ℕ → Option (List ℕ) → Type 0
SaysByte (Ok (Byte byte)) old new all rest = (all ≡ byte ∷ new.ahead) × (new.given ≡ old.given + 1)
SaysByte (Ok End) old new all rest = (all ≡ []) × (new.ahead ≡ []) × (new.given ≡ old.given) × NoneLeft rest
SaysByte (Ok Full) old new all rest = (1 ≤ length all) × (old.given ≡ most_bytes) × (all ≡ new.ahead) × (new.given ≡ old.given)
SaysByte (Err failed) old new all rest = (all ≡ []) × (new.ahead ≡ []) × (new.given ≡ old.given)

-- a byte was ahead, and the source was not asked; or none was, and it was asked once, and gave these bytes
abbrev pub AsksAtMostOnce : List ℕ → List ℕ → Asks → Asks → Type 0
AsksAtMostOnce ahead came before now = (0 < length ahead) × (came ≡ []) × (now ≡ before) ⊎ (ahead ≡ []) × (now ≡ asked_for (length came) before)

-- a call took these bytes from the source, and what it answered is true of those that were ahead and these
pub record FindsByte (result : Result Came Failed) (old new : InputView) (left rest : Option (List ℕ)) (before now : Asks) : Type 0 where
  pub came : List ℕ
  pub taken : Takes came left rest
  pub asks : AsksAtMostOnce old.ahead came before now
  pub says : SaysByte result old new (old.ahead ++ came) rest
