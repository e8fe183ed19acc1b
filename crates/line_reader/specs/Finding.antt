-- What a call for the next line finds.
use Rattle.std.specs.Prelude.{◌≡◌, ℕ, ◌+◌, ◌<◌, ◌≤◌, ◌⊎◌, List, [], ◌∷◌, ◌++◌, length, take, ◌-◌, Option, Result, Ok, Err}
use Rattle.flash_dev.specs.declared.device.Failed.{Failed}
use Rattle.bench_io.specs.Streams.{Asks}
use Rattle.line_reader.specs.declared.reader.Next.{Next}
use Rattle.line_reader.specs.declared.reader.Next.TheVariants.{Line, Last, End, TooLong, Full}
use Rattle.line_reader.specs.Lines.{most_bytes, longest_line, HasNoFeed, without_return}
use Rattle.line_reader.specs.Taking.{Takes}
use Rattle.line_reader.specs.Bytes.{NoneLeft}

-- the bytes that came and were not read yet, how many were read, and the line that was read last
pub record ReaderView : Type 0 where
  pub ahead : List ℕ
  pub given : ℕ
  pub line : List ℕ

-- a line that a line feed ends
pub record IsLine (old new : ReaderView) (all : List ℕ) : Type 0 where
  pub raw : List ℕ
  pub feedless : HasNoFeed raw
  pub bytes : all ≡ raw ++ 10 ∷ new.ahead
  pub read : new.given ≡ old.given + length raw + 1
  pub stripped : new.line ≡ without_return raw
  pub fits : length new.line ≤ longest_line

-- a last line, which the end of the input ends
pub record IsLast (old new : ReaderView) (all : List ℕ) (rest : Option (List ℕ)) : Type 0 where
  pub feedless : HasNoFeed all
  pub bytes : all ≡ new.line
  pub read : new.given ≡ old.given + length new.line
  pub some : 1 ≤ length new.line
  pub fits : length new.line ≤ longest_line
  pub ahead : new.ahead ≡ []
  pub left : NoneLeft rest

-- no byte came before the end of the input
pub record IsEnd (old new : ReaderView) (all : List ℕ) (rest : Option (List ℕ)) : Type 0 where
  pub bytes : all ≡ []
  pub read : new.given ≡ old.given
  pub ahead : new.ahead ≡ []
  pub left : NoneLeft rest

-- how a line is too long: without its end, whatever follows; where a line feed ends it; where the input ends; where a longer script is cut
abbrev pub IsOver : ℕ → List ℕ → List ℕ → Option (List ℕ) → Type 0
IsOver given raw more rest =
    (longest_line + 2 ≤ length raw) × (given + length raw ≤ most_bytes)
    ⊎ ((others : List ℕ) × (more ≡ 10 ∷ others) × (longest_line < length (without_return raw)) × (given + length raw < most_bytes))
    ⊎ (longest_line < length raw) × (given + length raw ≤ most_bytes) × (more ≡ []) × NoneLeft rest
    ⊎ (longest_line < length raw) × (given + length raw ≡ most_bytes) × (1 ≤ length more)

-- a line that is too long
pub record IsTooLong (old : ReaderView) (all : List ℕ) (rest : Option (List ℕ)) : Type 0 where
  pub raw : List ℕ
  pub more : List ℕ
  pub feedless : HasNoFeed raw
  pub bytes : all ≡ raw ++ more
  pub over : IsOver old.given raw more rest

-- a script that is longer than a script may be
pub record IsFull (old : ReaderView) (all : List ℕ) : Type 0 where
  pub raw : List ℕ
  pub more : List ℕ
  pub feedless : HasNoFeed raw
  pub bytes : all ≡ raw ++ more
  pub fits : length raw ≤ longest_line
  pub read : old.given + length raw ≡ most_bytes
  pub some : 1 ≤ length more

-- the source failed while no line was there: what had come of the line was read, and stands there as the line
pub record IsFailed (old new : ReaderView) (all : List ℕ) : Type 0 where
  pub feedless : HasNoFeed all
  pub read : old.given + length all ≤ most_bytes
  pub ahead : new.ahead ≡ []
  pub line : new.line ≡ all

-- what the answer says of all the bytes that were ahead or came, and of what is left
abbrev pub Says : Result Next Failed → ReaderView → ReaderView → List ℕ → Option (List ℕ) → Type 0
Says (Ok Line) old new all rest = IsLine old new all
Says (Ok Last) old new all rest = IsLast old new all rest
Says (Ok End) old new all rest = IsEnd old new all rest
Says (Ok TooLong) old new all rest = IsTooLong old all rest
Says (Ok Full) old new all rest = IsFull old all
Says (Err failed) old new all rest = IsFailed old new all

-- some of the bytes were read, of which none but the last one is a line feed, and the others are ahead
pub record Keeps (old new : ReaderView) (all : List ℕ) : Type 0 where
  pub read : List ℕ
  pub front : HasNoFeed (take (length read - 1) read)
  pub bytes : all ≡ read ++ new.ahead
  pub given : new.given ≡ old.given + length read

-- a call took these bytes from the source, and what it answered is true of those that were ahead and these
pub record Finds (result : Result Next Failed) (old new : ReaderView) (left rest : Option (List ℕ)) : Type 0 where
  pub came : List ℕ
  pub taken : Takes came left rest
  pub keeps : Keeps old new (old.ahead ++ came)
  pub says : Says result old new (old.ahead ++ came) rest

-- behind so many bytes of a script, these do not answer what is next: they hold no line, no line that is too long, and no more
-- than a script may have
pub record IsOpen (given : ℕ) (bytes : List ℕ) : Type 0 where
  pub feedless : HasNoFeed bytes
  pub short : length bytes ≤ longest_line + 1
  pub within : given + length bytes ≤ most_bytes

-- the source was not asked, or those bytes that were there before it was asked last did not answer
abbrev pub IsPatient : ReaderView → List ℕ → Asks → Asks → Type 0
IsPatient old came before now =
    (came ≡ []) × (now ≡ before) ⊎ IsOpen old.given (old.ahead ++ take (length came - now.last) came)

-- what a call found, and that it asked the source only as long as what was there did not answer
pub record Reads (result : Result Next Failed) (old new : ReaderView) (left rest : Option (List ℕ)) (before now : Asks) : Type 0 where
  pub finds : Finds result old new left rest
  pub patient : IsPatient old finds.came before now
