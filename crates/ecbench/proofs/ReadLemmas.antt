-- What was read of a line.
use Rattle.std.proofs.Common.{◌≡◌, refl, ap, ℕ, Bool, true, false, List, Result, Ok, Err, is_ok, ◌&&◌, if◌then◌else◌}
use Rattle.ec_types.specs.declared.why.Why.{Why}
use Rattle.script_words.specs.Forms.{◌>>=◌}
use Rattle.script_words.specs.Lines.{checked}
use Rattle.script_words.specs.Words.{words_of}
use Rattle.script_lines.specs.declared.line.Line.{Line}
use Rattle.script_lines.specs.declared.line.Line.TheVariants.{Nothing, Tool}
use Rattle.script_lines.specs.Lines.{line_of, line_by}
use Rattle.ecbench.specs.Lines.{deed_by, deed_of}

-- what a line wants, by what was read of it
pub deed-read : (text : List ℕ) (read : Line) → line_of text ≡ Ok read → deed_of text ≡ deed_by text read
deed-read text read same = ap (λ (outcome : Result Line Why). outcome >>= λ found. deed_by text found) same

checked-by : (idle : Bool) (check : Result (Unit {0}) Why) (others : Result Line Why) → (if idle && is_ok check then Ok Nothing else (check >>= λ _. others)) ≡ Ok Tool → check ≡ Ok tt
checked-by idle (Ok done) others read = refl
checked-by true (Err why) others read = cc read
checked-by false (Err why) others read = cc read

-- nothing is wrong with a line for another reader
pub tool-checked : (text : List ℕ) → line_of text ≡ Ok Tool → checked text ≡ Ok tt
tool-checked text read = checked-by _ (checked text) (line_by (words_of text)) read
