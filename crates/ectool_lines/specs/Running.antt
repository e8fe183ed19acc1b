-- A line, carried out and printed.
use Rattle.std.specs.Prelude.{◌≡◌, ◌≤◌, ℕ, List, [], Option, Result, Ok, Err}
pub use Rattle.bench_io.specs.Printing.{Appends, AppendsFront}
use Rattle.bench_io.specs.declared.printing.PrintErr.{PrintErr}
use Rattle.bench_io.specs.declared.printing.PrintErr.TheVariants.{Sink, NoMemory}
use Rattle.ec_wire.specs.Calls.{WireView, with_spare}
use Rattle.ectool_lines.specs.declared.tool.Tool.{Tool}
use Rattle.ectool_lines.specs.Asking.{CarriesTool}

-- room was made on the wire, for 200,000 entries at least, and the line was carried out; this is its text
pub record Carries (tool : Tool) (text : List ℕ) (old new : WireView) : Type 0 where
  pub spare : ℕ
  pub enough : 200000 ≤ spare
  pub carried : CarriesTool tool text (with_spare spare old) new

-- the line was carried out and its text printed, all of it or at a fault of the sink a front of it; or memory was refused,
-- and nothing happened
abbrev pub RunsTool : Result (Unit {0}) PrintErr → Tool → WireView → WireView → Option (List ℕ) → Option (List ℕ) → Type 0
RunsTool (Ok done) tool old new before after = (text : List ℕ) × Carries tool text old new × Appends text before after
RunsTool (Err Sink) tool old new before after = (text : List ℕ) × Carries tool text old new × AppendsFront text before after
RunsTool (Err NoMemory) tool old new before after = (new ≡ old) × Appends [] before after
