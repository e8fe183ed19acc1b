-- Texts that are put together, and printed.
use Rattle.std.proofs.Common.{◌≡◌, sym, ap, ◌∙◌, subst, ℕ, List, ◌++◌, append_assoc, Option, Result, Ok, Err}
use Rattle.std.specs.Prelude.{IsErr, IsErrAnd}
use Rattle.ec_wire.specs.Calls.{WireView}
use Rattle.bench_io.specs.Texts.{printed}
use Rattle.bench_io.specs.Printing.{Prints}
use Rattle.bench_io.specs.declared.printing.PrintErr.{PrintErr}
use Rattle.bench_io.specs.declared.printing.PrintErr.TheVariants.{Sink, NoMemory}
use Rattle.bench_shelf.specs.Shelves.{File}
use Rattle.sync_lines.specs.declared.line.SyncLineErr.{SyncLineErr}
use Rattle.sync_lines.specs.Syncing.{SyncsName, RunsSync, error_of_print}

-- two parts behind one that was there
pub two-parts : (old first second middle new text : List ℕ) → middle ≡ old ++ first → new ≡ middle ++ second → text ≡ first ++ second → new ≡ old ++ text
two-parts old first second middle new text once again same =
    again ∙ ap (λ (front : List ℕ). front ++ second) once ∙ append_assoc old first second ∙ ap (λ (behind : List ℕ). old ++ behind) (sym same)

-- a text that was not printed whole
pub print-stopped : (result : Result (Unit {0}) SyncLineErr) (error : PrintErr) (files : Option (List File)) (size : ℕ) (name text : List ℕ) (old new : WireView) (before after : Option (List ℕ)) →
    IsErr result × IsErrAnd result (λ cause. cause ≡ error_of_print error) → SyncsName files size name text old new → Prints (Err error) (printed text) before after → RunsSync result files size name old new before after
print-stopped (Ok done) error files size name text old new before after (never, same) synced prints = cc
print-stopped (Err cause) Sink files size name text old new before after (is, same) synced prints =
    subst (λ (e : SyncLineErr). RunsSync (Err e) files size name old new before after) (sym same) (text, synced, prints)
print-stopped (Err cause) NoMemory files size name text old new before after (is, same) synced prints = absurd prints
