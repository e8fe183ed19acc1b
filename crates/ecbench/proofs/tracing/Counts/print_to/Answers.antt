use Rattle.std.proofs.Common.{refl}
use Rattle.ecbench.proofs.tracing.Counts.print_to.Goals as goal

pub returns-clause-text : goal.returns-clause-text
returns-clause-text c =
    rw (c.append.ensures, c.append_count-3.ensures.text, c.append_count-2.ensures.text, c.append_count.ensures.text, c.requires) refl
