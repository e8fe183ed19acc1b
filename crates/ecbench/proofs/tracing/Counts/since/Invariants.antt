use Rattle.ec_model.specs.Upset.{is_world}
use Rattle.ecbench.specs.Tracing.{is_access, is_tick}
use Rattle.ecbench.proofs.Tracings.{CountsOn}
use Rattle.ecbench.proofs.tracing.Counts.since.Given as goal

abbrev pub invariant-loop-i : goal.invariant-loop-i
invariant-loop-i l =
    CountsOn is_access l.journal.entries l.since l.i l.counts.accesses × CountsOn is_tick l.journal.entries l.since l.i l.counts.ticks
    × CountsOn is_world l.journal.entries l.since l.i l.counts.world_events
