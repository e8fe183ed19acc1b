use Rattle.ec_model.specs.Upset.{is_world}
use Rattle.ecbench.specs.Tracing.{is_access, is_tick}
use Rattle.ecbench.proofs.Tracings.{counts-more, one-at-most}
use Rattle.ecbench.proofs.tracing.Counts.since.Goals as goal

pub loop-i-preserved : goal.loop-i-preserved
loop-i-preserved c =
    let entries = c.args.journal.now.entries in
    let entry = c.get.result in (
      counts-more is_access entries c.args.since c.loop-i.i c.loop-i.counts.accesses c.add.new.self.accesses entry c.get.ensures c.add.ensures.accesses (one-at-most is_access entry) c.loop-i.invariant.0,
      counts-more is_tick entries c.args.since c.loop-i.i c.loop-i.counts.ticks c.add.new.self.ticks entry c.get.ensures c.add.ensures.ticks (one-at-most is_tick entry) c.loop-i.invariant.1,
      counts-more is_world entries c.args.since c.loop-i.i c.loop-i.counts.world_events c.add.new.self.world_events entry c.get.ensures c.add.ensures.world (one-at-most is_world entry) c.loop-i.invariant.2,
    )
