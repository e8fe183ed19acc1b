use Rattle.std.proofs.Common.{sym, ◌∙◌, refl, ◌+◌, ◌-◌, ◌||◌, false, [], ◌++◌, arith}
use Rattle.ec_wire.proofs.Growth.{grows-nil, grows-then}
use Rattle.host_transport.specs.Asking.{host_view}
use Rattle.sync_engine.proofs.Loops.{goes-on}
use Rattle.sync_engine.proofs.Rounding.{SyncsFrom, round-more, round-last, round-none, round-at, ends-with}
use Rattle.sync_engine.proofs.rounds.sync_in.Goals as goal

pub loop-count-init : goal.loop-count-init
loop-count-init g c = record { added = []; grows = grows-nil _; rest = λ more end part. part }

pub returns-in-Some : goal.returns-in-Some
returns-in-Some g c =
    let so_far = c.loop-count.invariant in
    let left = 3 - (c.loop-count.count + 1) in
    let round = round-at left _ c.args.image.now _ _ so_far.added _ _ _ (omega arith) so_far.grows c.round-end.ensures.round in
    record {
      syncs = ends-with c.args.image.now (3 - c.loop-count.count) c.loop-count.wrote _ so_far.added c.round-end.ensures.round.added _ _ _ so_far.grows c.round-end.ensures.round.grows so_far.rest
          (round-last left _ _ _ _ _ _ _ _ _ (omega arith) (sym c.in-Some.is ∙ c.sync_end.ensures) round);
    }

pub loop-count-preserved : goal.loop-count-preserved
loop-count-preserved g c =
    let so_far = c.loop-count.invariant in
    let left = 3 - (c.loop-count.count + 1) in
    let step = c.round-end.ensures.round in
    let bus = (g.W.Wire.view c.args.w.now).bus in
    let image = c.args.image.now in
    let round = round-at left _ image _ _ so_far.added _ _ _ (omega arith) so_far.grows step in
    record {
      added = so_far.added ++ step.added;
      grows = grows-then _ _ _ _ _ so_far.grows step.grows;
      rest = goes-on (SyncsFrom image 3 false bus) (SyncsFrom image (3 - c.loop-count.count) c.loop-count.wrote bus) (SyncsFrom image left (c.loop-count.wrote || c.round-end.result.wrote) bus)
          (host_view (g.W.Wire.view c.args.w.now)) so_far.added step.added _ _ so_far.rest step.grows
          (round-more left _ c.loop-count.wrote c.round-end.result.wrote _ bus image _ step.added _ (omega arith) refl (sym c.in-None.is ∙ c.sync_end.ensures) round);
    }

pub returns : goal.returns
returns g c =
    let so_far = c.loop-count.invariant in
    record { syncs = ends-with c.args.image.now (3 - c.loop-count.count) c.loop-count.wrote _ so_far.added [] _ _ _ so_far.grows (grows-nil _) so_far.rest (round-none _ _ _ _ _ (omega arith)) }
