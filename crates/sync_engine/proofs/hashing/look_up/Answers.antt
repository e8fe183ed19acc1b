use Rattle.std.proofs.Common.{◌+◌, ◌-◌, ◌++◌, [], None, Ok, arith}
use Rattle.ec_wire.proofs.Growth.{grows-nil, grows-then}
use Rattle.host_transport.specs.Asking.{host_view, setting_of}
use Rattle.host_transport.proofs.WireParts.{part-at}
use Rattle.sync_rules.specs.Steps.{Looks, LooksUpTo}
use Rattle.sync_engine.proofs.Loops.{goes-on, goes-end}
use Rattle.sync_engine.proofs.Looking.{look-more, look-last, look-stops, look-none}
use Rattle.sync_engine.proofs.hashing.look_up.Goals as goal

pub loop-look-init : goal.loop-look-init
loop-look-init g c = record { added = []; grows = grows-nil _; rest = λ more end part. part }

pub loop-look-preserved : goal.loop-look-preserved
loop-look-preserved g c =
    let so_far = c.loop-look.invariant in
    let setting = setting_of c.args.floor (g.W.Wire.view c.args.w.now) in
    let look = rw c.in-Ok-None.field-0-is at c.in-Ok-None.ensures.does in
    record {
      added = so_far.added ++ look.added;
      grows = grows-then _ _ _ _ _ so_far.grows look.grows;
      rest = goes-on (LooksUpTo 40 setting c.args.aim.now) (LooksUpTo (40 - c.loop-look._look) setting c.args.aim.now) (LooksUpTo (40 - (c.loop-look._look + 1)) setting c.args.aim.now)
          (host_view (g.W.Wire.view c.args.w.now)) so_far.added look.added _ _ so_far.rest look.grows
          (look-more (40 - (c.loop-look._look + 1)) (40 - c.loop-look._look) _ _ _ _ (omega arith) (part-at (λ setting view added. Looks setting c.args.aim.now view added (Ok None)) _ so_far.added _ _ _ so_far.grows look));
    }

pub returns-in-Ok-Some : goal.returns-in-Ok-Some
returns-in-Ok-Some g c =
    let so_far = c.loop-look.invariant in
    record {
      does = goes-end (λ setting. LooksUpTo 40 setting c.args.aim.now) (λ setting. LooksUpTo (40 - c.loop-look._look) setting c.args.aim.now) _ _ so_far.added _ _ _ so_far.grows so_far.rest
          (look-last (40 - (c.loop-look._look + 1)) _ _ _ _ _ _ (omega arith) (rw c.in-Ok-Some.field-0-is at c.in-Ok-Some.ensures.does));
    }

pub returns-in-Err : goal.returns-in-Err
returns-in-Err g c =
    let so_far = c.loop-look.invariant in
    record {
      does = goes-end (λ setting. LooksUpTo 40 setting c.args.aim.now) (λ setting. LooksUpTo (40 - c.loop-look._look) setting c.args.aim.now) _ _ so_far.added _ _ _ so_far.grows so_far.rest
          (look-stops (40 - (c.loop-look._look + 1)) _ _ _ _ _ _ (omega arith) c.in-Err.ensures.does);
    }

pub returns : goal.returns
returns g c =
    let so_far = c.loop-look.invariant in
    record {
      does = goes-end (λ setting. LooksUpTo 40 setting c.args.aim.now) (λ setting. LooksUpTo (40 - c.loop-look._look) setting c.args.aim.now) _ _ so_far.added _ _ _ so_far.grows so_far.rest
          (look-none (40 - c.loop-look._look) _ _ _ (omega arith));
    }
