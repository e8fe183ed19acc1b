use Rattle.std.proofs.Common.{◌≡◌, subst, ℕ, replicate, arith}
use Rattle.ec_model.specs.HostCalls.{Waited}
use Rattle.ec_wire.specs.Calls.{Made}
use Rattle.ec_wire.proofs.Growth.{made-none}
use Rattle.sync_engine.proofs.Pausing.{paused, waited-more, waited-room}
use Rattle.sync_engine.proofs.resting.wait_often.Goals as goal

pub loop-wait-init : goal.loop-wait-init
loop-wait-init g c = record { made = made-none _; room = omega arith }

pub wait-requires : goal.wait-requires
wait-requires g c = omega (arith, c.loop-wait.invariant.room, c.requires.room)

pub loop-wait-preserved : goal.loop-wait-preserved
loop-wait-preserved g c = record {
  made = waited-more _ _ _ _ c.loop-wait.invariant.made c.wait.ensures.adds;
  room = waited-room _ _ _ _ c.loop-wait.invariant.room c.wait.ensures.adds;
}

pub returns : goal.returns
returns g c =
    let all : c.loop-wait._wait ≡ 64 = omega arith in
    record { does = paused 64 _ _ _ (subst (λ (count : ℕ). Made (replicate count Waited) (g.W.Wire.view c.args.w.now) (g.W.Wire.view c.loop-wait.w)) all c.loop-wait.invariant.made) }
