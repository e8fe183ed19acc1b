use Rattle.std.proofs.Common.{◌<◌, sym, subst, List, [], ◌∷◌, length, arith}
use Rattle.ec_model.specs.Bench.{Armed}
use Rattle.bench_wire.proofs.ArmsLemmas.{room-append, room-le, room-one}
use Rattle.bench_wire.proofs.arms.Arms.push.Goals as goal

pub overflow_add-self : goal.overflow_add-self
overflow_add-self c =
    let few : length c.self.inside.events.items < 64 = subst (λ (armed : List Armed). length armed < 64) (sym c.self.view_is) c.requires in
    omega (arith, c.self.invariant, room-le c.self.inside.events.items, room-one c.args.event, c.room_of.ensures, few)

pub invariant_of-self : goal.invariant_of-self
invariant_of-self c =
    rw c.push.ensures.items (omega (arith, room-append c.self.inside.events.items (record { left = c.args.left; event = c.args.event } ∷ []), c.self.invariant, c.room_of.ensures))
