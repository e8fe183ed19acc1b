use Rattle.std.proofs.Common.{◌≡◌, ◌-◌, ◌∙◌, ap, subst, List, arith}
use Rattle.ec_model.specs.declared.event.WorldEvent.{WorldEvent}
use Rattle.ec_model.specs.Bench.{due_events}
use Rattle.ec_wire.specs.Calls.{WireView}
use Rattle.bench_wire.specs.Arming.{events_of, room_for}
use Rattle.bench_wire.specs.BenchView.{wire_view}
use Rattle.bench_wire.specs.Falling.{Falls}
use Rattle.bench_wire.proofs.ArmsLemmas.{room-split}
use Rattle.bench_wire.proofs.Arming.{wire_with, nearer-by}
use Rattle.bench_wire.proofs.bench.Bench.fall_due.Goals as goal

pub invariant_of-self : goal.invariant_of-self
invariant_of-self g c =
    record { agrees = c.self.invariant.agrees; room = rw c.come_nearer-due.ensures.still (omega (arith, c.self.invariant.room, room-split c.self.inside.arms)) }

pub fall_each-requires : goal.fall_each-requires
fall_each-requires g c =
    let due : events_of c.as_slice.result.now ≡ due_events c.self.inside.arms = ap events_of c.as_slice.ensures.value ∙ c.come_nearer-due.ensures.due in
    rw (due, c.come_nearer-due.ensures.still) (omega (arith, c.self.invariant.room, room-split c.self.inside.arms))

pub returns-clause-falls : goal.returns-clause-falls
returns-clause-falls g c =
    let inside = c.self.inside in
    let due : events_of c.as_slice.result.now ≡ due_events inside.arms = ap events_of c.as_slice.ensures.value ∙ c.come_nearer-due.ensures.due in
    let still = c.come_nearer-due.new.self in
    let start : WireView = wire_with g.B.Bus.bus inside.ec inside.journal.entries (inside.journal.spare - room_for still) still in
    let new : WireView = wire_view g.B.Bus.bus c.fall_each.new.self in
    rw (← c.self.view_is)
    (subst (λ (old : WireView). Falls (due_events inside.arms) old new)
    (nearer-by g.B.Bus.bus inside.ec inside.journal.entries inside.journal.spare inside.arms still c.come_nearer-due.ensures.still c.self.invariant.room)
    (subst (λ (events : List WorldEvent). Falls events start new) due c.fall_each.ensures))
