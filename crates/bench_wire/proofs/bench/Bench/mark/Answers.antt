use Rattle.std.proofs.Common.{◌≡◌, ◌≤◌, ◌+◌, ◌-◌, sym, subst, ap, arith}
use Rattle.ec_wire.specs.Journals.{JournalView}
use Rattle.bench_wire.specs.Arming.{room_for}
use Rattle.bench_wire.specs.BenchView.{BenchView}
use Rattle.bench_wire.proofs.Adding.{adds-mark, is-marked}
use Rattle.bench_wire.proofs.bench.Bench.mark.Goals as goal

pub returns-clause-adds : goal.returns-clause-adds
returns-clause-adds g c =
    let inside = c.self.inside in
    let kept = room_for inside.arms in
    let some : 1 ≤ inside.journal.spare - kept = subst (λ (bench : BenchView). 1 ≤ bench.spare) (sym c.self.view_is) c.requires in
    let pushed : c.push.new.self.spare ≡ inside.journal.spare - 1 = ap (λ (journal : JournalView). journal.spare) c.push.ensures in
    let room : c.push.new.self.spare - kept + 1 ≡ inside.journal.spare - kept = omega (arith, some, pushed) in
    rw (← c.self.view_is)
    (adds-mark g.B.Bus.bus c.args.line inside.ec inside.arms inside.journal.entries c.push.new.self.entries (inside.journal.spare - kept) (c.push.new.self.spare - kept)
    (ap (λ (journal : JournalView). journal.entries) c.push.ensures) room)

pub returns-clause-marked : goal.returns-clause-marked
returns-clause-marked g c =
    let inside = c.self.inside in
    let kept = room_for inside.arms in
    let some : 1 ≤ inside.journal.spare - kept = subst (λ (bench : BenchView). 1 ≤ bench.spare) (sym c.self.view_is) c.requires in
    let pushed : c.push.new.self.spare ≡ inside.journal.spare - 1 = ap (λ (journal : JournalView). journal.spare) c.push.ensures in
    let room : c.push.new.self.spare - kept + 1 ≡ inside.journal.spare - kept = omega (arith, some, pushed) in
    rw (← c.self.view_is)
    (is-marked g.B.Bus.bus c.args.line inside.ec inside.arms inside.journal.entries c.push.new.self.entries (inside.journal.spare - kept) (c.push.new.self.spare - kept)
    (ap (λ (journal : JournalView). journal.entries) c.push.ensures) room)
