use Rattle.std.proofs.Common.{◌≡◌, ◌≤◌, ◌+◌, ◌-◌, ℕ, refl, sym, ap, ◌∙◌, subst, ◌∷◌, ◌++◌, [], unwrap_or, arith}
use Rattle.ec_model.specs.declared.event.Entry.TheVariants.{Step}
use Rattle.ec_wire.specs.Journals.{JournalView}
use Rattle.bench_wire.specs.Arming.{room_for}
use Rattle.bench_wire.specs.BenchView.{BenchView}
use Rattle.bench_wire.proofs.Stepping.{steps-of}
use Rattle.bench_wire.proofs.bench.Bench.step_as.Goals as goal

pub returns-clause-steps : goal.returns-clause-steps
returns-clause-steps g c =
    let inside = c.self.inside in
    let answer = c.step-answer.result in
    let kept = room_for inside.arms in
    let old : BenchView = record { entries = inside.journal.entries; spare = inside.journal.spare - kept; armed = inside.arms; controller = inside.ec } in
    let new : BenchView = record { entries = c.push.new.self.entries; spare = c.push.new.self.spare - kept; armed = inside.arms; controller = c.step-answer.new.self } in
    let some : 1 ≤ inside.journal.spare - kept = subst (λ (bench : BenchView). 1 ≤ bench.spare) (sym c.self.view_is) c.requires in
    let pushed : c.push.new.self.spare ≡ inside.journal.spare - 1 = ap (λ (journal : JournalView). journal.spare) c.push.ensures in
    let room : c.push.new.self.spare - kept + 1 ≡ inside.journal.spare - kept = omega (arith, some, pushed) in
    let entries : new.entries ≡ old.entries ++ Step c.args.event answer c.args.meant (unwrap_or c.args.seen answer) c.hurt.result ∷ [] =
    ap (λ (journal : JournalView). journal.entries) c.push.ensures
    ∙ ap (λ (seen : ℕ). old.entries ++ Step c.args.event answer c.args.meant seen c.hurt.result ∷ []) c.unwrap_or.ensures in
    rw (← c.self.view_is)
    (steps-of g.B.Bus.bus c.args.event answer c.args.meant (unwrap_or c.args.seen answer) c.hurt.result old new c.hurt.ensures entries room refl
    c.step-answer.ensures.on c.step-answer.ensures.spent (c.step-answer.ensures.plays c.args.meant (unwrap_or c.args.seen answer))
    c.step-answer.ensures.off c.step-answer.ensures.lost c.step-answer.ensures.alive c.step-answer.ensures.silent)
