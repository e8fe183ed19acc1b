use Rattle.std.proofs.Common.{rules}
use Rattle.std.specs.Prelude.{◌≡◌, IfSome, ℕ, List, length}
use Rattle.ec_boot.specs.States.{RunView}
use Rattle.command_table.proofs.HashLemmas.{IsFormed, started-told, unnamed-told}
use Rattle.command_table.proofs.hash.start.Goals as goal

pub returns-in-Some-clause-leaves : goal.returns-in-Some-clause-leaves
returns-in-Some-clause-leaves g c =
    let old : RunView = g.R.Running.run c.args.state.now in
    let n : ℕ = c.geometry.result in
    let sized : IfSome old.device.held (λ (f : List ℕ). length f ≡ n) = rw c.geometry.ensures.size c.geometry.ensures.whole in
    let formed : IsFormed c.args.ask.now = record { sha256 = search rules; short = search rules; offset = search rules; size = search rules } in
    started-told n c.args.ask.now old (g.R.Running.run c.hash_start.new.self) c.in-Some.at c.in-Some.size c.show.new.reply.hurt c.show.new.reply.status c.show.new.reply.body sized (search rules) formed
    (search rules) (search rules) c.show.ensures.status (search rules)

pub returns-in-None-clause-leaves : goal.returns-in-None-clause-leaves
returns-in-None-clause-leaves g c =
    let old : RunView = g.R.Running.run c.args.state.now in
    let n : ℕ = c.geometry.result in
    let sized : IfSome old.device.held (λ (f : List ℕ). length f ≡ n) = rw c.geometry.ensures.size c.geometry.ensures.whole in
    let formed : IsFormed c.args.ask.now = record { sha256 = search rules; short = search rules; offset = search rules; size = search rules } in
    unnamed-told n c.args.ask.now old c.end_with-in-None.new.self.hurt c.end_with-in-None.new.self.status c.end_with-in-None.new.self.body sized (search rules) formed
    (search rules) c.end_with-in-None.ensures.status c.end_with-in-None.ensures.body
