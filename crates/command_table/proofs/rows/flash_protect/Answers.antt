use Rattle.std.proofs.Common.{◌∙◌, ◌++◌, ap, rules, ℕ, List}
use Rattle.ec_boot.specs.States.{told_core}
use Rattle.command_table.proofs.ProtectLemmas.{protect_bytes, shown-told, stopped-told}
use Rattle.command_table.proofs.rows.flash_protect.Goals as goal

pub returns-in-Ok-clause-leaves : goal.returns-in-Ok-clause-leaves
returns-in-Ok-clause-leaves g c =
    shown-told c.args.mask c.args.flags c.in-Ok.view c.succeed.new.self.hurt c.succeed.new.self.status c.write.new.out (g.R.Running.run c.args.state.now).device (g.R.Running.run c.protect.new.self).device (told_core (g.R.Running.run c.args.state.now)) (told_core (g.R.Running.run c.protect.new.self)) (search rules) (search rules)
    c.succeed.ensures.hurt c.succeed.ensures.status (c.write.ensures ∙ ap (λ (front : List ℕ). front ++ protect_bytes c.in-Ok.view) c.succeed.ensures.body) c.in-Ok.ensures.told

pub returns-in-Err-clause-leaves : goal.returns-in-Err-clause-leaves
returns-in-Err-clause-leaves g c =
    stopped-told c.args.mask c.args.flags c.in-Err.error c.hurt_after.result c.end.new.self.hurt c.end.new.self.status c.end.new.self.body (g.R.Running.run c.args.state.now).device (g.R.Running.run c.protect.new.self).device (told_core (g.R.Running.run c.args.state.now)) (told_core (g.R.Running.run c.protect.new.self)) (search rules) (search rules)
    c.hurt_after.ensures c.end.ensures.hurt c.end.ensures.status c.end.ensures.body c.in-Err.ensures.told
