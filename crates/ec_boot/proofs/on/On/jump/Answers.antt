use Rattle.std.proofs.Common.{sym, ◌∙◌}
use Rattle.ec_boot.proofs.JumpLemmas.{arrives, arrives-guard, turned, refused-guard}
use Rattle.ec_boot.proofs.on.On.jump.Goals as goal

pub returns-in-Ok-clause-guard : goal.returns-in-Ok-clause-guard
returns-in-Ok-clause-guard g c =
    arrives-guard c.args.target c.args.self c.pass_on.result
    (arrives c.args.target c.args.self c.look.new.self c.pass_on.result c.in-Ok.layout (sym c.is_denied.ensures ∙ c.if-is_denied.false) c.in-Ok.ensures c.pass_on.ensures)

pub returns-in-Err-clause-guard : goal.returns-in-Err-clause-guard
returns-in-Err-clause-guard g c =
    refused-guard c.args.target c.args.self c.look.new.self c.in-Err.no
    (turned c.args.target c.args.self c.look.new.self c.in-Err.no (sym c.is_denied.ensures ∙ c.if-is_denied.false) c.in-Err.ensures)
