use Rattle.std.proofs.Common.{rules}
use Rattle.ec_types.specs.declared.image.ImageCopy.TheVariants.{Ro, Rw}
use Rattle.command_table.proofs.JumpLemmas.{refused-row, granted-row}
use Rattle.command_table.proofs.table.jump.Goals as goal

pub returns-in-Err-clause-row : goal.returns-in-Err-clause-row
returns-in-Err-clause-row g c =
    rw c.in-Ro.is (λ limit finds least awaits.
    refused-row Rw c.in-Ro.on c.in-Err.on c.in-Err.no limit finds c.refuse.new.reply.hurt c.refuse.new.reply.status c.refuse.new.reply.body (search rules) c.in-Err.ensures.jumped
    c.refuse.ensures.hurt c.refuse.ensures.status c.refuse.ensures.body least awaits)

pub returns-in-Err-jump_back-clause-row : goal.returns-in-Err-jump_back-clause-row
returns-in-Err-jump_back-clause-row g c =
    rw c.in-Rw.is (λ limit finds least awaits.
    refused-row Ro c.in-Rw.on c.in-Err-jump_back.on c.in-Err-jump_back.no limit finds c.refuse-in-Err-jump_back.new.reply.hurt c.refuse-in-Err-jump_back.new.reply.status c.refuse-in-Err-jump_back.new.reply.body (search rules) c.in-Err-jump_back.ensures.jumped
    c.refuse-in-Err-jump_back.ensures.hurt c.refuse-in-Err-jump_back.ensures.status c.refuse-in-Err-jump_back.ensures.body least awaits)

pub returns-in-Ok-clause-row : goal.returns-in-Ok-clause-row
returns-in-Ok-clause-row g c =
    rw c.in-Ro.is (λ limit finds least awaits.
    granted-row Rw c.in-Ro.on c.in-Ok.on limit finds c.succeed.new.self.hurt c.succeed.new.self.status c.succeed.new.self.body (search rules) c.in-Ok.ensures.jumped
    c.succeed.ensures.hurt c.succeed.ensures.status c.succeed.ensures.body least awaits)

pub returns-in-Ok-jump_back-clause-row : goal.returns-in-Ok-jump_back-clause-row
returns-in-Ok-jump_back-clause-row g c =
    rw c.in-Rw.is (λ limit finds least awaits.
    granted-row Ro c.in-Rw.on c.in-Ok-jump_back.on limit finds c.succeed-in-Ok-jump_back.new.self.hurt c.succeed-in-Ok-jump_back.new.self.status c.succeed-in-Ok-jump_back.new.self.body (search rules) c.in-Ok-jump_back.ensures.jumped
    c.succeed-in-Ok-jump_back.ensures.hurt c.succeed-in-Ok-jump_back.ensures.status c.succeed-in-Ok-jump_back.ensures.body least awaits)
