use Rattle.std.proofs.Common.{rules}
use Rattle.ec_boot.specs.States.{RunView, told_core}
use Rattle.ec_boot.specs.Either.{run_of}
use Rattle.command_table.proofs.AfterLemmas.{dealt-on, dealt-off, on-answered, on-guarded, jump-made}
use Rattle.command_table.proofs.GuardLemmas.{lost-guard, guard-then}
use Rattle.command_table.proofs.table.finish.Goals as goal

pub returns-in-Cut-clause-row : goal.returns-in-Cut-clause-row
returns-in-Cut-clause-row g c = λ limit finds old least served.
    let told = c.args.reply.now in
    dealt-off limit finds told.hurt told.status told.body old (run_of c.args.state) c.cut.result (search rules) c.cut.ensures.device (rw c.in-Stays.is at served)

pub returns-in-Cut-clause-guard : goal.returns-in-Cut-clause-guard
returns-in-Cut-clause-guard g c = λ old pin guard.
    lost-guard old (run_of c.args.state) c.cut.result pin c.cut.ensures.device guard

pub returns-in_default : goal.returns-in_default
returns-in_default g c =
    let run : RunView = run_of c.args.state in
    record {
      row = λ limit finds old least served.
          on-answered limit finds c.args.reply.now.hurt c.args.reply.now.status c.args.reply.now.body old run c.of.result c.of.ensures
          (dealt-on limit finds c.args.reply.now.hurt c.args.reply.now.status c.args.reply.now.body old run (search rules) (rw c.in-Stays.is at served));
      guard = λ old pin guard. on-guarded old run c.of.result c.of.ensures guard;
    }

pub returns-in-Jumps : goal.returns-in-Jumps
returns-in-Jumps g c =
    let run : RunView = run_of c.args.state in
    let new : RunView = run_of c.jump.result in
    record {
      row = λ limit finds old least served.
          on-answered limit finds c.jump.new.reply.hurt c.jump.new.reply.status c.jump.new.reply.body old new c.of-in-Jumps.result c.of-in-Jumps.ensures
          (jump-made limit finds c.jump.new.reply.hurt c.jump.new.reply.status c.jump.new.reply.body old run new (rw c.in-Jumps.is at served) (c.jump.ensures.row limit finds least));
      guard = λ old pin guard. on-guarded old new c.of-in-Jumps.result c.of-in-Jumps.ensures (guard-then (told_core old) (told_core run) (told_core new) guard c.jump.ensures.guard);
    }

pub returns-in-Restarts-clause-guard : goal.returns-in-Restarts-clause-guard
returns-in-Restarts-clause-guard g c = λ old pin guard. guard-then (told_core old) (told_core (run_of c.args.state)) (told_core c.restart.result) guard c.restart.ensures.guard
