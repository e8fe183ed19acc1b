use Rattle.std.proofs.Common.{rules, length}
use Rattle.flash_ctl.proofs.LockLaws.{has-locked, has-no-locked}
use Rattle.flash_ctl.proofs.Ctl.program.Goals as goal
use Rattle.flash_ctl.proofs.Ctl.program.Goals.{in-Ok, in-Err}

pub returns-then-any-clause-locked : goal.returns-then-any-clause-locked
returns-then-any-clause-locked g c = has-locked c.args.at (length c.args.bytes.now) c.args.self.now.locks (search rules)

pub returns-clause-locked : goal.returns-clause-locked
returns-clause-locked g c =
    let free = has-no-locked c.args.at (length c.args.bytes.now) c.args.self.now.locks (search rules) in
    elim c.match-program.branch [ in-Ok w ↦ rw w.result-is free | in-Err w ↦ rw w.result-is free ]
