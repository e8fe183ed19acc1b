use Rattle.ec_model.proofs.BootLaws.{boots-ro, boots-locked}
use Rattle.ec_model.proofs.laws.boots_run_ro.Goals as goal

pub returns-clause-ro : goal.returns-clause-ro
returns-clause-ro c = boots-ro

pub returns-clause-locked : goal.returns-clause-locked
returns-clause-locked c = boots-locked
