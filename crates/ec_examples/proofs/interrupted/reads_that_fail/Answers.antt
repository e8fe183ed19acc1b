use Rattle.std.proofs.Common.{refl, inl}
use Rattle.ec_examples.proofs.interrupted.reads_that_fail.Goals as goal

pub returns-clause-request : goal.returns-clause-request
returns-clause-request c = inl (record { reads = refl; leaves = refl })

pub returns-clause-hash : goal.returns-clause-hash
returns-clause-hash c = inl (record { reads = refl; leaves = refl })

pub returns-clause-boot : goal.returns-clause-boot
returns-clause-boot c = (refl, refl)
