use Rattle.std.proofs.Common.{refl}
use Rattle.sha2.specs.Sha256.{first_words, schedule, rounds, compress, hash_after, digest_bytes, sha256}
use Rattle.ec_examples.proofs.hash.hash_of_1025_bytes.Goals as goal

pub returns-clause-done : goal.returns-clause-done
unfolding first_words schedule rounds compress hash_after digest_bytes sha256
returns-clause-done c = refl
