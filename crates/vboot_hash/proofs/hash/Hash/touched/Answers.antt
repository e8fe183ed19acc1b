use Rattle.std.proofs.Common.{sym, ◌∙◌}
use Rattle.vboot_hash.proofs.Standing.{stands-beside}
use Rattle.vboot_hash.proofs.hash.Hash.touched.Goals as goal

pub returns-else-is_over-clause-stands : goal.returns-else-is_over-clause-stands
returns-else-is_over-clause-stands c = λ nonce before after torn stands.
    stands-beside c.args.at c.args.size c.args.self.now.shown c.args.self.now nonce before after (sym c.is_over.ensures.over ∙ c.if-is_over.false) c.is_over.ensures.hashing torn stands
