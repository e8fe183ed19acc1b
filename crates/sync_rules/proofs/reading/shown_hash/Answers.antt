use Rattle.std.proofs.Common.{◌∙◌, sym, ap, ℕ, List, slice_index, arith}
use Rattle.sync_rules.proofs.Fields.{hash-read, hash-lost}
use Rattle.sync_rules.proofs.reading.shown_hash.Goals as goal

pub returns-else-is_of_rw : goal.returns-else-is_of_rw
returns-else-is_of_rw c =
    let say = c.from_bytes-say.result in
    let read = hash-read c.args.aim.now.geometry c.args.body.now say.status say.hash_type say.digest_size say.reserved say.offset say.size say.digest (omega arith) (omega arith) c.from_bytes-say.ensures.spelled in
    record {
      told = hash-lost c.args.aim.now c.args.body.now say.status (omega (arith, c.if-body-ne76.false)) (ap (λ (bytes : List ℕ). slice_index bytes 0) c.from_bytes-say.ensures.spelled)
          c.if-say-eq-STATUS_BUSY.false (read ∙ sym c.is_of_rw.ensures ∙ c.if-is_of_rw.false);
    }
