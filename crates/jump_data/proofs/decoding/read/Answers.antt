use Rattle.std.proofs.Common.{◌≡◌, ap, subst, sym, ℕ, ◌≤◌, List, length, Some}
use Rattle.jump_data.specs.declared.kept.JumpData.TheVariants.{Old, Tagged}
use Rattle.jump_data.specs.Tags.{tags_bytes}
use Rattle.jump_data.specs.Spelling.{IsKept, kept_tags, spelling}
use Rattle.jump_data.proofs.Short.{short-tagged}
use Rattle.jump_data.proofs.decoding.read.Goals as goal

pub returns-in_err-layout-clause-accepted : goal.returns-in_err-layout-clause-accepted
returns-in_err-layout-clause-accepted c = λ jump.
    elim jump as (λ j. IsKept j → c.args.bytes.now ≡ spelling j → c.from_residual.result ≡ Some j) [
      | Old flags ↦ λ kept same. absurd (c.if-bytes-eq12.false (ap length same))
      | Tagged layout flags protect hash saved ↦ λ kept same.
          let total : ℕ = length (tags_bytes (kept_tags protect hash saved)) in
          let short : length c.args.bytes.now ≤ 256 = subst (λ (bytes : List ℕ). length bytes ≤ 256) (sym same) (short-tagged layout flags total protect hash saved kept.1 kept.3) in
          let found = c.in_err-layout.ensures.found layout flags (tags_bytes (kept_tags protect hash saved)) (record { short = short; spelled = same }) in
          absurd cc
    ]
