use Rattle.std.proofs.Common.{◌≡◌, ℕ, List, Some, None}
use Rattle.jump_data.specs.declared.kept.TagLayout.TheVariants.{V2, V3}
use Rattle.jump_data.specs.Tags.{HasFront}
use Rattle.jump_data.proofs.tags.layout_of.Goals as goal

pub returns-clause-found : goal.returns-clause-found
returns-clause-found c = λ layout.
    elim layout as (λ l. (flags : ℕ) (behind : List ℕ) → HasFront c.args.bytes.now l flags behind → None ≡ Some l) [
      | V2 ↦ λ flags behind has. let found = c.if-has_front.ensures.found flags behind has in absurd cc
      | V3 ↦ λ flags behind has. let found = c.if-has_front-2.ensures.found flags behind has in absurd cc
    ]
