use Rattle.std.proofs.Common.{◌≡◌, ◌∙◌, ap, ℕ, ◌-◌, ◌/◌, ◌%◌, List, [], ◌∷◌, ◌++◌, length, take, arith, append_assoc}
use Rattle.std.proofs.lemmas.List.{take-replicate}
use Rattle.jump_data.specs.Tags.{filling}
use Rattle.jump_data.proofs.encoding.put_tag.Goals as goal

pub returns : goal.returns
returns c =
    let size : ℕ = length c.args.content.now in
    let zeros : c.split_at.result.0.now ≡ filling size =
    c.split_at.ensures.front ∙ ap (λ (three : List ℕ). take ((4 - size % 4) % 4) three) c.as_slice.ensures
    ∙ take-replicate {X = ℕ} ((4 - size % 4) % 4) 3 0 (omega arith) in
    let head : c.put.new.out.items ≡ c.args.out.now.items ++ (c.args.number % 256 ∷ c.args.number / 256 % 256 ∷ size ∷ 1 ∷ []) =
    c.put.ensures ∙ ap (λ (bytes : List ℕ). c.args.out.now.items ++ bytes) c.write_u16.ensures in
    let body : c.put-2.new.out.items ≡ c.put.new.out.items ++ c.args.content.now = c.put-2.ensures in
    let whole : c.put-3.new.out.items ≡ c.put-2.new.out.items ++ c.split_at.result.0.now = c.put-3.ensures in
    rw (whole, body, head, zeros) (simp append_assoc)
