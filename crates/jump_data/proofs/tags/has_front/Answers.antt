use Rattle.std.proofs.Common.{◌≡◌, ◌∙◌, sym, ap, ℕ, List, ◌++◌, length, take}
use Rattle.std.proofs.lemmas.List.{take-append-drop}
use Rattle.std.proofs.lemmas.Slice.Eq.{bytes_eq-Decides}
use Rattle.ec_types.specs.LittleEndian.{u32_at}
use Rattle.jump_data.specs.Tags.{front}
use Rattle.jump_data.proofs.Cutting.{fronts-same}
use Rattle.jump_data.proofs.Fronts.{front-again, length-front}
use Rattle.jump_data.proofs.tags.has_front.Goals as goal

pub returns-clause-found : goal.returns-clause-found
returns-clause-found c = λ flags behind has.
    let head = c.split_at.result.0.now in
    let rest = c.split_at.result.1.now in
    let whole : head ++ rest ≡ front c.args.layout flags (length behind) ++ behind =
    ap (λ (bytes : List ℕ). bytes ++ rest) c.split_at.ensures.front
    ∙ ap (λ (bytes : List ℕ). take c.front_size-size.result c.args.bytes.now ++ bytes) c.split_at.ensures.back
    ∙ take-append-drop c.front_size-size.result c.args.bytes.now ∙ has.spelled in
    let size : length head ≡ length (front c.args.layout flags (length behind)) =
    c.split_at.ensures.front_len ∙ c.front_size-size.ensures.size ∙ sym (length-front c.args.layout flags (length behind)) in
    let parts : (head ≡ front c.args.layout flags (length behind)) × (rest ≡ behind) = fronts-same head (front c.args.layout flags (length behind)) rest behind size whole in
    let said : c.flags_of.result ≡ u32_at 8 (front c.args.layout flags (length behind) ++ behind) = c.flags_of.ensures ∙ ap (u32_at 8) has.spelled in
    let made : c.put_front.new.out.items ≡ front c.args.layout c.flags_of.result (length rest) =
    c.put_front.ensures.spelled ∙ ap (λ (bytes : List ℕ). bytes ++ front c.args.layout c.flags_of.result (length rest)) c.new-front.ensures in
    let same : c.as_slice.result.now ≡ head =
    c.as_slice.ensures.value ∙ made ∙ ap (λ (n : ℕ). front c.args.layout n (length rest)) said
    ∙ ap (λ (bytes : List ℕ). front c.args.layout (u32_at 8 (front c.args.layout flags (length behind) ++ behind)) (length bytes)) parts.1
    ∙ front-again c.args.layout flags (length behind) behind ∙ sym parts.0 in
    c.eq.ensures ∙ (bytes_eq-Decides c.as_slice.result.now head).1 same
