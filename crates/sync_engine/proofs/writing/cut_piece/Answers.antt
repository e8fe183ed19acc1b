use Rattle.std.proofs.Common.{◌≡◌, ◌∙◌, sym, ap, ℕ, ◌-◌, ◌/◌, min, List, ◌++◌, length, take, replicate, arith}
use Rattle.std.proofs.lemmas.List.{take-replicate}
use Rattle.sync_engine.proofs.Pieces.{piece-cut}
use Rattle.sync_engine.proofs.writing.cut_piece.Goals as goal

pub returns-clause-cut : goal.returns-clause-cut
returns-clause-cut c =
    let image = c.args.image.now in
    let half = c.args.geometry / 2 in
    let part = c.image_part-part.result.now in
    let count = c.min-length.result - length part in
    let length_is : c.min-length.result ≡ min c.args.most (half - c.args.place) = c.min-length.ensures ∙ ap (λ (range : ℕ × ℕ). min c.args.most (range.1 - c.args.place)) c.range-size.ensures in
    let front = c.extend.ensures ∙ ap (λ (bytes : List ℕ). bytes ++ part) c.clear.ensures in
    let blank : take count (replicate 528 0xFF) ≡ replicate (min c.args.most (half - c.args.place) - length part) 0xFF =
    take-replicate count 528 0xFF (omega (arith, length_is, c.requires.most)) ∙ ap (λ (n : ℕ). replicate (n - length part) 0xFF) length_is in
    c.extend-2.ensures ∙ ap (λ (bytes : List ℕ). bytes ++ take count (replicate 528 0xFF)) front ∙ ap (λ (rest : List ℕ). part ++ rest) blank
    ∙ ap (λ (bytes : List ℕ). bytes ++ replicate (min c.args.most (half - c.args.place) - length bytes) 0xFF) c.image_part-part.ensures.part
    ∙ sym (piece-cut image half c.args.most c.args.place 0xFF c.requires.within c.requires.place)
