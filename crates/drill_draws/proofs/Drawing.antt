-- Draws, one behind the other.
use Rattle.std.proofs.Common.{◌≡◌, refl, ap, ℕ, zero, suc, ◌+◌, ◌/◌, ◌%◌, [], ◌∷◌, ◌++◌, arith}
use Rattle.std.proofs.lemmas.List.FromFn.{map-range_with_len_more}
use Rattle.drill_draws.specs.Draws.{next, after, nth_draw, drawn_bytes}

-- draws behind others
pub after-after : (draws before x : ℕ) → after draws (after before x) ≡ after (draws + before) x
after-after zero before x = let none : 0 + before ≡ before = omega arith in rw none refl
after-after (suc draws) before x =
    let more : suc draws + before ≡ suc (draws + before) = omega arith in
    rw more (ap next (after-after draws before x))

-- the number behind draws behind others, by how many they are together
pub after-all : (draws before all x number : ℕ) → number ≡ after before x → draws + before ≡ all → after draws number ≡ after all x
after-all draws before all x number so_far together = rw (so_far, ← together) (after-after draws before x)

-- a draw behind others
pub draw-behind : (n before all x number : ℕ) → number ≡ after before x → n + before ≡ all → nth_draw n number ≡ nth_draw all x
draw-behind n before all x number so_far together = ap (λ (drawn : ℕ). drawn / 256) (after-all n before all x number so_far together)

-- one byte more
pub bytes-more : (first count x : ℕ) → drawn_bytes first (count + 1) x ≡ drawn_bytes first count x ++ nth_draw (first + count) x % 256 ∷ []
bytes-more first count x = map-range_with_len_more (λ n. nth_draw n x % 256) first count (first + count) refl

-- bytes behind other draws
pub bytes-behind : (count first before x : ℕ) → drawn_bytes first count (after before x) ≡ drawn_bytes (first + before) count x
bytes-behind zero first before x = refl
bytes-behind (suc count) first before x =
    let place : first + before + 1 ≡ first + 1 + before = omega arith in
    rw (after-after first before x, bytes-behind count (first + 1) before x, place) refl
