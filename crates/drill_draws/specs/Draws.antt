-- A generator of numbers, each made from the one before.
use Rattle.std.specs.Prelude.{ℕ, zero, suc, ◌+◌, ◌*◌, ◌/◌, ◌%◌, ◌^◌, List, map}
use Rattle.std.specs.List.{range_with_len}

-- the number behind a number
abbrev pub next : ℕ → ℕ
next x = (x * 1664525 + 1013904223) % 2 ^ 32

-- the number behind so many draws
abbrev pub after : ℕ → ℕ → ℕ
after zero x = x
after (suc draws) x = next (after draws x)

-- what the nth draw gives, from 1: the number behind it without its lowest eight bits
abbrev pub nth_draw : ℕ → ℕ → ℕ
nth_draw n x = after n x / 256

-- so many bytes, one by each draw from the first of these on
abbrev pub drawn_bytes : (first count x : ℕ) → List ℕ
drawn_bytes first count x = map (λ n. nth_draw n x % 256) (range_with_len first count)
