-- What is ahead in a chunk.
use Rattle.std.proofs.Common.{◌≡◌, ℕ, ◌+◌, ◌<◌, ◌≤◌, List, [], ◌∷◌, ◌++◌, Option, Ok, length, get_or, take, drop, arith, ◌∙◌, ap, add-one}
use Rattle.std.proofs.lemmas.List.{get_or-take, nil_from_length, length-take, length-drop}
use Rattle.std.proofs.Math.Seq.{drop-cons}
use Rattle.line_reader.specs.declared.input.Came.TheVariants.{Byte}
use Rattle.line_reader.specs.Taking.{Takes}
use Rattle.bench_io.specs.Streams.{Asks}
use Rattle.line_reader.specs.Bytes.{InputView, FindsByte, AsksAtMostOnce}

-- nothing is ahead at the end
pub nothing_ahead : (chunk : List ℕ) (start end : ℕ) → start ≡ end → drop start (take end chunk) ≡ []
nothing_ahead chunk start end same = nil_from_length (drop start (take end chunk)) (simp (length-drop, length-take) (omega arith))

-- something is ahead before the end
pub some_ahead : (ahead chunk : List ℕ) (start end : ℕ) → ahead ≡ drop start (take end chunk) → start < end → end ≤ length chunk → 0 < length ahead
some_ahead ahead chunk start end same some within = omega (arith, ap length same, length-drop start (take end chunk), length-take end chunk)

-- the first byte that is ahead, and those behind it
pub ahead_cons : (chunk : List ℕ) (start end : ℕ) → start < end → end ≤ length chunk → drop start (take end chunk) ≡ get_or chunk start 0 ∷ drop (start + 1) (take end chunk)
ahead_cons chunk start end some within =
    let inside : start < length (take end chunk) = omega (arith, length-take end chunk) in
    rw (add-one, drop-cons (take end chunk) start 0, get_or-take end chunk start 0)

-- the first byte that is ahead is found
pub found : (old : InputView) (came chunk : List ℕ) (start end given : ℕ) (left rest : Option (List ℕ)) (before now : Asks) → Takes came left rest → AsksAtMostOnce old.ahead came before now → old.ahead ++ came ≡ drop start (take end chunk) → given ≡ old.given → start < end → end ≤ length chunk
    → FindsByte (Ok (Byte (get_or chunk start 0))) old (record { ahead = drop (start + 1) (take end chunk); given = given + 1 }) left rest before now
found old came chunk start end given left rest before now taken asks seam same some within = record {
  came = came;
  taken = taken;
  asks = asks;
  says = (seam ∙ ahead_cons chunk start end some within, omega arith);
}
