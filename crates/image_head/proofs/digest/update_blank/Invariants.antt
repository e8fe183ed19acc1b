use Rattle.std.proofs.Common.{ℕ, ◌*◌, List, ◌++◌, replicate}
use Rattle.sha2.specs.Hashers.{Holds256}
use Rattle.image_head.proofs.digest.update_blank.Given as goal

-- each turn hashes one block
abbrev pub invariant-loop-turn : goal.invariant-loop-turn
invariant-loop-turn l = (message : List ℕ) → Holds256 l.fn.hasher message → Holds256 l.hasher (message ++ replicate (64 * l._turn) 0xFF)
