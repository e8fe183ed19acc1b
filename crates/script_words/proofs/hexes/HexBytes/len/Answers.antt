use Rattle.std.proofs.Common.{arith}
use Rattle.script_words.proofs.HexLaws.{spelled-length}
use Rattle.script_words.proofs.hexes.HexBytes.len.Goals as goal

pub returns : goal.returns
returns c = rw (← c.self.view_is) (let twice = spelled-length c.self.inside.digits.now c.self.invariant in omega (arith, twice))
