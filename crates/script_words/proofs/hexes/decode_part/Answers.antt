use Rattle.std.proofs.Common.{◌*◌, length, arith, length-drop}
use Rattle.script_words.proofs.HexLaws.{spelled-length, part_decoded, written}
use Rattle.script_words.proofs.hexes.decode_part.Goals as goal

pub overflow_mul-from : goal.overflow_mul-from
overflow_mul-from c =
    let twice = spelled-length c.args.digits.now c.requires.spelling in
    omega (arith, twice, c.requires.within)

pub split_at-requires : goal.split_at-requires
split_at-requires c =
    let twice = spelled-length c.args.digits.now c.requires.spelling in
    omega (arith, twice, c.requires.within)

pub split_at-requires-2 : goal.split_at-requires-2
split_at-requires-2 c =
    let twice = spelled-length c.args.digits.now c.requires.spelling in
    rw c.split_at.ensures.back (omega (arith, length-drop (2 * c.args.from) c.args.digits.now, twice, c.requires.within))

pub unreachable-requires : goal.unreachable-requires
unreachable-requires c =
    let part = part_decoded c.args.digits.now c.args.from (length c.args.out.now) c.requires.spelling c.requires.within in
    let done = written _ _ _ _ (rw (← c.split_at.ensures.back, ← c.split_at-2.ensures.front) at part) c.decode_to_slice.ensures.value in
    cc done.0

pub returns : goal.returns
returns c =
    let part = part_decoded c.args.digits.now c.args.from (length c.args.out.now) c.requires.spelling c.requires.within in
    (written _ _ _ _ (rw (← c.split_at.ensures.back, ← c.split_at-2.ensures.front) at part) c.decode_to_slice.ensures.value).1
