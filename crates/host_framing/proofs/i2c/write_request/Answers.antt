use Rattle.std.proofs.Common.{◌<◌, length, arith}
use Rattle.host_framing.proofs.I2cParts.{written-more, written-short}
use Rattle.host_framing.proofs.i2c.write_request.Goals as goal

pub returns-then-not-took-2-clause-writes : goal.returns-then-not-took-2-clause-writes
returns-then-not-took-2-clause-writes g c =
    let inside : c.loop-byte.byte-index < length c.args.packet.now = omega arith in
    written-short _ _ _ _ _ inside c.loop-byte.invariant.made c.if-not-took-2.ensures.takes

pub loop-byte-preserved : goal.loop-byte-preserved
loop-byte-preserved g c =
    let so_far = c.loop-byte.invariant in
    let inside : c.loop-byte.byte-index < length c.args.packet.now = omega arith in
    record {
      room = omega arith;
      made = written-more _ _ _ _ _ inside so_far.made c.if-not-took-2.ensures.takes;
    }
