use Rattle.std.proofs.Common.{refl, ◌∷◌, ◌++◌, [], arith}
use Rattle.ec_model.specs.declared.event.Access.TheVariants.{I2cStartRead, I2cStop, I2cRead}
use Rattle.ec_model.specs.HostCalls.{Did}
use Rattle.ec_model.specs.Heard.{reads_in_row}
use Rattle.ec_wire.proofs.Growth.{made-then, made-access, made-room}
use Rattle.bus_lines.proofs.i2c.read.Goals as goal

pub read_bytes-requires-clause-room : goal.read_bytes-requires-clause-room
read_bytes-requires-clause-room g c = omega (arith, c.requires.room, made-room _ _ _ (made-access _ _ _ _ c.access.ensures.adds))

pub access-requires-2 : goal.access-requires-2
access-requires-2 g c = omega (arith, c.requires.room, made-room _ _ _ (made-access _ _ _ _ c.access.ensures.adds), c.read_bytes.ensures.room)

pub returns-clause-does : goal.returns-clause-does
returns-clause-does g c =
    let reads = c.read_bytes.ensures.reads in
    record {
      calls = Did I2cStartRead c.access.result ∷ reads_in_row I2cRead reads.bytes ++ Did I2cStop c.access-2.result ∷ [];
      is_line = (c.access.result, c.access-2.result, reads.bytes, reads.each, refl, reads.text_is);
      made = made-then _ _ _ _ _ (made-then _ _ _ _ _ (made-access _ _ _ _ c.access.ensures.adds) reads.made) (made-access _ _ _ _ c.access-2.ensures.adds);
    }
