use Rattle.std.proofs.Common.{refl, ◌∷◌, ◌++◌, [], arith}
use Rattle.ec_model.specs.declared.event.Access.TheVariants.{I2cStartWrite, I2cStop}
use Rattle.ec_model.specs.HostCalls.{Did}
use Rattle.ec_model.specs.Heard.{i2c_writes}
use Rattle.ec_wire.proofs.Growth.{made-then, made-access, made-room}
use Rattle.bus_lines.proofs.i2c.write.Goals as goal

pub write_bytes-requires : goal.write_bytes-requires
write_bytes-requires g c = omega (arith, c.requires, made-room _ _ _ (made-access _ _ _ _ c.access.ensures.adds))

pub access-requires-2 : goal.access-requires-2
access-requires-2 g c = omega (arith, c.requires, made-room _ _ _ (made-access _ _ _ _ c.access.ensures.adds), c.write_bytes.ensures.room)

pub returns : goal.returns
returns g c =
    let writes = c.write_bytes.ensures.writes in
    record {
      calls = Did I2cStartWrite c.access.result ∷ i2c_writes c.args.bytes.now writes.gots ++ Did I2cStop c.access-2.result ∷ [];
      is_line = (c.access.result, c.access-2.result, writes.gots, writes.each, refl, refl);
      made = made-then _ _ _ _ _ (made-then _ _ _ _ _ (made-access _ _ _ _ c.access.ensures.adds) writes.made) (made-access _ _ _ _ c.access-2.ensures.adds);
    }
