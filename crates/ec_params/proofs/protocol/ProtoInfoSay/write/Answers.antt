use Rattle.std.proofs.Common.{append_assoc}
use Rattle.ec_params.proofs.protocol.ProtoInfoSay.write.Goals as goal

pub returns : goal.returns
returns c = rw (c.put_u32-2.ensures, c.put_u16-2.ensures, c.put_u16.ensures, c.put_u32.ensures) (simp append_assoc)
