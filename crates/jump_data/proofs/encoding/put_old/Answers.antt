use Rattle.std.proofs.Common.{append_assoc}
use Rattle.jump_data.proofs.encoding.put_old.Goals as goal

pub returns : goal.returns
returns c = rw (c.put_u32-3.ensures, c.put_u32-2.ensures, c.put_u32.ensures) (simp append_assoc)
