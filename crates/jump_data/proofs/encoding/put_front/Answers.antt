use Rattle.std.proofs.Common.{append_assoc}
use Rattle.jump_data.proofs.encoding.put_front.Goals as goal

pub returns-in-V2-clause-spelled : goal.returns-in-V2-clause-spelled
returns-in-V2-clause-spelled c =
    rw (c.in-V2.is, c.put_u32-in-V2-3.ensures, c.put_u32-in-V2-2.ensures, c.put_u32-in-V2.ensures, c.put_u32.ensures) (simp append_assoc)

pub returns-in-V3-clause-spelled : goal.returns-in-V3-clause-spelled
returns-in-V3-clause-spelled c =
    rw (c.in-V3.is, c.put_u32-in-V3-4.ensures, c.put_u32-in-V3-3.ensures, c.put_u32-in-V3-2.ensures, c.put_u32-in-V3.ensures, c.put_u32.ensures) (simp append_assoc)
