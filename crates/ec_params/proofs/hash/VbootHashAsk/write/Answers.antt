use Rattle.std.proofs.Common.{append_assoc}
use Rattle.ec_params.proofs.hash.VbootHashAsk.write.Goals as goal

pub returns : goal.returns
returns c = rw (c.extend-2.ensures, c.put_u32-2.ensures, c.put_u32.ensures, c.extend.ensures) (simp append_assoc)
