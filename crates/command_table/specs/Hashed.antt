-- What is asked of a hash, and what is shown of it.
use Rattle.std.specs.Prelude.{ℕ, List}
use Rattle.ec_model.specs.Ranges.{Range}
use Rattle.ec_model.specs.Bodies.{vboot_hash_say}
use Rattle.ec_params.specs.declared.hash.VbootHashSay.{VbootHashSay}

-- a range as its place and its size
abbrev pub range_pair : Range → ℕ × ℕ
range_pair range = (range.at, range.size)

-- the bytes of a reply
abbrev pub hash_say : VbootHashSay → List ℕ
hash_say say = vboot_hash_say say.status say.hash_type say.digest_size say.reserved say.offset say.size say.digest
