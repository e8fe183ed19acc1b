-- The rounds of a drill, as they are drawn from a number.
use Rattle.std.specs.Prelude.{ℕ, ◌+◌, ◌-◌, ◌%◌, List, ◌++◌, length, replicate, codes, decimal}
use Rattle.flash_dev.specs.Ranges.{rw_range}
use Rattle.byteorder.specs.Endian.{little_bytes}
use Rattle.drill_draws.specs.Draws.{after, nth_draw, drawn_bytes}

-- how many bytes an image has: 2,048 to 6,143
abbrev pub image_length : ℕ → ℕ
image_length x = 2048 + nth_draw 1 x % 4096

-- how many of them stand behind its head
abbrev pub body_length : ℕ → ℕ
body_length x = image_length x - 40

-- the text `drill-` and the round's number, padded with zeros to 32 bytes
abbrev pub version_of : ℕ → List ℕ
version_of round = let text = codes "drill-" ++ decimal round in text ++ replicate (32 - length text) 0

-- the reset vector: byte 256 of RW
abbrev pub vector_of : ℕ → ℕ
vector_of size = (rw_range size).at + 256

-- an image's head: four zeros, the reset vector, and the version
abbrev pub head_of : (round size : ℕ) → List ℕ
head_of round size = replicate 4 0 ++ little_bytes 4 (vector_of size) ++ version_of round

-- the image of a round, for a flash of this size
abbrev pub drill_image : (round size x : ℕ) → List ℕ
drill_image round size x = head_of round size ++ drawn_bytes 2 (body_length x) x

-- the flash operation in which power is cut: 1 to 40
abbrev pub drill_operation : ℕ → ℕ
drill_operation x = 1 + nth_draw (body_length x + 2) x % 40

-- the bytes that the cut leaves at the front of its range
abbrev pub drill_torn : ℕ → List ℕ
drill_torn x = little_bytes 4 (nth_draw (body_length x + 3) x)

-- the number behind the round
abbrev pub behind_round : ℕ → ℕ
behind_round x = after (body_length x + 3) x
