-- The flashes and the image of the examples.
use Rattle.std.specs.Prelude.{ℕ, List, [], ◌∷◌, ◌++◌, replicate}
use Rattle.flash_dev.specs.Flash.{overwritten}
use Rattle.ec_types.specs.LittleEndian.{u32_bytes}
use Rattle.ec_model.specs.Stored.{mark2_bytes, open_gate}

-- a flash of 65,536 bytes, all erased
abbrev pub e64 : List ℕ
e64 = replicate 65536 0xFF

-- the same with the lock of RO at boot stored, as version 1
abbrev pub g64 : List ℕ
g64 = overwritten 0x7000 (0x50 ∷ 0x53 ∷ 0x54 ∷ 0x31 ∷ 0x01 ∷ 0 ∷ 0 ∷ 0 ∷ []) e64

-- the same with both locks at boot stored, as version 1
abbrev pub a64 : List ℕ
a64 = overwritten 0x7000 (0x50 ∷ 0x53 ∷ 0x54 ∷ 0x31 ∷ 0x41 ∷ 0 ∷ 0 ∷ 0 ∷ []) e64

-- a record that counts, with this word
abbrev pub record_bytes : ℕ → List ℕ
record_bytes word = u32_bytes word ++ open_gate

-- a flash with these bytes behind the mark of version 2
abbrev pub with_records : List ℕ → List ℕ → List ℕ
with_records records flash = overwritten 0x7000 (mark2_bytes ++ records) flash

-- a flash with this byte at 40 in RO, which says the version of the jump data that RO writes
abbrev pub with_version : ℕ → List ℕ → List ℕ
with_version byte flash = overwritten 40 (byte ∷ []) flash

-- an image of 1,000 bytes for RW: its reset vector is 0x8100, and its version `v2`
abbrev pub image_v2 : List ℕ
image_v2 =
    (0 ∷ 0 ∷ 0 ∷ 0 ∷ 0x00 ∷ 0x81 ∷ 0x00 ∷ 0x00 ∷ 0x76 ∷ 0x32 ∷ []) ++ replicate 30 0 ++ replicate 960 0x5A

-- a flash with that image in RW
abbrev pub with_image : List ℕ → List ℕ
with_image flash = overwritten 0x8000 image_v2 flash

-- a flash with this reset vector in RW's head
abbrev pub with_vector : ℕ → List ℕ → List ℕ
with_vector vector flash = overwritten 0x8004 (u32_bytes vector) flash

-- a flash with this reset vector, and the version `snow_v1`, in RO's head
abbrev pub with_ro : ℕ → List ℕ → List ℕ
with_ro vector flash = overwritten 4 (u32_bytes vector ++ 0x73 ∷ 0x6E ∷ 0x6F ∷ 0x77 ∷ 0x5F ∷ 0x76 ∷ 0x31 ∷ 0 ∷ []) flash
