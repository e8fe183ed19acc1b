-- The parts of the flash, by its size.
use Rattle.std.specs.Prelude.{ℕ, ◌+◌, ◌-◌, ◌*◌, ◌/◌, Bool, ◌&&◌, ◌==◌, nat_lt, nat_le, if◌then◌else◌, List, [], ◌∷◌, slice_range, Option, Some, None}
use Rattle.std.specs.List.{list_any}
use Rattle.std.specs.Option.{option_map}
use Rattle.flash_dev.specs.Flash.{block_size}
use Rattle.flash_dev.specs.declared.geometry.Region.{Region}
use Rattle.flash_dev.specs.declared.geometry.Region.TheVariants.{Ro, Active, WpRo, Update}

-- a part of the flash: where it begins, and how many bytes it has
pub record Range : Type 0 where
  pub at : ℕ
  pub size : ℕ

-- the sizes that a flash may have
abbrev pub flash_sizes : List ℕ
flash_sizes = 65536 ∷ 131072 ∷ 262144 ∷ 524288 ∷ 1048576 ∷ 2097152 ∷ 4194304 ∷ []

-- whether a flash may have this size
abbrev pub is_flash_size : ℕ → Bool
is_flash_size size = list_any (λ allowed. allowed == size) flash_sizes

-- the image that an update never writes, without the stored protection
abbrev pub ro_range : ℕ → Range
ro_range size = record { at = 0; size = size / 2 - block_size }

-- the block of the stored protection
abbrev pub pstate_range : ℕ → Range
pstate_range size = record { at = size / 2 - block_size; size = block_size }

-- the image that an update writes
abbrev pub rw_range : ℕ → Range
rw_range size = record { at = size / 2; size = size / 2 }

-- what write protection guards: the RO image and the stored protection
abbrev pub wp_ro_range : ℕ → Range
wp_ro_range size = record { at = 0; size = size / 2 }

-- the region of a number of the command set, if there is one
abbrev pub region_of : ℕ → Option Region
region_of number =
    if number == 0 then Some Ro else
    if number == 1 then Some Active else
    if number == 2 then Some WpRo else
    if number == 3 then Some Update else
    None

-- where a region lies: an update goes to RW, and only RW is written while the controller runs
abbrev pub range_of : Region → ℕ → Range
range_of Ro size = ro_range size
range_of Active size = rw_range size
range_of WpRo size = wp_ro_range size
range_of Update size = rw_range size

-- where the region of a number lies, if there is one
abbrev pub region_range : ℕ → ℕ → Option Range
region_range number size = option_map (λ region. range_of region size) (region_of number)

-- the range of an erase block
abbrev pub block_range : ℕ → Range
block_range block = record { at = block * block_size; size = block_size }

-- the range of some blocks in a row
abbrev pub blocks_range : ℕ → ℕ → Range
blocks_range first count = record { at = first * block_size; size = count * block_size }

-- whether two ranges that are not empty have a byte in common
abbrev pub overlaps : Range → Range → Bool
overlaps first second = nat_lt first.at (second.at + second.size) && nat_lt second.at (first.at + first.size)

-- whether a range ends within a flash of this size
abbrev pub ends_within : ℕ → Range → Bool
ends_within size range = nat_le (range.at + range.size) size

-- the bytes of a range
abbrev pub part : Range → List ℕ → List ℕ
part range bytes = slice_range bytes range.at (range.at + range.size)
