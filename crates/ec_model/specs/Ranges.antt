-- The parts of the flash, and which of them an image takes.
use Rattle.std.specs.Prelude.{ℕ}
use Rattle.ec_types.specs.declared.image.ImageCopy.{ImageCopy}
use Rattle.ec_types.specs.declared.image.ImageCopy.TheVariants.{Ro, Rw}
pub use Rattle.flash_dev.specs.Ranges.{Range, flash_sizes, is_flash_size, ro_range, pstate_range, rw_range, wp_ro_range, region_range, block_range, blocks_range, overlaps, ends_within, part}

-- the region of an image
abbrev pub copy_range : ImageCopy → ℕ → Range
copy_range Ro size = ro_range size
copy_range Rw size = rw_range size
