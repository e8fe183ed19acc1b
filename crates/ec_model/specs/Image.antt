-- An image that is to be installed in RW.
use Rattle.std.specs.Prelude.{ℕ, ◌-◌, not, nat_lt, if◌then◌else◌, List, ◌++◌, length, replicate}
use Rattle.sha2.specs.Sha256.{sha256}
use Rattle.ec_types.specs.LittleEndian.{u32_at}
use Rattle.ec_types.specs.declared.image.Fit.{Fit}
use Rattle.ec_types.specs.declared.image.Fit.TheVariants.{Yes, Short, Long, Vector}
use Rattle.ec_model.specs.Ranges.{rw_range}
use Rattle.ec_model.specs.Jump.{vector_in}

-- whether an image fits a flash of this size
abbrev pub fit_of : List ℕ → ℕ → Fit
fit_of image size =
    if nat_lt (length image) 8 then Short else
    if nat_lt (rw_range size).size (length image) then Long else
    if not (vector_in (rw_range size) (u32_at 4 image)) then Vector else
    Yes

-- the image, padded to the size of RW
abbrev pub padded : List ℕ → ℕ → List ℕ
padded image size = image ++ replicate ((rw_range size).size - length image) 0xFF

-- the digest that RW has to have
abbrev pub expected : List ℕ → ℕ → List ℕ
expected image size = sha256 (padded image size)
