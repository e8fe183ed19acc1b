-- What GET_VERSION tells.
use Rattle.std.specs.Prelude.{◌≡◌, ℕ, List, replicate}
use Rattle.ec_types.specs.declared.image.ImageCopy.{ImageCopy}
use Rattle.ec_types.specs.declared.image.ImageCopy.TheVariants.{Ro, Rw}
use Rattle.ec_model.specs.InfoRows.{version_text, raw_version, copy_number}
use Rattle.ec_params.specs.declared.identity.VersionSay.{VersionSay}

-- the versions in the heads of both images, and which of them runs
pub record TellsVersions (say : VersionSay) (copy : ImageCopy) (flash : List ℕ) : Type 0 where
  pub ro : say.ro ≡ version_text (raw_version Ro flash)
  pub rw_ : say.rw ≡ version_text (raw_version Rw flash)
  pub reserved : say.reserved ≡ replicate 32 0
  pub current : say.current ≡ copy_number copy
