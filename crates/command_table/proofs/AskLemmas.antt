-- The bodies that name a command.
use Rattle.std.proofs.Common.{◌≡◌, refl, ap, ℕ, ◌<◌, ◌^◌, Bool, true, false, if◌then◌else◌, ◌==◌, []}
use Rattle.std.specs.Prelude.{slice_index}
use Rattle.std.proofs.lemmas.Bool.{ne_eqb}
use Rattle.ec_types.specs.LittleEndian.{u16_at}
use Rattle.ec_types.proofs.LittleEndianLaws.{u16_at-u16_bytes}
use Rattle.ec_model.specs.Bodies.{cmd_versions_ask0, cmd_versions_ask1}
use Rattle.command_table.specs.Asks.{named}

-- from version 1 on two bytes name a command
pub named-later : (version command : ℕ) → (version ≡ 0 → ⊥) → named version command ≡ cmd_versions_ask1 command
named-later version command later =
    ap (λ (first : Bool). if first then cmd_versions_ask0 command else cmd_versions_ask1 command) (ne_eqb version 0 later)

pub length-later : (version : ℕ) → (version ≡ 0 → ⊥) → ◌≡◌ {A = ℕ} (if version == 0 then 1 else 2) 2
length-later version later = ap (λ (first : Bool). let count : ℕ = if first then 1 else 2 in count) (ne_eqb version 0 later)

-- the command is read back
pub named-read : (version command : ℕ) → command < 2 ^ 16 →
    (if version == 0 then slice_index (named version command) 0 else u16_at 0 (named version command)) ≡ command
named-read version command fits = by (version == 0) where
  by : (first : Bool) → (if first then slice_index (if first then cmd_versions_ask0 command else cmd_versions_ask1 command) 0
      else u16_at 0 (if first then cmd_versions_ask0 command else cmd_versions_ask1 command)) ≡ command
  by true = refl
  by false = u16_at-u16_bytes command [] fits
