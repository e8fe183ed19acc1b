-- A cut of power that is armed, to fall in an operation to come.
use Rattle.std.specs.Prelude.{◌≡◌, ◌⊎◌, ◌≤◌, ℕ, zero, suc, ◌-◌, List, take, Option, Some, None, slice_get, ⊤}
use Rattle.flash_dev.specs.Flash.{overwritten}
use Rattle.flash_dev.specs.Operations.{Operation, operation_range, operated_all}
use Rattle.flash_dev.specs.declared.hurt.Hurt.{Hurt}
use Rattle.flash_dev.specs.declared.hurt.Hurt.TheVariants.{Cut}

-- an armed cut: in which flash operation from now it falls, and what it leaves of that one's first bytes
pub record ArmedCut : Type 0 where
  pub left : ℕ
  pub torn : List ℕ

-- the cut that is armed, where 0 stands for none
abbrev pub cut_at : ℕ → List ℕ → Option ArmedCut
cut_at zero torn = None
cut_at (suc left) torn = Some (record { left = suc left; torn = torn })

-- what is left of a cut behind so many operations: none where it fell
abbrev pub cut_after : ℕ → Option ArmedCut → Option ArmedCut
cut_after zero cut = cut
cut_after (suc begun) None = None
cut_after (suc begun) (Some cut) = cut_at (cut.left - suc begun) cut.torn

-- the armed cut falls in the last of so many operations
abbrev pub Falls : Option ArmedCut → ℕ → Type 0
Falls None begun = ⊥
Falls (Some cut) begun = (1 ≤ begun) × (begun ≡ cut.left)

-- Operation k lost power by the armed cut: its first bytes are torn, and the others of its range are kept; but where
-- the flash's faults rose, its range holds any bytes.
pub record TornAt (k : ℕ) (torn : List ℕ) (Faulty : Type 0) (operations : List Operation) (old new : List ℕ) : Type 0 where
  pub stopped : Operation
  pub is_there : slice_get operations k ≡ Some stopped
  pub leaves : (new ≡ overwritten (operation_range stopped).at (take (operation_range stopped).size torn) (operated_all (take k operations) old)) ⊎ Faulty

-- no operation begins behind the armed cut, and where it falls, power is lost there, and torn is what was armed
abbrev pub CutFalls : Type 0 → Option ArmedCut → ℕ → Hurt → List Operation → List ℕ → List ℕ → Type 0
CutFalls Faulty None begun hurt operations old new = ⊤
CutFalls Faulty (Some cut) begun hurt operations old new =
    (begun ≤ cut.left)
    × (Falls (Some cut) begun → (hurt ≡ Cut) × TornAt (cut.left - 1) cut.torn Faulty operations old new)
