-- What each call keeps of guarded RO.
use Rattle.std.specs.Prelude.{◌≡◌, ℕ, Bool, List}
use Rattle.ec_types.specs.declared.bus.BusKind.{BusKind}
use Rattle.ec_model.specs.Bus.{BusState}
use Rattle.ec_model.specs.Table.{Core, table_of, off_table}
use Rattle.ec_model.specs.Guarded.{Guarded, guarded_bytes}

-- RO is guarded, on whatever bus
abbrev pub IsGuarded : Core → Type 0
IsGuarded core = (bus : BusState) → Guarded (table_of core bus)

-- the same of a controller that is off
abbrev pub IsGuardedOff : List ℕ → Bool → Type 0
IsGuardedOff flash pin = (kind : BusKind) → Guarded (off_table flash pin kind)

-- RO is guarded where it was, and its bytes are the same
pub record KeepsGuard (before after : Core) : Type 0 where
  pub guarded : IsGuarded before → IsGuarded after
  pub bytes : IsGuarded before → guarded_bytes after.flash ≡ guarded_bytes before.flash

-- the same where power comes, with the pin as given
pub record RaisesGuard (pin : Bool) (flash : List ℕ) (after : Core) : Type 0 where
  pub guarded : IsGuardedOff flash pin → IsGuarded after
  pub bytes : guarded_bytes after.flash ≡ guarded_bytes flash

-- the same where power goes
pub record LowersGuard (before : Core) (flash : List ℕ) : Type 0 where
  pub guarded : IsGuarded before → IsGuardedOff flash before.pin
  pub bytes : IsGuarded before → guarded_bytes flash ≡ guarded_bytes before.flash
