-- A change of the stored bits that adds a record: what it leaves of them, also where it does not end.
use Rattle.std.specs.Prelude.{◌≡◌, ◌⊎◌, ℕ, List, IsTrue, Ok}
use Rattle.ec_types.specs.LittleEndian.{u32_at}
use Rattle.ec_model.specs.declared.event.Event.{Event}
use Rattle.ec_model.specs.Commands.{FlashProtect}
use Rattle.ec_model.specs.Stored.{stored, stored_block, has_place}
use Rattle.ec_model.specs.Table.{Table, Awake, On, core_of}
use Rattle.ec_model.specs.ProtectRow.{wanted}
use Rattle.ec_model.specs.Handle.{asked}
use Rattle.ec_model.specs.Work.{Serve, work_on}

-- an event has a controller that is on serve a FLASH_PROTECT that passes the checks, with this mask and these flags
pub record ServesProtect (table : Table) (event : Event) (mask flags : ℕ) : Type 0 where
  pub awake : Awake
  pub on : table.power ≡ On awake
  pub request : List ℕ
  pub serves : work_on awake event ≡ Serve request
  pub version : ℕ
  pub body : List ℕ
  pub asks : asked (core_of table awake) request ≡ Ok (record { command = FlashProtect; version = version; body = body })
  pub mask_is : u32_at 0 body ≡ mask
  pub flags_is : u32_at 4 body ≡ flags

-- where a record has its place, the bits are as they were, or as a FLASH_PROTECT wants them
abbrev pub AddsRecord : ℕ → ℕ → List ℕ → List ℕ → Type 0
AddsRecord mask flags before after =
    IsTrue (has_place (stored_block before)) → (stored after ≡ stored before) ⊎ (stored after ≡ wanted mask flags (stored before))

-- a FLASH_PROTECT that is served in an event adds its record so
abbrev pub AddsWhole : Event → Table → Table → Type 0
AddsWhole event old new = (mask flags : ℕ) → ServesProtect old event mask flags → AddsRecord mask flags old.flash new.flash
