-- What FLASH_ERASE and RESEND_RESPONSE leave, where the flash tells its bytes.
use Rattle.std.proofs.Common.{◌≡◌, refl, sym, ap, ◌∙◌, subst, ℕ, ◌<◌, ◌^◌, ◌/◌, false, List, [], length, Option, Some, None}
use Rattle.std.specs.Prelude.{option_map, IfSome}
use Rattle.flash_dev.specs.Told.{Changes}
use Rattle.flash_dev.specs.declared.hurt.Hurt.{Hurt}
use Rattle.flash_dev.specs.declared.hurt.Hurt.TheVariants.{Whole}
use Rattle.ec_model.specs.declared.live.Live.{Live}
use Rattle.ec_model.specs.declared.live.EraseJob.{EraseJob}
use Rattle.ec_model.specs.Ranges.{Range}
use Rattle.ec_model.specs.Table.{Core}
use Rattle.ec_model.specs.Bodies.{flash_erase_ask}
use Rattle.ec_model.specs.Answer.{Outcome, Answered, unless_refused}
use Rattle.ec_model.specs.Erasing.{asked_job}
use Rattle.ec_model.specs.FlashRows.{asked_range, erase_refusal, flash_erase_row}
use Rattle.ec_boot.specs.States.{RunView, core_at, told_core}
use Rattle.command_table.specs.Leaves.{Leaves}
use Rattle.command_table.proofs.RowLemmas.{read-range, whole-leaves, none-begun}

-- the range that an erase asks for
pub erase-range : (at count : ℕ) → at < 2 ^ 32 → count < 2 ^ 32 → asked_range (flash_erase_ask at count) ≡ record { at = at; size = count }
erase-range at count fits_at fits_count = read-range at count fits_at fits_count

-- the live state once an erase is pending
abbrev pub erasing : EraseJob → Live → Live
erasing job live = record live { erase = Some job; saved = 9 }

-- the outcome of an erase that is accepted
abbrev started : Core → Range → Outcome
started core range = Answered (record core { live = erasing (asked_job range) core.live }) 8 []

-- an erase that is accepted is pending
pub started-told : (n : ℕ) (old new : RunView) (at count : ℕ) (hurt : Hurt) (status : ℕ) (body : List ℕ) → at < 2 ^ 32 → count < 2 ^ 32 → IfSome old.device.held (λ f. length f ≡ n) →
    ((core : Core) (request : List ℕ) → length core.flash ≡ n → core.live ≡ old.live → asked_range request ≡ record { at = at; size = count } → erase_refusal core request ≡ None) →
    new ≡ record old { live = erasing (record { next = at / 4096; left = count / 4096 }) old.live } → hurt ≡ Whole → status ≡ 8 → body ≡ [] →
    Changes (λ before after. Leaves hurt (flash_erase_row before (flash_erase_ask at count)) false [] old.device new.device before after status body) (told_core old) (told_core new)
started-told n old new at count hurt status body fits_at fits_count sized allowed new_is whole status_is body_is =
    subst (λ (run : RunView). Changes (λ before after. Leaves hurt (flash_erase_row before (flash_erase_ask at count)) false [] old.device run.device before after status body) (told_core old) (told_core run)) (sym new_is) (by old.device.held sized) where
      after : RunView
      after = record old { live = erasing (record { next = at / 4096; left = count / 4096 }) old.live }

      by : (o : Option (List ℕ)) → IfSome o (λ f. length f ≡ n) →
          Changes (λ before after. Leaves hurt (flash_erase_row before (flash_erase_ask at count)) false [] old.device old.device before after status body) (option_map (core_at old) o) (option_map (core_at after) o)
      by None here = tt
      by (Some f) here =
          whole-leaves hurt (flash_erase_row (core_at old f) (flash_erase_ask at count)) false [] old.device old.device (core_at old f) (core_at after f) 8 status [] body whole status_is body_is
          (ap (λ (r : Option ℕ). unless_refused r (core_at old f) (started (core_at old f) (asked_range (flash_erase_ask at count)))) (allowed (core_at old f) (flash_erase_ask at count) here refl (erase-range at count fits_at fits_count))
          ∙ ap (λ (range : Range). started (core_at old f) range) (erase-range at count fits_at fits_count))
          (none-begun [] old.device old.device (core_at old f) (core_at after f) refl refl)
