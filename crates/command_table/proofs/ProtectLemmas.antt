-- What FLASH_PROTECT leaves, where the flash tells its bytes.
use Rattle.std.proofs.Common.{◌≡◌, refl, sym, ap, ◌∙◌, subst, ℕ, ◌<◌, ◌^◌, true, List, [], inl, inr, Option, Ok, Err}
use Rattle.std.specs.Prelude.{◌⊎◌}
use Rattle.ec_types.specs.LittleEndian.{u32_at, u32_bytes}
use Rattle.ec_types.proofs.LittleEndianLaws.{u32_at-u32_bytes}
use Rattle.flash_dev.specs.Told.{Changes}
use Rattle.flash_dev.specs.declared.device.DevErr.{DevErr}
use Rattle.flash_dev.specs.declared.device.DevErr.TheVariants.{Failed as FailedErr, PowerLost}
use Rattle.flash_dev.specs.declared.hurt.Hurt.{Hurt}
use Rattle.flash_dev.specs.declared.hurt.Hurt.TheVariants.{Whole, Failed, Cut}
use Rattle.ec_model.specs.declared.live.ProtectView.{ProtectView}
use Rattle.ec_model.specs.Table.{Core}
use Rattle.ec_model.specs.Bodies.{flash_protect_ask, flash_protect_say}
use Rattle.ec_model.specs.Commands.{FlashProtect}
use Rattle.ec_model.specs.Handle.{row_operations}
use Rattle.ec_model.specs.ProtectRow.{flash_protect_row, protect_operations, protect_view, protected}
use Rattle.ec_model.specs.Answer.{Answered}
use Rattle.ec_boot.specs.Ran.{IsStopped, IsProtected, AllBegun, ReadFailed}
use Rattle.flash_dev.specs.View.{DeviceView}
use Rattle.ec_model.specs.Operations.{Operation}
use Rattle.flash_dev.specs.Costs.{hurt_of}
use Rattle.command_table.specs.Leaves.{Leaves, end_status}
use Rattle.command_table.proofs.ToldLemmas.{changes-map}
use Rattle.command_table.proofs.RowLemmas.{whole-leaves}

-- the bytes that show a protection
abbrev pub protect_bytes : ProtectView → List ℕ
protect_bytes view = flash_protect_say view.flags view.valid view.writable

-- the fields of the request are read back
mask-is : (mask flags : ℕ) → mask < 2 ^ 32 → u32_at 0 (flash_protect_ask mask flags) ≡ mask
mask-is mask flags fits = u32_at-u32_bytes mask (u32_bytes flags) fits

flags-are : (mask flags : ℕ) → flags < 2 ^ 32 → u32_at 4 (flash_protect_ask mask flags) ≡ flags
flags-are mask flags fits = u32_at-u32_bytes flags [] fits

-- the operations of the request
pub operations-are : (core : Core) (mask flags : ℕ) → mask < 2 ^ 32 → flags < 2 ^ 32 → row_operations core FlashProtect 1 (flash_protect_ask mask flags) ≡ protect_operations core mask flags
operations-are core mask flags first second =
    ap (λ (n : ℕ). protect_operations core n (u32_at 4 (flash_protect_ask mask flags))) (mask-is mask flags first)
    ∙ ap (protect_operations core mask) (flags-are mask flags second)

abbrev pub ProtectLeaves : Hurt → ℕ → ℕ → ℕ → List ℕ → DeviceView → DeviceView → Core → Core → Type 0
ProtectLeaves hurt mask flags status body device changed before after =
    Leaves hurt (flash_protect_row before (flash_protect_ask mask flags)) true (row_operations before FlashProtect 1 (flash_protect_ask mask flags)) device changed before after status body

shown-leaves : (mask flags : ℕ) (view : ProtectView) (hurt : Hurt) (status : ℕ) (body : List ℕ) (device changed : DeviceView) (before after : Core) → mask < 2 ^ 32 → flags < 2 ^ 32 →
    hurt ≡ Whole → status ≡ 0 → body ≡ protect_bytes view → IsProtected mask flags device changed before after (Ok view) → ProtectLeaves hurt mask flags status body device changed before after
shown-leaves mask flags view hurt status body device changed before after first second whole status_is body_is done =
    let request : List ℕ = flash_protect_ask mask flags in
    let same : protected (u32_at 0 request) (u32_at 4 request) before ≡ after =
    ap (λ (n : ℕ). protected n (u32_at 4 request) before) (mask-is mask flags first) ∙ ap (λ (n : ℕ). protected mask n before) (flags-are mask flags second) ∙ sym done.0 in
    whole-leaves hurt (flash_protect_row before request) true (row_operations before FlashProtect 1 request) device changed before after 0 status (protect_bytes view) body whole status_is body_is
    (ap (λ (c : Core). Answered c 0 (protect_bytes (protect_view c))) same ∙ ap (λ (v : ProtectView). Answered after 0 (protect_bytes v)) (sym done.1))
    (subst (λ (ops : List Operation). AllBegun ops device changed before after) (sym (operations-are before mask flags first second)) done.2)

stopped-leaves : (hurt : Hurt) (mask flags : ℕ) (device changed : DeviceView) (before after : Core) → mask < 2 ^ 32 → flags < 2 ^ 32 → IsStopped hurt (protect_operations before mask flags) device changed before after →
    IsStopped hurt (row_operations before FlashProtect 1 (flash_protect_ask mask flags)) device changed before after
stopped-leaves hurt mask flags device changed before after first second stopped =
    subst (λ (ops : List Operation). IsStopped hurt ops device changed before after) (sym (operations-are before mask flags first second)) stopped

failed-leaves : (mask flags : ℕ) (hurt : Hurt) (status : ℕ) (body : List ℕ) (device changed : DeviceView) (before after : Core) → mask < 2 ^ 32 → flags < 2 ^ 32 → hurt ≡ Failed → status ≡ 2 → body ≡ [] →
    ReadFailed (protect_operations before mask flags) device changed before after ⊎ IsStopped Failed (protect_operations before mask flags) device changed before after → ProtectLeaves hurt mask flags status body device changed before after
failed-leaves mask flags hurt status body device changed before after first second failed status_is body_is (inl same) =
    subst (λ (h : Hurt). ProtectLeaves h mask flags status body device changed before after) (sym failed)
    (record {
      status_is = status_is;
      body_is = body_is;
      what = inl (refl, tt, subst (λ (ops : List Operation). ReadFailed ops device changed before after) (sym (operations-are before mask flags first second)) same);
    })
failed-leaves mask flags hurt status body device changed before after first second failed status_is body_is (inr stopped) =
    subst (λ (h : Hurt). ProtectLeaves h mask flags status body device changed before after) (sym failed)
    (record { status_is = status_is; body_is = body_is; what = inr (stopped-leaves Failed mask flags device changed before after first second stopped) })

-- FLASH_PROTECT was done
pub shown-told : (mask flags : ℕ) (view : ProtectView) (hurt : Hurt) (status : ℕ) (body : List ℕ) (device changed : DeviceView) (old new : Option Core) → mask < 2 ^ 32 → flags < 2 ^ 32 →
    hurt ≡ Whole → status ≡ 0 → body ≡ protect_bytes view → Changes (λ before after. IsProtected mask flags device changed before after (Ok view)) old new → Changes (ProtectLeaves hurt mask flags status body device changed) old new
shown-told mask flags view hurt status body device changed old new first second whole status_is body_is told =
    changes-map (λ before after. IsProtected mask flags device changed before after (Ok view)) (ProtectLeaves hurt mask flags status body device changed)
    (λ before after done. shown-leaves mask flags view hurt status body device changed before after first second whole status_is body_is done) old new told

-- a read or an operation failed, or power was lost
pub stopped-told : (mask flags : ℕ) (error : DevErr) (hurt other : Hurt) (status : ℕ) (body : List ℕ) (device changed : DeviceView) (old new : Option Core) → mask < 2 ^ 32 → flags < 2 ^ 32 →
    hurt ≡ hurt_of {T = Unit {0}} (Err error) → other ≡ hurt → status ≡ end_status hurt → body ≡ [] → Changes (λ before after. IsProtected mask flags device changed before after (Err error)) old new →
    Changes (ProtectLeaves other mask flags status body device changed) old new
stopped-told mask flags FailedErr hurt other status body device changed old new first second hurt_is same status_is body_is told =
    changes-map (λ before after. IsProtected mask flags device changed before after (Err FailedErr)) (ProtectLeaves other mask flags status body device changed)
    (λ before after done. failed-leaves mask flags other status body device changed before after first second (same ∙ hurt_is) (status_is ∙ ap end_status hurt_is) body_is done) old new told
stopped-told mask flags PowerLost hurt other status body device changed old new first second hurt_is same status_is body_is told =
    changes-map (λ before after. IsProtected mask flags device changed before after (Err PowerLost)) (ProtectLeaves other mask flags status body device changed)
    (λ before after done. subst (λ (h : Hurt). ProtectLeaves h mask flags status body device changed before after) (sym (same ∙ hurt_is)) (stopped-leaves Cut mask flags device changed before after first second done)) old new told
