use Rattle.std.proofs.Common.{◌≡◌, refl, ℕ, List, inr, arith, ap, slice_index}
use Rattle.ec_types.specs.declared.bus.BusKind.TheVariants.{Lpc}
use Rattle.ec_model.specs.Syncable.{settled, HoldsImage}
use Rattle.ec_model.specs.Stored.{slot_count}
use Rattle.ec_examples.specs.Flashes.{e64, a64, record_bytes, with_records, image_v2}
use Rattle.ec_examples.specs.Events.{powered}
use Rattle.ec_examples.proofs.SyncLemmas.{closed}
use Rattle.ec_examples.proofs.syncable.syncable_by_what_is_stored.Goals as goal

-- a byte that is erased is not 0
erased : ◌≡◌ {A = ℕ} 0xFF 0 → ⊥
erased same = omega (arith, same)

-- RW is erased
differs : HoldsImage (settled (powered a64 Lpc)) image_v2 → ⊥
differs holds = erased (ap (λ (bytes : List ℕ). slice_index bytes 0) holds.same)

pub returns-clause-erased : goal.returns-clause-erased
returns-clause-erased c = record { on = refl; writable = inr refl }

pub returns-clause-waiting : goal.returns-clause-waiting
returns-clause-waiting c = record { on = refl; writable = inr refl }

pub returns-clause-locked : goal.returns-clause-locked
returns-clause-locked c = closed (powered a64 Lpc) image_v2 differs refl

-- beside a record too
differs_behind : HoldsImage (settled (powered (with_records (record_bytes 0x41) e64) Lpc)) image_v2 → ⊥
differs_behind holds = erased (ap (λ (bytes : List ℕ). slice_index bytes 0) holds.same)

pub returns-clause-by_record : goal.returns-clause-by_record
unfolding slot_count
returns-clause-by_record c = closed (powered (with_records (record_bytes 0x41) e64) Lpc) image_v2 differs_behind refl

pub returns-clause-taken_back : goal.returns-clause-taken_back
unfolding slot_count
returns-clause-taken_back c = record { on = refl; writable = inr refl }

pub returns-clause-pin_off : goal.returns-clause-pin_off
returns-clause-pin_off c = record { on = refl; writable = inr refl }

pub returns-clause-off : goal.returns-clause-off
returns-clause-off c = λ open_table. cc
