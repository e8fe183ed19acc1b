use Rattle.std.proofs.Common.{refl, Some, inl}
use Rattle.ec_types.specs.declared.bus.BusKind.TheVariants.{Lpc}
use Rattle.ec_model.specs.Bus.{fresh_bus}
use Rattle.ec_model.specs.Table.{table_of}
use Rattle.ec_model.specs.Erasing.{with_job}
use Rattle.ec_examples.specs.Flashes.{a64, image_v2, with_image}
use Rattle.ec_examples.specs.Cores.{on}
use Rattle.ec_examples.proofs.SyncLemmas.{apart, closed}
use Rattle.ec_examples.proofs.syncable.syncable_to_what_rw_holds.Goals as goal

pub returns-clause-held : goal.returns-clause-held
returns-clause-held c = record { on = refl; writable = inl (record { same = refl; kept = refl }) }

pub returns-clause-erasing : goal.returns-clause-erasing
returns-clause-erasing c =
    closed (table_of (with_job (Some (record { next = 15; left = 1 })) 9 (on (with_image a64))) (fresh_bus Lpc)) image_v2 (λ holds. apart holds.kept) refl

pub returns-clause-erasing_below : goal.returns-clause-erasing_below
returns-clause-erasing_below c = record { on = refl; writable = inl (record { same = refl; kept = refl }) }
