-- What one step of the controller adds to the bench, once it was pushed to the journal.
use Rattle.std.proofs.Common.{◌≡◌, refl, ap, ◌∙◌, ℕ, ◌+◌, Bool, true, false, [], ◌∷◌, ◌++◌, Option, Some, None, arith}
use Rattle.std.specs.Prelude.{IsTrue, count_by}
use Rattle.flash_dev.specs.Device.{DeviceView}
use Rattle.flash_dev.specs.Told.{Changes}
use Rattle.flash_dev.specs.declared.hurt.Hurt.{Hurt}
use Rattle.flash_dev.specs.declared.hurt.Hurt.TheVariants.{Whole, Failed, Cut}
use Rattle.ec_types.specs.declared.bus.BusKind.{BusKind}
use Rattle.ec_model.specs.declared.event.Event.{Event}
use Rattle.ec_model.specs.declared.event.Entry.TheVariants.{Step}
use Rattle.ec_model.specs.HostCalls.{on_after_entry}
use Rattle.ec_model.specs.Upset.{is_cut_entry}
use Rattle.ec_model.specs.Work.{lost_answer}
use Rattle.ec_model.specs.Table.{Table}
use Rattle.ec_model.specs.Played.{PlaysEntry}
use Rattle.ec_core.specs.View.{bench_at}
use Rattle.ec_core.specs.Held.{on_behind, IsSilent, IsSpent}
use Rattle.ec_wire.specs.Calls.{RoseBy, IsPowerless, is_failed_entry}
use Rattle.bench_wire.specs.BenchView.{BenchView, wire_view}
use Rattle.bench_wire.specs.Falling.{EntryTold, Steps}

-- whether the controller is on behind an entry
on-behind : (hurt : Hurt) (event : Event) (answer meant seen : ℕ) (on : Bool) → on_behind hurt event on ≡ on_after_entry (Step event answer meant seen hurt) on
on-behind Whole event answer meant seen on = refl
on-behind Failed event answer meant seen on = refl
on-behind Cut event answer meant seen on = refl

-- a failed entry raised the count of faults
rose-faults : (hurt : Hurt) (event : Event) (answer meant seen : ℕ) (old new : DeviceView) → IsSpent hurt old new → RoseBy (count_by is_failed_entry (Step event answer meant seen hurt ∷ [])) old.faults new.faults
rose-faults Whole event answer meant seen old new spent = record { later = spent.faults; risen = omega (arith, spent.faults) }
rose-faults Failed event answer meant seen old new spent = record { later = spent.faults; risen = spent.rose }
rose-faults Cut event answer meant seen old new spent = record { later = spent.faults; risen = omega (arith, spent.faults) }

-- a cut entry raised the count of cuts
rose-cuts : (hurt : Hurt) (event : Event) (answer meant seen : ℕ) (old new : DeviceView) → IsSpent hurt old new → RoseBy (count_by is_cut_entry (Step event answer meant seen hurt ∷ [])) old.cuts new.cuts
rose-cuts Whole event answer meant seen old new spent = record { later = spent.cuts; risen = omega (arith, spent.cuts) }
rose-cuts Failed event answer meant seen old new spent = record { later = spent.cuts; risen = omega (arith, spent.cuts) }
rose-cuts Cut event answer meant seen old new spent = record { later = spent.cuts; risen = spent.rose }

-- what an entry answers without power
powerless : (hurt : Hurt) (event : Event) (answer meant seen : ℕ) (on : Bool) → (on ≡ false → answer ≡ lost_answer event) → (hurt ≡ Cut → answer ≡ lost_answer event) → IsPowerless on (Step event answer meant seen hurt)
powerless hurt event answer meant seen false off lost = off refl
powerless Whole event answer meant seen true off lost = tt
powerless Failed event answer meant seen true off lost = tt
powerless Cut event answer meant seen true off lost = lost refl

-- an entry of a bench with nothing armed is one of the same bench with any events armed
entry-told : (bus : BusKind) (event : Event) (answer meant seen : ℕ) (hurt : Hurt) (old new : BenchView) (o p : Option Table) → new.armed ≡ old.armed
    → Changes (λ before after. PlaysEntry (bench_at old.controller.device before) event answer meant seen hurt (bench_at new.controller.device after)) o p
    → EntryTold event answer meant seen hurt (wire_view bus old) (wire_view bus new) o p
entry-told bus event answer meant seen hurt old new None None same plays = tt
entry-told bus event answer meant seen hurt old new None (Some after) same plays = plays
entry-told bus event answer meant seen hurt old new (Some before) None same plays = plays
entry-told bus event answer meant seen hurt old new (Some before) (Some after) same plays = record {
  begun = plays.begun;
  step = plays.step;
  falls = plays.falls;
  cause = plays.cause;
  cut_is = plays.cut_is;
  armed_is = same;
  faults_later = plays.faults_later;
  cuts_later = plays.cuts_later;
}

-- what the clauses of the controller and the journal say of a step
pub steps-of : (bus : BusKind) (event : Event) (answer meant seen : ℕ) (hurt : Hurt) (old new : BenchView) → hurt ≡ new.controller.hurt
    → new.entries ≡ old.entries ++ Step event answer meant seen hurt ∷ [] → new.spare + 1 ≡ old.spare → new.armed ≡ old.armed
    → new.controller.on ≡ on_behind new.controller.hurt event old.controller.on → IsSpent new.controller.hurt old.controller.device new.controller.device
    → Changes (λ before after. PlaysEntry (bench_at old.controller.device before) event answer meant seen new.controller.hurt (bench_at new.controller.device after)) old.controller.table new.controller.table
    → (old.controller.on ≡ false → answer ≡ lost_answer event) → (new.controller.hurt ≡ Cut → answer ≡ lost_answer event)
    → (new.controller.hurt ≡ Cut → IsTrue old.controller.on) → IsSilent event answer
    → Steps event answer meant seen new.controller.hurt (wire_view bus old) (wire_view bus new)
steps-of bus event answer meant seen hurt old new hurt_is entries room armed on spent plays off lost alive silent =
    let now = new.controller.hurt in
    record {
      entries = entries ∙ ap (λ (h : Hurt). old.entries ++ Step event answer meant seen h ∷ []) hurt_is;
      room = room;
      on = on ∙ on-behind now event answer meant seen old.controller.on;
      bus = refl;
      armed = armed;
      silent = silent;
      alive = alive;
      powerless = powerless now event answer meant seen old.controller.on off lost;
      faults = rose-faults now event answer meant seen old.controller.device new.controller.device spent;
      cuts = rose-cuts now event answer meant seen old.controller.device new.controller.device spent;
      plays = entry-told bus event answer meant seen now old new old.controller.table new.controller.table armed plays;
    }
