-- Entries on a bench, one after the other, whatever they are.
use Rattle.std.proofs.Common.{refl, sym, ap, ◌∙◌, subst, ℕ, Bool, List, [], ◌++◌, append_assoc, append-nil, arith, Option, Some, None}
use Rattle.std.specs.Prelude.{count_by}
use Rattle.ec_model.specs.declared.event.Entry.{Entry}
use Rattle.ec_model.specs.HostCalls.{on_after}
use Rattle.ec_model.specs.Upset.{is_cut_entry}
use Rattle.ec_model.specs.Table.{Table}
use Rattle.ec_model.proofs.PlayRuns.{calls-append}
use Rattle.ec_wire.specs.Calls.{WireView, RoseBy, Grows, PlaysAlong, ArePowerless, bench_of, is_failed_entry, with_spare}
use Rattle.ec_wire.proofs.Growth.{powerless-then}
use Rattle.ec_wire.proofs.Appends.{runs-append, runs-nil, on_after-append, count_by-append}
use Rattle.bench_wire.specs.Adding.{Extends, PlaysBy}

-- a count that rose along two lists of entries
pub rose-along : (test : Entry → Bool) (first second : List Entry) (before middle now : ℕ) → RoseBy (count_by test first) before middle → RoseBy (count_by test second) middle now → RoseBy (count_by test (first ++ second)) before now
rose-along test first second before middle now once again =
    subst (λ (amount : ℕ). RoseBy amount before now) (sym (count_by-append test first second))
    (record { later = omega (arith, once.later, again.later); risen = omega (arith, once.risen, again.risen, again.later) })

-- calls on the bench, behind others
by-then : (first second : List Entry) (old middle new : WireView) (o p q : Option Table) → PlaysBy first old middle o p → PlaysBy second middle new p q → PlaysBy (first ++ second) old new o q
by-then first second old middle new None None None once again = tt
by-then first second old middle new None None (Some c) once again = again
by-then first second old middle new None (Some b) q once again = absurd once
by-then first second old middle new (Some a) None q once again = absurd once
by-then first second old middle new (Some a) (Some b) None once again = again
by-then first second old middle new (Some a) (Some b) (Some c) once again = record {
  calls = once.calls ++ again.calls;
  played = calls-append (bench_of old a) (bench_of middle b) (bench_of new c) once.calls again.calls first second once.played again.played;
}

-- the host's calls are calls on the bench
by-host : (added : List Entry) (old new : WireView) (o p : Option Table) → PlaysAlong added old new o p → PlaysBy added old new o p
by-host added old new None None played = tt
by-host added old new None (Some b) played = played
by-host added old new (Some a) None played = played
by-host added old new (Some a) (Some b) played = record { calls = played.calls; played = played.played }

by-nil : (spare : ℕ) (view : WireView) (o : Option Table) → PlaysBy [] view (with_spare spare view) o o
by-nil spare view None = tt
by-nil spare view (Some table) = record { calls = []; played = (refl, refl) }

-- entries behind others
pub extends-then : (first second : List Entry) (old middle new : WireView) → Extends first old middle → Extends second middle new → Extends (first ++ second) old new
extends-then first second old middle new once again =
    record {
      entries = again.entries ∙ ap (λ (entries : List Entry). entries ++ second) once.entries ∙ append_assoc old.entries first second;
      on = again.on ∙ ap (λ (on : Bool). on_after second on) once.on ∙ sym (on_after-append first second old.on);
      bus = again.bus ∙ once.bus;
      powerless = powerless-then old.on first second once.powerless (subst (λ (on : Bool). ArePowerless on second) once.on again.powerless);
      faults = rose-along is_failed_entry first second old.faults middle.faults new.faults once.faults again.faults;
      cuts = rose-along is_cut_entry first second old.cuts middle.cuts new.cuts once.cuts again.cuts;
      run = runs-append first second old.table middle.table new.table once.run again.run;
      played = by-then first second old middle new old.table middle.table new.table once.played again.played;
    }

-- what the host's calls added
pub extends-grows : (added : List Entry) (old new : WireView) → Grows added old new → Extends added old new
extends-grows added old new grows =
    record {
      entries = grows.entries;
      on = grows.on;
      bus = grows.bus;
      powerless = grows.powerless;
      faults = grows.faults;
      cuts = grows.cuts;
      run = grows.run;
      played = by-host added old new old.table new.table grows.played;
    }

-- nothing
pub extends-nil : (spare : ℕ) (view : WireView) → Extends [] view (with_spare spare view)
extends-nil spare view =
    record {
      entries = sym (append-nil view.entries);
      on = refl;
      bus = refl;
      powerless = tt;
      faults = record { later = omega arith; risen = omega arith };
      cuts = record { later = omega arith; risen = omega arith };
      run = runs-nil view.table;
      played = by-nil spare view view.table;
    }
