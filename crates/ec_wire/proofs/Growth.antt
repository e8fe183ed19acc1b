-- Calls of a wire, one after the other.
use Rattle.std.proofs.Common.{◌≡◌, refl, sym, ap, ◌∙◌, subst, ℕ, ◌+◌, Bool, true, false, ◌&&◌, ◌||◌, List, [], ◌∷◌, ◌++◌, length, length-append, append_assoc, append-nil, arith, Option, Some, None}
use Rattle.std.specs.Prelude.{count_by}
use Rattle.std.specs.List.{list_all}
use Rattle.std.proofs.lemmas.List.Folds.{list_all-append, list_any-append}
use Rattle.ec_model.specs.declared.event.Access.{Access}
use Rattle.ec_model.specs.declared.event.Access.TheVariants.{PortOut, PortIn, I2cStartWrite, I2cStartRead, I2cWrite, I2cRead, I2cStop, SpiSelect, SpiByte, SpiDeselect}
use Rattle.ec_model.specs.declared.event.Event.TheVariants.{Access as AccessEvent, Tick, Reset, Power as PowerEvent, Pin as PinEvent}
use Rattle.ec_model.specs.declared.event.Entry.{Entry}
use Rattle.ec_model.specs.declared.event.Entry.TheVariants.{Step, Mark}
use Rattle.ec_model.specs.Upset.{access_byte, is_world, is_changed, is_cut_entry}
use Rattle.ec_model.specs.HostCalls.{HostCall, Did, Waited, with_byte, calls_of, on_after, on_after_entry}
use Rattle.ec_model.specs.Table.{Table}
use Rattle.ec_model.specs.Bench.{Armed}
use Rattle.ec_model.proofs.PlayRuns.{calls-append}
use Rattle.ec_wire.specs.Calls.{WireView, RoseBy, KeepsQuiet, PlaysAlong, ArePowerless, bench_of, is_host_call, Grows, AccessAdds, WaitAdds, Made, is_wire_step, is_failed_entry}
use Rattle.ec_wire.proofs.Appends.{calls_of-append, are_calls-append, runs-append, runs-nil, on_after-append, count_by-append}

-- two tests that hold
both-true : (a b : Bool) → a ≡ true → b ≡ true → (a && b) ≡ true
both-true true true first second = refl
both-true true false first second = second
both-true false b first second = first

-- two tests that do not hold
both-false : (a b : Bool) → a ≡ false → b ≡ false → (a || b) ≡ false
both-false false false first second = refl
both-false false true first second = second
both-false true b first second = first

-- a count that rose twice
rose-then : (first second before middle now : ℕ) → RoseBy first before middle → RoseBy second middle now → RoseBy (first + second) before now
rose-then first second before middle now once again = record { later = omega (arith, once.later, again.later); risen = omega (arith, once.risen, again.risen, again.later) }

-- the entries that pass a test raised a count
counts-then : (test : Entry → Bool) (added more : List Entry) (before middle now : ℕ) → RoseBy (count_by test added) before middle → RoseBy (count_by test more) middle now → RoseBy (count_by test (added ++ more)) before now
counts-then test added more before middle now once again =
    subst (λ (amount : ℕ). RoseBy amount before now) (sym (count_by-append test added more)) (rose-then _ _ before middle now once again)

-- it stayed quiet twice
quiet-then : (added more : List Entry) (middle new : List Armed) → KeepsQuiet added middle → KeepsQuiet more new → KeepsQuiet (added ++ more) new
quiet-then added more middle new first second =
    record {
      disarmed = second.disarmed;
      no_event = list_any-append is_world added more ∙ both-false _ _ first.no_event second.no_event;
      no_byte = list_any-append is_changed added more ∙ both-false _ _ first.no_byte second.no_byte;
    }

-- answers without power, behind others
pub powerless-then : (on : Bool) (added more : List Entry) → ArePowerless on added → ArePowerless (on_after added on) more → ArePowerless on (added ++ more)
powerless-then on [] more first second = second
powerless-then on (entry ∷ added) more first second = (first.0, powerless-then (on_after_entry entry on) added more first.1 second)

-- calls on the bench, behind others
played-then : (added more : List Entry) (old middle new : WireView) (o p q : Option Table) → PlaysAlong added old middle o p → PlaysAlong more middle new p q → PlaysAlong (added ++ more) old new o q
played-then added more old middle new None None None first second = tt
played-then added more old middle new None None (Some c) first second = second
played-then added more old middle new None (Some b) q first second = absurd first
played-then added more old middle new (Some a) None q first second = absurd first
played-then added more old middle new (Some a) (Some b) None first second = second
played-then added more old middle new (Some a) (Some b) (Some c) first second = record {
  calls = first.calls ++ second.calls;
  hosts = list_all-append is_host_call first.calls second.calls ∙ both-true _ _ first.hosts second.hosts;
  played = calls-append (bench_of old a) (bench_of middle b) (bench_of new c) first.calls second.calls added more first.played second.played;
}

played-nil : (view : WireView) (o : Option Table) → PlaysAlong [] view view o o
played-nil view None = tt
played-nil view (Some table) = record { calls = []; hosts = refl; played = (refl, refl) }

-- entries behind others
pub grows-then : (added more : List Entry) (old middle new : WireView) → Grows added old middle → Grows more middle new → Grows (added ++ more) old new
grows-then added more old middle new first second =
    let counted : length (calls_of (added ++ more)) ≡ length (calls_of added) + length (calls_of more) = ap length (calls_of-append added more) ∙ length-append (calls_of added) (calls_of more) in
    record {
      entries = second.entries ∙ ap (λ (entries : List Entry). entries ++ more) first.entries ∙ append_assoc old.entries added more;
      room = omega (arith, counted, first.room, second.room);
      on = second.on ∙ ap (λ (on : Bool). on_after more on) first.on ∙ sym (on_after-append added more old.on);
      bus = second.bus ∙ first.bus;
      calls = are_calls-append added more first.calls second.calls;
      steps = list_all-append is_wire_step added more ∙ both-true _ _ first.steps second.steps;
      quiet = λ off. let quiet = first.quiet off in quiet-then added more middle.armed new.armed quiet (second.quiet quiet.disarmed);
      powerless = powerless-then old.on added more first.powerless (subst (λ (on : Bool). ArePowerless on more) first.on second.powerless);
      faults = counts-then is_failed_entry added more old.faults middle.faults new.faults first.faults second.faults;
      cuts = counts-then is_cut_entry added more old.cuts middle.cuts new.cuts first.cuts second.cuts;
      run = runs-append added more old.table middle.table new.table first.run second.run;
      played = played-then added more old middle new old.table middle.table new.table first.played second.played;
    }

-- no entry
pub grows-nil : (view : WireView) → Grows [] view view
grows-nil view =
    record {
      entries = sym (append-nil view.entries);
      room = omega arith;
      on = refl;
      bus = refl;
      calls = refl;
      steps = refl;
      quiet = λ off. record { disarmed = off; no_event = refl; no_byte = refl };
      powerless = tt;
      faults = record { later = omega arith; risen = omega arith };
      cuts = record { later = omega arith; risen = omega arith };
      run = runs-nil view.table;
      played = played-nil view view.table;
    }

-- an access with another byte, and its own again
with_own_byte : (access : Access) (byte : ℕ) → with_byte (with_byte access byte) (access_byte access) ≡ access
with_own_byte (PortOut port own) byte = refl
with_own_byte (PortIn port) byte = refl
with_own_byte I2cStartWrite byte = refl
with_own_byte I2cStartRead byte = refl
with_own_byte (I2cWrite own) byte = refl
with_own_byte I2cRead byte = refl
with_own_byte I2cStop byte = refl
with_own_byte SpiSelect byte = refl
with_own_byte (SpiByte own) byte = refl
with_own_byte SpiDeselect byte = refl

-- the world makes no calls
world-calls : (world : List Entry) → list_all is_world world ≡ true → calls_of world ≡ []
world-calls [] worldly = refl
world-calls (Step (AccessEvent access) answer meant seen hurt ∷ world) worldly = cc
world-calls (Step Tick answer meant seen hurt ∷ world) worldly = cc
world-calls (Step (Reset cause) answer meant seen hurt ∷ world) worldly = world-calls world worldly
world-calls (Step (PowerEvent on) answer meant seen hurt ∷ world) worldly = world-calls world worldly
world-calls (Step (PinEvent on) answer meant seen hurt ∷ world) worldly = world-calls world worldly
world-calls (Mark line ∷ world) worldly = cc

-- calls behind others
pub made-then : (calls more : List HostCall) (old middle new : WireView) → Made calls old middle → Made more middle new → Made (calls ++ more) old new
made-then calls more old middle new first second =
    record {
      added = first.added ++ second.added;
      grows = grows-then first.added second.added old middle new first.grows second.grows;
      calls_are = calls_of-append first.added second.added ∙ ap (λ (xs : List HostCall). xs ++ calls_of second.added) first.calls_are ∙ ap (λ (xs : List HostCall). calls ++ xs) second.calls_are;
    }

-- no calls
pub made-none : (view : WireView) → Made [] view view
made-none view = record { added = []; grows = grows-nil view; calls_are = refl }

-- the same calls, written otherwise
pub made-as : (calls others : List HostCall) (old new : WireView) → calls ≡ others → Made calls old new → Made others old new
made-as calls others old new same made = record { added = made.added; grows = made.grows; calls_are = made.calls_are ∙ same }

-- one access
pub made-access : (access : Access) (seen : ℕ) (old new : WireView) → AccessAdds access seen old new → Made (Did access seen ∷ []) old new
made-access access seen old new adds =
    let own : List Entry = Step (AccessEvent (with_byte access adds.arrived)) adds.answer (access_byte access) seen adds.hurt ∷ [] in
    record {
      added = adds.world ++ own;
      grows = adds.grows;
      calls_are = calls_of-append adds.world own ∙ ap (λ (xs : List HostCall). xs ++ calls_of own) (world-calls adds.world adds.worldly) ∙ ap (λ (a : Access). Did a seen ∷ []) (with_own_byte access adds.arrived);
    }

-- one wait
pub made-wait : (old new : WireView) → WaitAdds old new → Made (Waited ∷ []) old new
made-wait old new adds =
    let own : List Entry = Step Tick 0 0 0 adds.hurt ∷ [] in
    record {
      added = adds.world ++ own;
      grows = adds.grows;
      calls_are = calls_of-append adds.world own ∙ ap (λ (xs : List HostCall). xs ++ calls_of own) (world-calls adds.world adds.worldly);
    }

-- each call takes one off the room
pub made-room : (calls : List HostCall) (old new : WireView) → Made calls old new → new.spare + length calls ≡ old.spare
made-room calls old new made = ap (λ (xs : List HostCall). new.spare + length xs) (sym made.calls_are) ∙ made.grows.room
