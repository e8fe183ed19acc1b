-- Events of the world that fall, one after the other.
use Rattle.std.proofs.Common.{◌≡◌, ◌≤◌, ◌<◌, refl, sym, ap, ◌∙◌, subst, ℕ, ◌+◌, Bool, true, List, [], ◌∷◌, ◌++◌, length, take, drop, get_or, length-append, append_assoc, append-nil, arith, Option, Some, None}
use Rattle.std.proofs.lemmas.Bool.{and_from}
use Rattle.std.proofs.lemmas.List.{take_more, drop_more, map-append}
use Rattle.std.proofs.lemmas.List.Folds.{list_all-append}
use Rattle.flash_dev.specs.declared.hurt.Hurt.{Hurt}
use Rattle.ec_model.specs.declared.event.Event.{Event}
use Rattle.ec_model.specs.declared.event.Event.TheVariants.{Access as AccessEvent, Tick, Reset as ResetEvent, Power as PowerEvent, Pin as PinEvent}
use Rattle.ec_model.specs.declared.event.WorldEvent.{WorldEvent}
use Rattle.ec_model.specs.declared.event.WorldEvent.TheVariants.{Reset, Power, Pin, Byte}
use Rattle.ec_model.specs.declared.event.Entry.{Entry}
use Rattle.ec_model.specs.declared.event.Entry.TheVariants.{Step, Mark}
use Rattle.ec_model.specs.HostCalls.{on_after, is_world_event}
use Rattle.ec_model.specs.Upset.{event_byte, is_world, is_cut_entry}
use Rattle.ec_model.specs.Table.{Table}
use Rattle.ec_model.specs.Bench.{Armed, Bench, events_among}
use Rattle.ec_model.specs.Played.{PlaysEvents}
use Rattle.ec_core.specs.Held.{IsSilent}
use Rattle.ec_wire.specs.Calls.{WireView, ArePowerless, bench_of, is_failed_entry, is_wire_step}
use Rattle.ec_wire.proofs.Growth.{powerless-then}
use Rattle.ec_wire.proofs.Appends.{on_after-append}
use Rattle.bench_wire.specs.Arming.{events_of}
use Rattle.bench_wire.specs.Falling.{EntryTold, EventsTold, Steps, Falls}
use Rattle.bench_wire.proofs.ArmsLemmas.{among-more}
use Rattle.bench_wire.proofs.Extending.{rose-along}

-- the events among two lists
pub among-append : (events more : List WorldEvent) → events_among (events ++ more) ≡ events_among events ++ events_among more
among-append [] more = refl
among-append (Reset cause ∷ events) more = ap (λ (rest : List Event). ResetEvent cause ∷ rest) (among-append events more)
among-append (Power on ∷ events) more = ap (λ (rest : List Event). PowerEvent on ∷ rest) (among-append events more)
among-append (Pin on ∷ events) more = ap (λ (rest : List Event). PinEvent on ∷ rest) (among-append events more)
among-append (Byte byte ∷ events) more = among-append events more

-- what an event of the world is
pub record IsWorldEvent (event : Event) : Type 0 where
  pub worldly : is_world_event event ≡ true
  pub no_byte : event_byte event ≡ 0
  pub silent : (answer : ℕ) → IsSilent event answer → answer ≡ 0

pub world-event : (happened : WorldEvent) (event : Event) → events_among (happened ∷ []) ≡ event ∷ [] → IsWorldEvent event
world-event (Reset cause) event is = subst IsWorldEvent (only is) (record { worldly = refl; no_byte = refl; silent = λ answer silent. silent }) where
  only : ResetEvent cause ∷ [] ≡ event ∷ [] → ResetEvent cause ≡ event
  only is = cc
world-event (Power on) event is = subst IsWorldEvent (only is) (record { worldly = refl; no_byte = refl; silent = λ answer silent. silent }) where
  only : PowerEvent on ∷ [] ≡ event ∷ [] → PowerEvent on ≡ event
  only is = cc
world-event (Pin on) event is = subst IsWorldEvent (only is) (record { worldly = refl; no_byte = refl; silent = λ answer silent. silent }) where
  only : PinEvent on ∷ [] ≡ event ∷ [] → PinEvent on ≡ event
  only is = cc
world-event (Byte byte) event is = cc

-- the step of an event of the world, whose bytes are 0
pub steps-bare : (happened : WorldEvent) (event : Event) (answer : ℕ) (hurt : Hurt) (old new : WireView) → events_among (happened ∷ []) ≡ event ∷ []
    → Steps event answer (event_byte event) answer hurt old new → Steps event 0 0 0 hurt old new
steps-bare happened event answer hurt old new is steps =
    let world = world-event happened event is in
    subst (λ (a : ℕ). Steps event a 0 a hurt old new) (world.silent answer steps.silent)
    (subst (λ (byte : ℕ). Steps event answer byte answer hurt old new) world.no_byte steps)

-- nothing falls
told-nil : (view : WireView) (o : Option Table) → EventsTold [] [] view view o o
told-nil view None = tt
told-nil view (Some table) = refl

-- changed bytes alone change nothing
pub falls-none : (events : List WorldEvent) (view : WireView) → events_among events ≡ [] → Falls events view view
falls-none events view none = record {
  added = [];
  entries = sym (append-nil view.entries);
  count = sym (ap (λ (list : List Event). length list) none);
  room = omega arith;
  on = refl;
  bus = refl;
  armed = refl;
  worldly = refl;
  steps = refl;
  powerless = tt;
  faults = record { later = omega arith; risen = omega arith };
  cuts = record { later = omega arith; risen = omega arith };
  plays = subst (λ (list : List Event). EventsTold list [] view view view.table view.table) (sym none) (told-nil view view.table);
}

-- an entry is that of one event
pub told-one : (event : Event) (hurt : Hurt) (old new : WireView) (o p : Option Table) → EntryTold event 0 0 0 hurt old new o p → EventsTold (event ∷ []) (Step event 0 0 0 hurt ∷ []) old new o p
told-one event hurt old new None None told = tt
told-one event hurt old new None (Some after) told = told
told-one event hurt old new (Some before) None told = told
told-one event hurt old new (Some before) (Some after) told = (bench_of new after, refl, refl, refl, told, refl)

-- the entry of an event of the world is one of a wire
bare-step : (event : Event) (hurt : Hurt) → is_world_event event ≡ true → is_wire_step (Step event 0 0 0 hurt) ≡ true
bare-step (AccessEvent access) hurt worldly = refl
bare-step Tick hurt worldly = refl
bare-step (ResetEvent cause) hurt worldly = refl
bare-step (PowerEvent on) hurt worldly = refl
bare-step (PinEvent on) hurt worldly = refl

-- one event falls
pub falls-one : (happened : WorldEvent) (event : Event) (answer : ℕ) (hurt : Hurt) (old new : WireView) → events_among (happened ∷ []) ≡ event ∷ []
    → Steps event answer (event_byte event) answer hurt old new → Falls (happened ∷ []) old new
falls-one happened event answer hurt old new is steps =
    let bare = steps-bare happened event answer hurt old new is steps in
    let world = world-event happened event is in
    record {
      added = Step event 0 0 0 hurt ∷ [];
      entries = bare.entries;
      count = sym (ap (λ (list : List Event). length list) is);
      room = bare.room;
      on = bare.on;
      bus = bare.bus;
      armed = bare.armed;
      worldly = rw world.worldly refl;
      steps = rw (bare-step event hurt world.worldly) refl;
      powerless = (bare.powerless, tt);
      faults = bare.faults;
      cuts = bare.cuts;
      plays = subst (λ (list : List Event). EventsTold list (Step event 0 0 0 hurt ∷ []) old new old.table new.table) (sym is)
          (told-one event hurt old new old.table new.table bare.plays);
    }

-- events behind others on a bench
events-then : (old middle new : Bench) (first second : List Event) (before after : List Entry) → PlaysEvents old first before middle → PlaysEvents middle second after new → PlaysEvents old (first ++ second) (before ++ after) new
events-then old middle new [] second [] after plays more = subst (λ (bench : Bench). PlaysEvents bench second after new) plays more
events-then old middle new [] second (entry ∷ before) after plays more = absurd plays
events-then old middle new (event ∷ first) second [] after plays more = absurd plays
events-then old middle new (event ∷ first) second (Mark line ∷ before) after plays more = absurd plays
events-then old middle new (event ∷ first) second (Step did answer meant seen hurt ∷ before) after plays more =
    (plays.0, plays.1, plays.2, plays.3, plays.4, events-then plays.0 middle new first second before after plays.5 more)

told-then : (first second : List Event) (before after : List Entry) (old middle new : WireView) (o p q : Option Table) → EventsTold first before old middle o p → EventsTold second after middle new p q → EventsTold (first ++ second) (before ++ after) old new o q
told-then first second before after old middle new None None None once again = tt
told-then first second before after old middle new None None (Some c) once again = again
told-then first second before after old middle new None (Some b) q once again = absurd once
told-then first second before after old middle new (Some a) None q once again = absurd once
told-then first second before after old middle new (Some a) (Some b) None once again = again
told-then first second before after old middle new (Some a) (Some b) (Some c) once again =
    events-then (bench_of old a) (bench_of middle b) (bench_of new c) first second before after once again

-- events that fall behind others
pub falls-then : (first second : List WorldEvent) (old middle new : WireView) → Falls first old middle → Falls second middle new → Falls (first ++ second) old new
falls-then first second old middle new once again =
    let counted = length-append once.added again.added in
    let among = among-append first second in
    let events = length-append (events_among first) (events_among second) in
    record {
      added = once.added ++ again.added;
      entries = again.entries ∙ ap (λ (entries : List Entry). entries ++ again.added) once.entries ∙ append_assoc old.entries once.added again.added;
      count = rw among (omega (arith, counted, events, once.count, again.count));
      room = omega (arith, counted, once.room, again.room);
      on = again.on ∙ ap (λ (on : Bool). on_after again.added on) once.on ∙ sym (on_after-append once.added again.added old.on);
      bus = again.bus ∙ once.bus;
      armed = again.armed ∙ once.armed;
      worldly = list_all-append is_world once.added again.added ∙ and_from _ _ once.worldly again.worldly;
      steps = list_all-append is_wire_step once.added again.added ∙ and_from _ _ once.steps again.steps;
      powerless = powerless-then old.on once.added again.added once.powerless (subst (λ (on : Bool). ArePowerless on again.added) once.on again.powerless);
      faults = rose-along is_failed_entry once.added again.added old.faults middle.faults new.faults once.faults again.faults;
      cuts = rose-along is_cut_entry once.added again.added old.cuts middle.cuts new.cuts once.cuts again.cuts;
      plays = subst (λ (list : List Event). EventsTold list (once.added ++ again.added) old new old.table new.table) (sym among)
          (told-then (events_among first) (events_among second) once.added again.added old middle new old.table middle.table new.table once.plays again.plays);
    }

-- so many of these events fell, and there is room for the others
pub record HasFallen (count : ℕ) (due : List Armed) (old now : WireView) : Type 0 where
  pub falls : Falls (events_of (take count due)) old now
  pub room : length (events_among (events_of (drop count due))) ≤ now.spare

-- one more fell
pub fallen-more : (count : ℕ) (due : List Armed) (one : Armed) (old now new : WireView) → count < length due → one ≡ get_or due count one → HasFallen count due old now → Falls (one.event ∷ []) now new → HasFallen (count + 1) due old new
fallen-more count due one old now new within is fallen falls =
    let more : events_of (take (count + 1) due) ≡ events_of (take count due) ++ one.event ∷ [] =
    ap events_of (take_more due count one within) ∙ map-append (λ (armed : Armed). armed.event) (take count due) (get_or due count one ∷ [])
    ∙ ap (λ (armed : Armed). events_of (take count due) ++ armed.event ∷ []) (sym is) in
    let rest : events_of (drop count due) ≡ one.event ∷ events_of (drop (count + 1) due) =
    ap events_of (drop_more due count one within) ∙ ap (λ (armed : Armed). armed.event ∷ events_of (drop (count + 1) due)) (sym is) in
    let left = rw rest at fallen.room in
    record {
      falls = rw more (falls-then (events_of (take count due)) (one.event ∷ []) old now new fallen.falls falls);
      room = omega (arith, left, among-more one.event (events_of (drop (count + 1) due)), among-more one.event [], falls.room, falls.count);
    }
