-- The calls on a bench that lines are, one line behind another.
use Rattle.std.proofs.Common.{◌≡◌, refl, sym, ap, ◌∙◌, subst, ℕ, ◌+◌, true, List, [], ◌∷◌, ◌++◌, length, append_assoc, append-nil, Option, Some, None, Result, arith}
use Rattle.std.specs.List.{list_all}
use Rattle.flash_dev.specs.Told.{Changes}
use Rattle.ec_model.specs.declared.event.WorldEvent.{WorldEvent}
use Rattle.ec_model.specs.declared.event.Entry.{Entry}
use Rattle.ec_model.specs.declared.event.Entry.TheVariants.{Mark}
use Rattle.ec_model.specs.Table.{Table}
use Rattle.ec_model.specs.Bench.{BenchCall, Happens as HappensNow, Marks, Arms as ArmsEvent, ArmsCut, has_place, cut_at}
use Rattle.ec_model.specs.Played.{Played, PlayedAll}
use Rattle.ec_model.proofs.PlayRuns.{calls-append}
use Rattle.ec_wire.specs.Calls.{WireView, PlaysAlong, bench_of, is_host_call, with_spare}
use Rattle.bench_wire.specs.Arming.{IsArmed}
use Rattle.bench_wire.specs.Adding.{IsMarked}
use Rattle.bench_wire.specs.declared.arms.ArmsFull.{ArmsFull}
use Rattle.ecbench.specs.Playing.{IsCalled, AreCalled, PlaysOn}

-- the tables of a view, where they are told, for calls that were played
abbrev told-on : List BenchCall → List Entry → WireView → WireView → Option Table → Option Table → Type 0
told-on calls added old new = Changes (λ before after. PlayedAll (bench_of old before) calls added (bench_of new after))

told-then : (first second : List BenchCall) (before after : List Entry) (old middle new : WireView) (o p q : Option Table) → told-on first before old middle o p → told-on second after middle new p q → told-on (first ++ second) (before ++ after) old new o q
told-then first second before after old middle new None None None once again = tt
told-then first second before after old middle new None None (Some c) once again = again
told-then first second before after old middle new None (Some b) q once again = absurd once
told-then first second before after old middle new (Some a) None q once again = absurd once
told-then first second before after old middle new (Some a) (Some b) None once again = again
told-then first second before after old middle new (Some a) (Some b) (Some c) once again =
    calls-append (bench_of old a) (bench_of middle b) (bench_of new c) first second before after once again

-- calls behind others
pub on-then : (first second : List BenchCall) (before after : List Entry) (old middle new : WireView) → PlaysOn first before old middle → PlaysOn second after middle new → PlaysOn (first ++ second) (before ++ after) old new
on-then first second before after old middle new = told-then first second before after old middle new old.table middle.table new.table

-- no call
told-none : (view : WireView) (o : Option Table) → told-on [] [] view view o o
told-none view None = tt
told-none view (Some table) = (refl, refl)

pub on-none : (view : WireView) → PlaysOn [] [] view view
on-none view = told-none view view.table

-- one call that leaves the table as it was
told-one : (call : BenchCall) (added : List Entry) (old new : WireView) (o : Option Table) → ((table : Table) → Played (bench_of old table) call added (bench_of new table)) → told-on (call ∷ []) added old new o o
told-one call added old new None played = tt
told-one call added old new (Some table) played = (added, [], bench_of new table, sym (append-nil added), played table, (refl, refl))

on-same : (call : BenchCall) (added : List Entry) (old new : WireView) → new.table ≡ old.table → ((table : Table) → Played (bench_of old table) call added (bench_of new table)) → PlaysOn (call ∷ []) added old new
on-same call added old new same played = subst (λ (table : Option Table). told-on (call ∷ []) added old new old.table table) (sym same) (told-one call added old new old.table played)

-- the mark of a line
pub on-mark : (number spare : ℕ) (old new : WireView) → IsMarked number (with_spare spare old) new → PlaysOn (Marks number ∷ []) (Mark number ∷ []) old new
on-mark number spare old new marked =
    on-same (Marks number) (Mark number ∷ []) old new (ap (λ (view : WireView). view.table) marked) (λ table. (refl, ap (λ (view : WireView). bench_of view table) marked))

-- an event that is armed, or refused
pub on-arm : (call : ℕ) (event : WorldEvent) (result : Result (Unit {0}) ArmsFull) (old new : WireView) → IsArmed call event result old new → PlaysOn (ArmsEvent call event (has_place old.armed) ∷ []) [] old new
on-arm call event result old new arms =
    on-same (ArmsEvent call event (has_place old.armed)) [] old new (ap (λ (view : WireView). view.table) arms.armed) (λ table. (refl, refl, ap (λ (view : WireView). bench_of view table) arms.armed))

-- a cut that is armed
pub on-cut : (operation : ℕ) (torn : List ℕ) (old new : WireView) → new ≡ record old { cut = cut_at operation torn } → PlaysOn (ArmsCut operation torn ∷ []) [] old new
on-cut operation torn old new armed =
    on-same (ArmsCut operation torn) [] old new (ap (λ (view : WireView). view.table) armed) (λ table. (refl, ap (λ (view : WireView). bench_of view table) armed))

-- an event of the world
told-event : (happened : WorldEvent) (added : List Entry) (old new : WireView) (o p : Option Table) → Changes (λ before after. Played (bench_of old before) (HappensNow happened) added (bench_of new after)) o p → told-on (HappensNow happened ∷ []) added old new o p
told-event happened added old new None None played = tt
told-event happened added old new None (Some b) played = played
told-event happened added old new (Some a) None played = played
told-event happened added old new (Some a) (Some b) played = (added, [], bench_of new b, sym (append-nil added), played, (refl, refl))

pub on-event : (happened : WorldEvent) (added : List Entry) (old new : WireView) → Changes (λ before after. Played (bench_of old before) (HappensNow happened) added (bench_of new after)) old.table new.table → PlaysOn (HappensNow happened ∷ []) added old new
on-event happened added old new = told-event happened added old new old.table new.table

-- calls of the host
pub record HostPlays (added : List Entry) (old new : WireView) (o p : Option Table) : Type 0 where
  pub calls : List BenchCall
  pub hosts : list_all is_host_call calls ≡ true
  pub played : told-on calls added old new o p

pub on-host : (added : List Entry) (old new : WireView) (o p : Option Table) → PlaysAlong added old new o p → HostPlays added old new o p
on-host added old new None None played = record { calls = []; hosts = refl; played = tt }
on-host added old new None (Some b) played = absurd played
on-host added old new (Some a) None played = absurd played
on-host added old new (Some a) (Some b) played = record { calls = played.calls; hosts = played.hosts; played = played.played }

-- the calls of one more line behind others
pub called-more : (number : ℕ) (lines : List (List ℕ)) (line : List ℕ) (at : ℕ) (calls more : List BenchCall) → at ≡ number + length lines → AreCalled number lines calls → IsCalled at line more → AreCalled number (lines ++ line ∷ []) (calls ++ more)
called-more number [] line at calls more same none called =
    let number_is : at ≡ number = omega (arith, same) in
    (more, [], ap (λ (front : List BenchCall). front ++ more) none ∙ sym (append-nil more), subst (λ (n : ℕ). IsCalled n line more) number_is called, refl)
called-more number (text ∷ lines) line at calls more same (first, rest, parts, here, others) called =
    (first, rest ++ more, ap (λ (front : List BenchCall). front ++ more) parts ∙ append_assoc first rest more, here, called-more (number + 1) lines line at rest more (omega (arith, same)) others called)
