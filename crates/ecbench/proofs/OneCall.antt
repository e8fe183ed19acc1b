-- What one call on a bench adds to its entries: a mark, an event or a cut that is armed.
use Rattle.std.proofs.Common.{◌≡◌, sym, ap, ◌∙◌, subst, ℕ, List, [], ◌∷◌, append-nil, Option, Some, None, Result, arith, refl}
use Rattle.ec_model.specs.declared.event.WorldEvent.{WorldEvent}
use Rattle.ec_model.specs.declared.event.Entry.{Entry}
use Rattle.ec_model.specs.declared.event.Entry.TheVariants.{Mark}
use Rattle.ec_model.specs.Table.{Table}
use Rattle.ec_model.specs.Bench.{Marks, Arms as ArmEvent, ArmsCut, has_place, cut_at}
use Rattle.ec_wire.specs.Calls.{WireView, RunsAlong, RoseBy, bench_of, with_spare}
use Rattle.ec_wire.proofs.Appends.{runs-nil}
use Rattle.bench_wire.specs.Adding.{Extends, PlaysBy, IsMarked}
use Rattle.bench_wire.specs.Arming.{IsArmed}
use Rattle.bench_wire.specs.declared.arms.ArmsFull.{ArmsFull}
use Rattle.bench_wire.proofs.Extending.{extends-nil}
use Rattle.ecbench.specs.Lines.{MarksLine}

-- the same from another room
pub extends-spare : (spare : ℕ) (added : List Entry) (old new : WireView) → Extends added (with_spare spare old) new → Extends added old new
extends-spare spare added old new e =
    record { entries = e.entries; on = e.on; bus = e.bus; powerless = e.powerless; faults = e.faults; cuts = e.cuts; run = e.run; played = e.played }

-- a mark
mark-played : (number : ℕ) (old new : WireView) (o : Option Table) → IsMarked number old new → PlaysBy (Mark number ∷ []) old new o o
mark-played number old new None marked = tt
mark-played number old new (Some table) marked =
    record { calls = Marks number ∷ []; played = (Mark number ∷ [], [], bench_of new table, refl, (refl, ap (λ (view : WireView). bench_of view table) marked), (refl, refl)) }

runs-mark : (number : ℕ) (o : Option Table) → RunsAlong (Mark number ∷ []) o o
runs-mark number None = tt
runs-mark number (Some table) = (table, refl, refl)

marked-extends : (number : ℕ) (old new : WireView) → IsMarked number old new → Extends (Mark number ∷ []) old new
marked-extends number old new marked =
    let table_is : new.table ≡ old.table = ap (λ (view : WireView). view.table) marked in
    record {
      entries = ap (λ (view : WireView). view.entries) marked;
      on = ap (λ (view : WireView). view.on) marked;
      bus = ap (λ (view : WireView). view.bus) marked;
      powerless = (tt, tt);
      faults = subst (λ (now : ℕ). RoseBy 0 old.faults now) (sym (ap (λ (view : WireView). view.faults) marked)) (record { later = omega arith; risen = omega arith });
      cuts = subst (λ (now : ℕ). RoseBy 0 old.cuts now) (sym (ap (λ (view : WireView). view.cuts) marked)) (record { later = omega arith; risen = omega arith });
      run = subst (λ (table : Option Table). RunsAlong (Mark number ∷ []) old.table table) (sym table_is) (runs-mark number old.table);
      played = subst (λ (table : Option Table). PlaysBy (Mark number ∷ []) old new old.table table) (sym table_is) (mark-played number old new old.table marked);
    }

pub marks-extends : (number : ℕ) (old new : WireView) → MarksLine number old new → Extends (Mark number ∷ []) old new
marks-extends number old new marks = extends-spare marks.spare (Mark number ∷ []) old new (marked-extends number (with_spare marks.spare old) new marks.marked)

-- nothing
pub extends-none : (view : WireView) → Extends [] view view
extends-none view = extends-nil view.spare view

-- an event that was armed, or refused
arm-played : (call : ℕ) (event : WorldEvent) (result : Result (Unit {0}) ArmsFull) (old new : WireView) (o : Option Table) → IsArmed call event result old new → PlaysBy [] old new o o
arm-played call event result old new None arms = tt
arm-played call event result old new (Some table) arms =
    record {
      calls = ArmEvent call event (has_place old.armed) ∷ [];
      played = ([], [], bench_of new table, refl, (refl, refl, ap (λ (view : WireView). bench_of view table) arms.armed), (refl, refl));
    }

pub arm-extends : (call : ℕ) (event : WorldEvent) (result : Result (Unit {0}) ArmsFull) (old new : WireView) → IsArmed call event result old new → Extends [] old new
arm-extends call event result old new arms =
    let table_is : new.table ≡ old.table = ap (λ (view : WireView). view.table) arms.armed in
    record {
      entries = ap (λ (view : WireView). view.entries) arms.armed ∙ sym (append-nil old.entries);
      on = ap (λ (view : WireView). view.on) arms.armed;
      bus = ap (λ (view : WireView). view.bus) arms.armed;
      powerless = tt;
      faults = subst (λ (now : ℕ). RoseBy 0 old.faults now) (sym (ap (λ (view : WireView). view.faults) arms.armed)) (record { later = omega arith; risen = omega arith });
      cuts = subst (λ (now : ℕ). RoseBy 0 old.cuts now) (sym (ap (λ (view : WireView). view.cuts) arms.armed)) (record { later = omega arith; risen = omega arith });
      run = subst (λ (table : Option Table). RunsAlong [] old.table table) (sym table_is) (runs-nil old.table);
      played = subst (λ (table : Option Table). PlaysBy [] old new old.table table) (sym table_is) (arm-played call event result old new old.table arms);
    }

-- a cut that was armed
cut-played : (operation : ℕ) (torn : List ℕ) (old new : WireView) (o : Option Table) → new ≡ record old { cut = cut_at operation torn } → PlaysBy [] old new o o
cut-played operation torn old new None armed = tt
cut-played operation torn old new (Some table) armed =
    record {
      calls = ArmsCut operation torn ∷ [];
      played = ([], [], bench_of new table, refl, (refl, ap (λ (view : WireView). bench_of view table) armed), (refl, refl));
    }

pub cut-extends : (operation : ℕ) (torn : List ℕ) (old new : WireView) → new ≡ record old { cut = cut_at operation torn } → Extends [] old new
cut-extends operation torn old new armed =
    let table_is : new.table ≡ old.table = ap (λ (view : WireView). view.table) armed in
    record {
      entries = ap (λ (view : WireView). view.entries) armed ∙ sym (append-nil old.entries);
      on = ap (λ (view : WireView). view.on) armed;
      bus = ap (λ (view : WireView). view.bus) armed;
      powerless = tt;
      faults = subst (λ (now : ℕ). RoseBy 0 old.faults now) (sym (ap (λ (view : WireView). view.faults) armed)) (record { later = omega arith; risen = omega arith });
      cuts = subst (λ (now : ℕ). RoseBy 0 old.cuts now) (sym (ap (λ (view : WireView). view.cuts) armed)) (record { later = omega arith; risen = omega arith });
      run = subst (λ (table : Option Table). RunsAlong [] old.table table) (sym table_is) (runs-nil old.table);
      played = subst (λ (table : Option Table). PlaysBy [] old new old.table table) (sym table_is) (cut-played operation torn old new old.table armed);
    }
