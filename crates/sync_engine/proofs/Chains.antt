-- Parts of a sync on a wire, one behind the other.
use Rattle.std.proofs.Common.{◌≡◌, refl, sym, ap, subst, ℕ, ◌+◌, nat_lt, Bool, true, false, List, [], append-nil, Result, Ok, Err, IsErr, IsErrAnd}
use Rattle.ec_model.specs.declared.event.Entry.{Entry}
use Rattle.ec_model.specs.Asks.{Setting}
use Rattle.ec_model.specs.HostCalls.{HostView}
use Rattle.ec_wire.specs.Calls.{WireView}
use Rattle.ec_wire.proofs.Growth.{grows-nil}
use Rattle.host_transport.specs.Asking.{host_view, setting_of}
use Rattle.host_transport.proofs.WireParts.{part-as, parts-as}
use Rattle.sync_rules.specs.declared.ending.Stop.{Stop}
use Rattle.sync_rules.specs.declared.ending.Stop.TheVariants.{Lost}
use Rattle.sync_rules.specs.Parts.{Gives, Then, When, WhereRoom}
use Rattle.sync_engine.specs.OnWire.{Does}

-- a part that gives a value, and what follows
pub leads-on : {A B : Type 0} → (first : Setting → HostView → List Entry → Result A Stop → Type 0) (next : Setting → A → HostView → List Entry → Result B Stop → Type 0)
    (value : A) (floor : ℕ) (told : Result B Stop) (old middle new : WireView) →
    Does first floor (Ok value) old middle → Does (λ setting. next setting value) floor told middle new → Does (λ setting. Then (first setting) (next setting)) floor told old new
leads-on first next value floor told old middle new began goes =
    parts-as (λ setting view added. first setting view added (Ok value)) (λ setting view added. next setting value view added told) (λ setting view added. Then (first setting) (next setting) view added told) floor old middle new began goes
    (λ added more one two. record { opening = added; rest = more; reached = Ok value; parts = refl; began = one; leads = two })

-- what `?` answers
pub stopped : {B : Type 0} → (told : Result B Stop) (stop : Stop) → IsErr told × IsErrAnd told (λ other. other ≡ stop) → told ≡ Err stop
stopped (Ok value) stop (never, same) = cc
stopped (Err other) stop (is, same) = ap Err same

-- a part that stops the round
pub stops : {A B : Type 0} → (first : Setting → HostView → List Entry → Result A Stop → Type 0) (next : Setting → A → HostView → List Entry → Result B Stop → Type 0)
    (stop : Stop) (floor : ℕ) (told : Result B Stop) (old new : WireView) → IsErr told × IsErrAnd told (λ other. other ≡ stop) →
    Does first floor (Err stop) old new → Does (λ setting. Then (first setting) (next setting)) floor told old new
stops first next stop floor told old new is began =
    part-as (λ setting view added. first setting view added (Err stop)) (λ setting view added. Then (first setting) (next setting) view added told) floor old new began
    (λ added one. record { opening = added; rest = []; reached = Err stop; parts = sym (append-nil added); began = one; leads = (refl, stopped told stop is) })

-- nothing is done
pub gives : {A : Type 0} → (given : Setting → Result A Stop) (told : Result A Stop) (floor : ℕ) (view : WireView) →
    told ≡ given (setting_of floor view) → Does (λ setting. Gives (given setting)) floor told view view
gives given told floor view is = record { added = []; grows = grows-nil view; part = (refl, is) }

-- one part or another, by the test
pub when-true : {A : Type 0} → (first second : Setting → HostView → List Entry → Result A Stop → Type 0) (test : Bool) (floor : ℕ) (told : Result A Stop) (old new : WireView) →
    test ≡ true → Does first floor told old new → Does (λ setting. When test (first setting) (second setting)) floor told old new
when-true first second test floor told old new is does =
    subst (λ (b : Bool). Does (λ setting. When b (first setting) (second setting)) floor told old new) (sym is) does

pub when-false : {A : Type 0} → (first second : Setting → HostView → List Entry → Result A Stop → Type 0) (test : Bool) (floor : ℕ) (told : Result A Stop) (old new : WireView) →
    test ≡ false → Does second floor told old new → Does (λ setting. When test (first setting) (second setting)) floor told old new
when-false first second test floor told old new is does =
    subst (λ (b : Bool). Does (λ setting. When b (first setting) (second setting)) floor told old new) (sym is) does

-- there is too little room
pub no-room : {A : Type 0} → (part : Setting → HostView → List Entry → Result A Stop → Type 0) (floor : ℕ) (view : WireView) →
    nat_lt view.spare (floor + 1500) ≡ true → Does (λ setting. WhereRoom setting (part setting)) floor (Err Lost) view view
no-room part floor view small = record {
  added = [];
  grows = grows-nil view;
  part = subst (λ (b : Bool). When b (Gives (Err Lost)) (part (setting_of floor view)) (host_view view) [] (Err Lost)) (sym small) (refl, refl);
}

-- there is room
pub with-room : {A : Type 0} → (part : Setting → HostView → List Entry → Result A Stop → Type 0) (floor : ℕ) (told : Result A Stop) (old new : WireView) →
    nat_lt old.spare (floor + 1500) ≡ false → Does part floor told old new → Does (λ setting. WhereRoom setting (part setting)) floor told old new
with-room part floor told old new large does = record {
  added = does.added;
  grows = does.grows;
  part = subst (λ (b : Bool). When b (Gives (Err Lost)) (part (setting_of floor old)) (host_view old) does.added told) (sym large) does.part;
}
