-- Calls that nothing disturbs: when that is so, and what entries they add.
use Rattle.std.proofs.Common.{◌≡◌, refl, sym, ap, ◌∙◌, ℕ, zero, suc, ◌+◌, Bool, true, false, not, ◌&&◌, ◌||◌, ◌==◌, cond, List, [], ◌∷◌, map, arith}
use Rattle.std.specs.Prelude.{count_by}
use Rattle.std.specs.List.{list_all, list_any}
use Rattle.std.proofs.lemmas.List.Sums.{sum_by-cons}
use Rattle.std.proofs.lemmas.Bool.Decides.{eqb_tells}
use Rattle.flash_dev.specs.Counts.{Rose}
use Rattle.ec_model.specs.declared.event.Access.{Access}
use Rattle.ec_model.specs.declared.event.Access.TheVariants.{PortOut, PortIn, I2cStartWrite, I2cStartRead, I2cWrite, I2cRead, I2cStop, SpiSelect, SpiByte, SpiDeselect}
use Rattle.ec_model.specs.declared.event.Event.{Event}
use Rattle.ec_model.specs.declared.event.Event.TheVariants.{Access as AccessEvent, Tick, Reset, Power as PowerEvent, Pin as PinEvent}
use Rattle.ec_model.specs.declared.event.Entry.{Entry}
use Rattle.ec_model.specs.declared.event.Entry.TheVariants.{Step, Mark}
use Rattle.flash_dev.specs.declared.hurt.Hurt.{Hurt}
use Rattle.flash_dev.specs.declared.hurt.Hurt.TheVariants.{Whole, Failed, Cut}
use Rattle.ec_model.specs.Upset.{access_byte, event_byte, is_world, is_world_event, is_changed, is_whole, is_hurt, is_cut_entry, is_upset, IsUndisturbed}
use Rattle.ec_model.specs.HostCalls.{HostCall, with_byte, call_before, calls_of}
use Rattle.ec_wire.specs.Calls.{WireView, RoseBy, Grows, is_failed_entry, is_wire_step}
use Rattle.ec_wire.specs.Quiet.{StaysCalm, quiet_entry}

-- a count that did not rise was raised by nothing
pub none-rose : (amount before now : ℕ) → RoseBy amount before now → ¬ Rose before now → amount ≡ 0
none-rose zero before now rose still = refl
none-rose (suc amount) before now rose still = absurd (still (omega (arith, rose.risen)))

-- the first entry fails the test, and so do the others
none-by : (b rest : Bool) (count : ℕ) → cond b 1 0 + count ≡ 0 → (count ≡ 0 → rest ≡ false) → (b || rest) ≡ false
none-by true rest count none follows = absurd (omega (arith, none))
none-by false rest count none follows = follows (omega (arith, none))

-- no entry of a list that none passes a test passes it
pub none-any : (test : Entry → Bool) (entries : List Entry) → count_by test entries ≡ 0 → list_any test entries ≡ false
none-any test [] none = refl
none-any test (entry ∷ entries) none =
    none-by (test entry) (list_any test entries) (count_by test entries)
    (sym (sum_by-cons (λ (e : Entry). cond (test e) 1 0) entry entries) ∙ none) (none-any test entries)

-- neither of two tests holds
pub or-false : (a b : Bool) → (a || b) ≡ false → (a ≡ false) × (b ≡ false)
or-false true b same = (same, cc)
or-false false b same = (refl, same)

-- an entry in which nothing failed and no power was lost
hurt-none : (entry : Entry) → is_failed_entry entry ≡ false → is_cut_entry entry ≡ false → is_hurt entry ≡ false
hurt-none (Step event answer meant seen Whole) failed cut = refl
hurt-none (Step event answer meant seen Failed) failed cut = failed
hurt-none (Step event answer meant seen Cut) failed cut = cut
hurt-none (Mark line) failed cut = refl

-- three tests that do not hold
upset-none : (world hurt changed : Bool) → world ≡ false → hurt ≡ false → changed ≡ false → (world || hurt || changed) ≡ false
upset-none false false false first second third = refl
upset-none false false true first second third = third
upset-none false true changed first second third = second
upset-none true hurt changed first second third = first

-- no entry disturbs
pub undisturbed-by : (entries : List Entry) → list_any is_world entries ≡ false → list_any is_failed_entry entries ≡ false → list_any is_cut_entry entries ≡ false → list_any is_changed entries ≡ false → list_any is_upset entries ≡ false
undisturbed-by [] world failed cut changed = refl
undisturbed-by (entry ∷ entries) world failed cut changed =
    let w = or-false (is_world entry) (list_any is_world entries) world in
    let f = or-false (is_failed_entry entry) (list_any is_failed_entry entries) failed in
    let c = or-false (is_cut_entry entry) (list_any is_cut_entry entries) cut in
    let b = or-false (is_changed entry) (list_any is_changed entries) changed in
    let here : is_upset entry ≡ false = upset-none _ _ _ w.0 (hurt-none entry f.0 c.0) b.0 in
    let rest : list_any is_upset entries ≡ false = undisturbed-by entries w.1 f.1 c.1 b.1 in
    ap (λ (first : Bool). first || list_any is_upset entries) here ∙ rest

-- where nothing of the world is armed, and neither faults nor cuts are counted, nothing disturbs the entries
pub undisturbed : (added : List Entry) (old new : WireView) → Grows added old new → StaysCalm old new → IsUndisturbed added
undisturbed added old new grows calm =
    let quiet = grows.quiet calm.disarmed in
    undisturbed-by added quiet.no_event
    (none-any is_failed_entry added (none-rose _ _ _ grows.faults calm.no_fault))
    (none-any is_cut_entry added (none-rose _ _ _ grows.cuts calm.no_cut)) quiet.no_byte

-- an access with its own byte is itself
pub with_byte-access_byte : (access : Access) → with_byte access (access_byte access) ≡ access
with_byte-access_byte (PortOut port byte) = refl
with_byte-access_byte (PortIn port) = refl
with_byte-access_byte I2cStartWrite = refl
with_byte-access_byte I2cStartRead = refl
with_byte-access_byte (I2cWrite byte) = refl
with_byte-access_byte I2cRead = refl
with_byte-access_byte I2cStop = refl
with_byte-access_byte SpiSelect = refl
with_byte-access_byte (SpiByte byte) = refl
with_byte-access_byte SpiDeselect = refl

-- what an entry says that disturbs nothing
pub record IsCalmEntry (event : Event) (answer meant seen : ℕ) (hurt : Hurt) : Type 0 where
  pub host : is_world_event event ≡ false
  pub whole : hurt ≡ Whole
  pub same : seen ≡ answer
  pub own : event_byte event ≡ meant

-- a Hurt that is whole
whole_of : (hurt : Hurt) → not (is_whole hurt) ≡ false → hurt ≡ Whole
whole_of Whole same = refl
whole_of Failed same = cc
whole_of Cut same = cc

-- two numbers that do not differ
eq_of : (a b : ℕ) → not (a == b) ≡ false → a ≡ b
eq_of a b same = grind (arith, eqb_tells)

-- the fields of an entry that disturbs nothing
pub calm_entry : (event : Event) (answer meant seen : ℕ) (hurt : Hurt) → is_upset (Step event answer meant seen hurt) ≡ false → IsCalmEntry event answer meant seen hurt
calm_entry event answer meant seen hurt calm =
    let parts = or-false (is_world_event event || not (is_whole hurt)) (not (seen == answer) || not (event_byte event == meant)) calm in
    let first = or-false (is_world_event event) (not (is_whole hurt)) parts.0 in
    let last = or-false (not (seen == answer)) (not (event_byte event == meant)) parts.1 in
    record { host = first.0; whole = whole_of hurt first.1; same = eq_of seen answer last.0; own = eq_of (event_byte event) meant last.1 }

-- all of two tests hold
and-true : (a b : Bool) → (a && b) ≡ true → (a ≡ true) × (b ≡ true)
and-true true b same = (refl, same)
and-true false b same = (same, cc)

-- a test of two numbers holds
eq-of-test : (a b : ℕ) → (a == b) ≡ true → a ≡ b
eq-of-test a b same = grind (arith, eqb_tells)

-- the fields of an undisturbed entry
step-same : (event : Event) (answer meant seen : ℕ) (hurt : Hurt) → IsCalmEntry event answer meant seen hurt → Step event answer meant seen hurt ≡ Step event seen (event_byte event) seen Whole
step-same event answer meant seen hurt calm = rw (calm.whole, sym calm.own, sym calm.same) refl

-- an undisturbed entry is that of its call
entry-is : (event : Event) (answer meant seen : ℕ) (hurt : Hurt) (calls : List HostCall) → IsCalmEntry event answer meant seen hurt → is_wire_step (Step event answer meant seen hurt) ≡ true →
    Step event answer meant seen hurt ∷ map quiet_entry calls ≡ map quiet_entry (call_before event meant seen calls)
entry-is (AccessEvent access) answer meant seen hurt calls calm bare =
    let own : with_byte access meant ≡ access = ap (λ (byte : ℕ). with_byte access byte) (sym calm.own) ∙ with_byte-access_byte access in
    rw own (ap (λ (entry : Entry). entry ∷ map quiet_entry calls) (step-same (AccessEvent access) answer meant seen hurt calm))
entry-is Tick answer meant seen hurt calls calm bare =
    let none : answer ≡ 0 = eq-of-test answer 0 (and-true (answer == 0) _ (and-true ((answer == 0) && (meant == 0)) _ bare).0).0 in
    let same : seen ≡ 0 = calm.same ∙ none in
    rw (calm.whole, none, sym calm.own, same) refl
entry-is (Reset cause) answer meant seen hurt calls calm bare = absurd (let e = calm.host in cc)
entry-is (PowerEvent on) answer meant seen hurt calls calm bare = absurd (let e = calm.host in cc)
entry-is (PinEvent on) answer meant seen hurt calls calm bare = absurd (let e = calm.host in cc)

-- the host's calls determine undisturbed entries
pub determined : (added : List Entry) → list_all is_wire_step added ≡ true → IsUndisturbed added → added ≡ map quiet_entry (calls_of added)
determined [] steps calm = refl
determined (Step event answer meant seen hurt ∷ added) steps calm =
    let parts = or-false (is_upset (Step event answer meant seen hurt)) (list_any is_upset added) calm in
    let step = and-true (is_wire_step (Step event answer meant seen hurt)) (list_all is_wire_step added) steps in
    ap (λ (rest : List Entry). Step event answer meant seen hurt ∷ rest) (determined added step.1 parts.1)
    ∙ entry-is event answer meant seen hurt (calls_of added) (calm_entry event answer meant seen hurt parts.0) step.0
determined (Mark line ∷ added) steps calm = cc
