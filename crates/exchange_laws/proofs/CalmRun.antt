-- A run that nothing disturbs is determined by the host's calls.
use Rattle.std.proofs.Common.{◌≡◌, sym, ap, ◌∙◌, subst, ℕ, false, List, [], ◌∷◌}
use Rattle.std.specs.List.{list_any}
use Rattle.ec_model.specs.declared.event.Event.{Event}
use Rattle.ec_model.specs.declared.event.Event.TheVariants.{Access as AccessEvent, Tick, Reset, Power as PowerEvent, Pin as PinEvent}
use Rattle.ec_model.specs.declared.event.Entry.{Entry}
use Rattle.ec_model.specs.declared.event.Entry.TheVariants.{Step, Mark}
use Rattle.flash_dev.specs.declared.hurt.Hurt.{Hurt}
use Rattle.flash_dev.specs.declared.hurt.Hurt.TheVariants.{Whole}
use Rattle.ec_model.specs.Upset.{event_byte, is_world_event, is_upset, IsUndisturbed}
use Rattle.ec_model.specs.HostCalls.{HostCall, with_byte, call_before, calls_of}
use Rattle.ec_model.specs.Table.{Table, Power, Off, On}
use Rattle.ec_model.specs.Work.{After}
use Rattle.ec_model.specs.WholeStep.{stepped, stepped_by}
use Rattle.ec_model.specs.Step.{EventLeaves, EventLeavesBy}
use Rattle.ec_model.specs.Run.{IsRun}
use Rattle.ec_wire.proofs.Calm.{or-false, calm_entry, with_byte-access_byte}
use Rattle.exchange_laws.specs.Calm.{CallsLead}

-- a whole step is the one that the table and the event determine
whole_by : (old : Table) (event : Event) (power : Power) (after : After) → EventLeavesBy Whole old event power after → after ≡ stepped_by old event power
whole_by old event Off after leaves = leaves
whole_by old event (On awake) after leaves = leaves

-- the same by the table's own power
pub whole_step : (old : Table) (event : Event) (after : After) → EventLeaves Whole old event after → after ≡ stepped old event
whole_step old event after leaves = whole_by old event old.power after leaves

-- the calls behind an undisturbed entry
lead_from : (old : Table) (event : Event) (answer meant seen : ℕ) (middle : Table) (calls : List HostCall) (new : Table) →
    is_world_event event ≡ false → seen ≡ answer → event_byte event ≡ meant →
    record { table = middle; answer = answer } ≡ stepped old event → CallsLead middle calls new → CallsLead old (call_before event meant seen calls) new
lead_from old (AccessEvent access) answer meant seen middle calls new host same own step rest =
    let kept : with_byte access meant ≡ access = ap (λ (byte : ℕ). with_byte access byte) (sym own) ∙ with_byte-access_byte access in
    rw kept (same ∙ ap (λ (after : After). after.answer) step, subst (λ (table : Table). CallsLead table calls new) (ap (λ (after : After). after.table) step) rest)
lead_from old Tick answer meant seen middle calls new host same own step rest =
    subst (λ (table : Table). CallsLead table calls new) (ap (λ (after : After). after.table) step) rest
lead_from old (Reset cause) answer meant seen middle calls new host same own step rest = cc
lead_from old (PowerEvent on) answer meant seen middle calls new host same own step rest = cc
lead_from old (PinEvent on) answer meant seen middle calls new host same own step rest = cc

-- an undisturbed run is that of its calls
pub calm_lead : (old : Table) (entries : List Entry) (new : Table) → IsUndisturbed entries → IsRun old entries new → CallsLead old (calls_of entries) new
calm_lead old [] new calm run = run
calm_lead old (Step event answer meant seen hurt ∷ entries) new calm run =
    let parts = or-false (is_upset (Step event answer meant seen hurt)) (list_any is_upset entries) calm in
    let entry = calm_entry event answer meant seen hurt parts.0 in
    let rest = calm_lead run.0 entries new parts.1 run.2 in
    let leaves : EventLeaves Whole old event (record { table = run.0; answer = answer }) =
    subst (λ (h : Hurt). EventLeaves h old event (record { table = run.0; answer = answer })) entry.whole run.1 in
    lead_from old event answer meant seen run.0 (calls_of entries) new entry.host entry.same entry.own (whole_step old event _ leaves) rest
calm_lead old (Mark line ∷ entries) new calm run = calm_lead old entries new calm (subst (λ (table : Table). IsRun table entries new) run.1 run.2)
