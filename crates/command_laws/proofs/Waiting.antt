-- A controller on which no request waits, and what a wait does to it.
use Rattle.std.proofs.Common.{◌≡◌, refl, ap, ◌∙◌, subst, ℕ, false, List, [], ◌∷◌, Option, Some, None, is_some}
use Rattle.ec_types.specs.declared.bus.BusKind.{BusKind}
use Rattle.ec_model.specs.declared.event.Event.TheVariants.{Tick}
use Rattle.ec_model.specs.declared.event.Entry.{Entry}
use Rattle.ec_model.specs.declared.live.EraseJob.{EraseJob}
use Rattle.ec_model.specs.declared.live.HashView.{HashView}
use Rattle.ec_model.specs.declared.live.HashView.TheVariants.{Idle, Busy, Done}
use Rattle.ec_model.specs.Bus.{BusState, BusAnswer, OnLpc, OnI2c, OnSpi, due_at_tick}
use Rattle.ec_model.specs.Hash.{hash_ticked}
use Rattle.ec_model.specs.HostCalls.{HostCall, Waited, calls_of}
use Rattle.ec_model.specs.Run.{IsRun}
use Rattle.ec_model.specs.Syncable.{waits_on_lpc, settled}
use Rattle.ec_model.specs.Table.{Table, Awake, Core, core_of, table_of}
use Rattle.ec_model.specs.WholeStep.{stepped, worked}
use Rattle.ec_model.specs.Work.{hash_work, idle_work, serve_or}
use Rattle.ec_model.proofs.RunLaws.{run-valid, run-kind}
use Rattle.exchange_laws.specs.Calm.{CallsLead}
use Rattle.exchange_laws.specs.Resting.{is_waiting}
use Rattle.exchange_laws.proofs.CalmRun.{calm_lead}
use Rattle.command_laws.specs.Idle.{ticked_by, ticked}
use Rattle.command_laws.specs.Standing.{IsAt, IsOpen, IsQuiet}

-- a core with a bus, awake
abbrev pub awake_of : Core → BusState → Awake
awake_of core bus = record { live = core.live; nonce = core.nonce; bus = bus }

not-waiting : (bus : BusState) → due_at_tick bus ≡ None → waits_on_lpc bus ≡ false
not-waiting (OnLpc state) none = ap (λ (due : Option (List ℕ)). is_some due) none
not-waiting (OnI2c state) none = refl
not-waiting (OnSpi state) none = refl

-- a table on which no request waits is settled
settled-at : (core : Core) (bus : BusState) → due_at_tick bus ≡ None → settled (table_of core bus) ≡ table_of core bus
settled-at core bus none = rw (not-waiting bus none) refl

-- where no request waits, the core is that of the table itself
pub at-open : (kind : BusKind) (core : Core) (table : Table) → IsAt kind core table → IsOpen kind core table
at-open kind core table at =
    let bus = at.leaves.bus in
    let settled_is : settled table ≡ table_of core bus = ap (λ (t : Table). settled t) at.leaves.same ∙ settled-at core bus at.leaves.none_waits in
    record {
      valid = at.valid;
      kind_is = at.kind_is;
      awake = awake_of core bus;
      on = ap (λ (t : Table). t.power) settled_is;
      core_is = ap (λ (t : Table). core_of t (awake_of core bus)) settled_is;
    }

-- no request waits
pub at-rest : (kind : BusKind) (core : Core) (table : Table) → IsAt kind core table → is_waiting table.power ≡ false
at-rest kind core table at = ap (λ (t : Table). is_waiting t.power) at.leaves.same ∙ ap (λ (due : Option (List ℕ)). is_some due) at.leaves.none_waits

-- the work of a hash
hash-worked : (core : Core) (bus : BusAnswer) (lost : ℕ) (hash : HashView) → core.live.hash ≡ hash → (worked core bus lost (hash_work hash)).table ≡ table_of (hash_ticked hash core) bus.state
hash-worked core bus lost Idle same = refl
hash-worked core bus lost (Busy at size left) same = ap (λ (h : HashView). table_of (hash_ticked h core) bus.state) same
hash-worked core bus lost (Done at size digest) same = refl

-- the work of a tick that serves no request
pub idle-worked : (core : Core) (bus : BusAnswer) (lost : ℕ) (erase : Option EraseJob) → (worked core bus lost (idle_work erase core.live.hash)).table ≡ table_of (ticked_by erase core) bus.state
idle-worked core bus lost (Some job) = refl
idle-worked core bus lost None = hash-worked core bus lost core.live.hash refl

-- a tick, where no request waits
tick-worked : (core : Core) (bus : BusState) → due_at_tick bus ≡ None → (stepped (table_of core bus) Tick).table ≡ table_of (ticked core) bus
tick-worked core bus none =
    let waiting : BusAnswer = record { state = bus; answer = 0 } in
    ap (λ (due : Option (List ℕ)). (worked core waiting 0 (serve_or due (idle_work core.live.erase core.live.hash))).table) none ∙ idle-worked core waiting 0 core.live.erase

-- one wait that nothing disturbs, where no request waits
pub waits-calm : (kind : BusKind) (core : Core) (table : Table) (entries : List Entry) (last : Table) → IsAt kind core table → calls_of entries ≡ Waited ∷ [] → IsQuiet entries → IsRun table entries last → IsAt kind (ticked core) last
waits-calm kind core table entries last at waited quiet run =
    let bus = at.leaves.bus in
    let lead = subst (λ (calls : List HostCall). CallsLead table calls last) waited (calm_lead table entries last quiet.calm run) in
    record {
      valid = run-valid table entries last at.valid run;
      kind_is = run-kind table entries last at.valid run ∙ at.kind_is;
      leaves = record { bus = bus; same = lead ∙ ap (λ (t : Table). (stepped t Tick).table) at.leaves.same ∙ tick-worked core bus at.leaves.none_waits; none_waits = at.leaves.none_waits };
    }
