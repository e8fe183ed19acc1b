-- A request of a command, asked of a controller that is on: what it is answered.
use Rattle.std.proofs.Common.{◌≡◌, refl, sym, ap, ◌∙◌, subst, ℕ, ◌≤◌, Bool, true, false, if◌then◌else◌, List, [], ◌∷◌, map, length, Option, Some, None, arith}
use Rattle.std.proofs.lemmas.Bool.Decides.{eqb_tells}
use Rattle.ec_types.specs.Tables.{packet_limit}
use Rattle.ec_types.specs.declared.bus.BusKind.{BusKind}
use Rattle.ec_model.specs.declared.live.EraseJob.{EraseJob}
use Rattle.ec_model.specs.declared.live.Live.{Live}
use Rattle.ec_model.specs.Answer.{Outcome, Answered, Restarts}
use Rattle.ec_model.specs.Asks.{packet_of}
use Rattle.ec_model.specs.Bus.{BusState, kind_of}
use Rattle.ec_model.specs.Handle.{handled}
use Rattle.ec_model.specs.Packet.{RequestView}
use Rattle.ec_model.specs.Ranges.{is_flash_size}
use Rattle.ec_model.specs.HostCalls.{Waited}
use Rattle.ec_model.specs.Syncable.{waits_on_lpc, settled_by, settled}
use Rattle.ec_model.specs.WholeStep.{stepped}
use Rattle.ec_model.specs.declared.event.Event.TheVariants.{Tick}
use Rattle.ec_model.specs.Table.{Table, Power, Off, On, Core, Valid, IsErasable, table_of}
use Rattle.ec_model.proofs.RunLaws.{run-kind}
use Rattle.ec_model.proofs.ValidRows.{IsCoreValid}
use Rattle.ec_wire.specs.Quiet.{quiet_entry}
use Rattle.exchange_laws.proofs.QuietEntries.{quiet-run}
use Rattle.exchange_laws.specs.Served.{IsAnswer}
use Rattle.exchange_laws.proofs.Plain.{plain-answered}
use Rattle.exchange_laws.proofs.Settled.{as-table, bus-facts, settled-valid}
use Rattle.command_laws.specs.Idle.{poll_waits}
use Rattle.command_laws.proofs.Asking.{IsHandled}
use Rattle.command_laws.proofs.Statuses.{Expected, expected}
use Rattle.command_laws.proofs.Waiting.{awake_of}
use Rattle.command_laws.specs.Commands.{IsProper}
use Rattle.command_laws.specs.Standing.{IsAt, IsOpen}

-- a core that a valid table on this bus has
pub record IsSound (bus : BusKind) (core : Core) : Type 0 where
  pub state : BusState
  pub valid : Valid (table_of core state)
  pub kind_is : kind_of state ≡ bus

-- of a table on which no request waits
pub at-sound : (bus : BusKind) (core : Core) (table : Table) → IsAt bus core table → IsSound bus core
at-sound bus core table at =
    record {
      state = at.leaves.bus;
      valid = subst (λ (t : Table). Valid t) at.leaves.same at.valid;
      kind_is = sym (ap (λ (t : Table). t.kind) at.leaves.same) ∙ at.kind_is;
    }

-- a tick keeps the bus
tick-kind : (table : Table) (waits : Bool) → Valid table → (if waits then (stepped table Tick).table else table).kind ≡ table.kind
tick-kind table true valid = run-kind table (map quiet_entry (Waited ∷ [])) (stepped table Tick).table valid (quiet-run table (Waited ∷ []) (stepped table Tick).table refl)
tick-kind table false valid = refl

-- a table once the request that waits was served has the same bus
settled-kind : (table : Table) (power : Power) → Valid table → (settled_by table power).kind ≡ table.kind
settled-kind table Off valid = refl
settled-kind table (On awake) valid = tick-kind table (waits_on_lpc awake.bus) valid

-- of one on which a request may wait
pub open-sound : (bus : BusKind) (core : Core) (table : Table) → IsOpen bus core table → IsSound bus core
open-sound bus core table open_ =
    let valid = settled-valid table open_.valid in
    let facts = bus-facts (settled table) open_.awake valid open_.on in
    let same = as-table (settled table) open_.awake open_.on facts.kind in
    record {
      state = (open_.awake).bus;
      valid = subst (λ (c : Core). Valid (table_of c (open_.awake).bus)) open_.core_is (subst (λ (t : Table). Valid t) same valid);
      kind_is = facts.kind ∙ settled-kind table table.power open_.valid ∙ open_.kind_is;
    }

-- its core is valid
pub sound-valid : (bus : BusKind) (core : Core) → IsSound bus core → IsCoreValid core
sound-valid bus core sound = (bus-facts (table_of core sound.state) (awake_of core sound.state) sound.valid refl).core

-- the largest flash
largest : (size : ℕ) → is_flash_size size ≡ true → size ≤ 4194304
largest size allowed = grind (arith, eqb_tells)

-- how often a poll waits: at least once, and at most once for each block of the largest flash
pub record WaitsFew (erase : Option EraseJob) : Type 0 where
  pub some : 1 ≤ poll_waits erase
  pub few : poll_waits erase ≤ 1024

erase-waits : (size : ℕ) (live : Live) (erase : Option EraseJob) → size ≤ 4194304 → IsErasable size live erase → WaitsFew erase
erase-waits size live None small erasable = record { some = omega arith; few = omega arith }
erase-waits size live (Some job) small erasable = record { some = erasable.0; few = omega (arith, erasable.1, small) }

pub waits-few : (bus : BusKind) (core : Core) → IsSound bus core → WaitsFew core.live.erase
waits-few bus core sound =
    let valid = sound-valid bus core sound in
    erase-waits (length core.flash) core.live core.live.erase (largest (length core.flash) valid.size) valid.erase

-- what a request is answered
pub record IsAnswered (bus : BusKind) (request : RequestView) (want : ℕ) (core : Core) : Type 0 where
  pub after : Core
  pub status : ℕ
  pub body : List ℕ
  pub told : IsHandled bus request want core after status body
  pub expects : Expected core after status body

answered-by : (bus : BusKind) (request : RequestView) (want : ℕ) (core : Core) (outcome : Outcome) → IsProper bus request want → IsSound bus core → handled core (packet_limit bus) (packet_of request) ≡ outcome → IsAnswer outcome → IsAnswered bus request want core
answered-by bus request want core Restarts proper sound same answer = absurd answer
answered-by bus request want core (Answered after status body) proper sound same answer =
    let expects = expected request core after (packet_limit bus) status body proper.number proper.body proper.steady same in
    record {
      after = after;
      status = status;
      body = body;
      told = record { is = same; small = expects.small; wanted = λ success. proper.wanted core after sound.state body sound.valid sound.kind_is (same ∙ ap (λ (n : ℕ). Answered after n body) success) };
      expects = expects;
    }

-- a request of a command is answered by each controller that is on
pub request-answered : (bus : BusKind) (request : RequestView) (want : ℕ) (core : Core) → IsProper bus request want → IsSound bus core → IsAnswered bus request want core
request-answered bus request want core proper sound =
    answered-by bus request want core (handled core (packet_limit bus) (packet_of request)) proper sound refl (plain-answered (packet_of request) core (packet_limit bus) proper.fits.plain)
