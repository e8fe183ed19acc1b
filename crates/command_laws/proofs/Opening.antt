-- A controller that is on is open to commands, once the request that waits was served.
use Rattle.std.proofs.Common.{◌≡◌, refl, ap, ◌∙◌, ℕ, Bool, true, false, if◌then◌else◌, List, Option, Some, None}
use Rattle.ec_types.specs.Tables.{packet_limit}
use Rattle.ec_model.specs.declared.event.Event.TheVariants.{Tick}
use Rattle.ec_model.specs.Answer.{Outcome, Answered, Restarts}
use Rattle.ec_model.specs.Bus.{BusAnswer, due_at_tick, kind_of}
use Rattle.ec_model.specs.Handle.{handled}
use Rattle.ec_model.specs.Syncable.{waits_on_lpc, settled_by, settled}
use Rattle.ec_model.specs.Table.{Table, Awake, Power, Off, On, Core, Valid, is_on, core_of}
use Rattle.ec_model.specs.WholeStep.{stepped, stepped_by, after_outcome, worked}
use Rattle.ec_model.specs.Work.{serve_or, idle_work}
use Rattle.command_laws.specs.Standing.{IsOpen}
use Rattle.command_laws.proofs.Waiting.{idle-worked}

-- a request that is served leaves the power on
served-on : (core : Core) (bus : BusAnswer) (lost : ℕ) (outcome : Outcome) → is_on (after_outcome core bus lost outcome).table.power ≡ true
served-on core bus lost (Answered after status body) = refl
served-on core bus lost Restarts = refl

-- and so does a tick
due-on : (core : Core) (bus : BusAnswer) (lost : ℕ) (due : Option (List ℕ)) → is_on (worked core bus lost (serve_or due (idle_work core.live.erase core.live.hash))).table.power ≡ true
due-on core bus lost (Some request) = served-on core bus lost (handled core (packet_limit (kind_of bus.state)) request)
due-on core bus lost None = ap (λ (t : Table). is_on t.power) (idle-worked core bus lost core.live.erase)

tick-on : (table : Table) (awake : Awake) → table.power ≡ On awake → is_on (stepped table Tick).table.power ≡ true
tick-on table awake on = ap (λ (power : Power). is_on (stepped_by table Tick power).table.power) on ∙ due-on (core_of table awake) (record { state = awake.bus; answer = 0 }) 0 (due_at_tick awake.bus)

-- a controller that is on is on once the request that waits was served
pub settled-on : (table : Table) (awake : Awake) → table.power ≡ On awake → is_on (settled table).power ≡ true
settled-on table awake on = ap (λ (power : Power). is_on (settled_by table power).power) on ∙ by-waits (waits_on_lpc awake.bus)
  where
    by-waits : (waits : Bool) → is_on (if waits then (stepped table Tick).table else table).power ≡ true
    by-waits true = tick-on table awake on
    by-waits false = ap is_on on

-- what a controller that is on has of its own
pub record HasAwake (power : Power) : Type 0 where
  pub awake : Awake
  pub on : power ≡ On awake

pub awake-in : (power : Power) → is_on power ≡ true → HasAwake power
awake-in Off on = absurd (cc)
awake-in (On awake) on = record { awake = awake; on = refl }

-- it is open to commands
pub opens : (table : Table) (has : HasAwake (settled table).power) → Valid table → IsOpen table.kind (core_of (settled table) has.awake) table
opens table has valid = record { valid = valid; kind_is = refl; awake = has.awake; on = has.on; core_is = refl }
