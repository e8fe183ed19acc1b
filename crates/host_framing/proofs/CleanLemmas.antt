-- Undisturbed calls of a wire.
use Rattle.std.proofs.Common.{◌≡◌, refl, sym, ap, ◌∙◌, subst, ℕ, ◌≤◌, Bool, true, false, List, [], ◌∷◌, length, drop, Option, Some, None}
use Rattle.std.specs.List.{list_any}
use Rattle.std.proofs.lemmas.List.{drop_at}
use Rattle.flash_dev.specs.Told.{Changes}
use Rattle.ec_types.specs.Tables.{packet_limit}
use Rattle.ec_types.specs.declared.bus.BusKind.{BusKind}
use Rattle.ec_types.specs.declared.bus.BusKind.TheVariants.{Lpc}
use Rattle.ec_model.specs.declared.event.Event.{Event}
use Rattle.ec_model.specs.declared.event.Event.TheVariants.{Access as AccessEvent, Tick, Reset, Power as PowerEvent, Pin as PinEvent}
use Rattle.ec_model.specs.declared.event.Entry.{Entry}
use Rattle.ec_model.specs.declared.event.Entry.TheVariants.{Step, Mark}
use Rattle.flash_dev.specs.declared.hurt.Hurt.{Hurt}
use Rattle.flash_dev.specs.declared.hurt.Hurt.TheVariants.{Whole}
use Rattle.ec_model.specs.Packet.{response_packet}
use Rattle.ec_model.specs.Upset.{is_upset, is_world_event, IsUndisturbed}
use Rattle.ec_model.specs.HostCalls.{HostCall, calls_of, on_after, on_after_entry}
use Rattle.ec_model.specs.Run.{IsRun}
use Rattle.ec_model.specs.Send.{Send}
use Rattle.ec_model.specs.Table.{Table, Power, Off, On, Awake, Core, Valid, is_on, core_of}
use Rattle.ec_model.specs.Answer.{Answered}
use Rattle.ec_model.specs.Handle.{handled}
use Rattle.ec_model.specs.Heard.{Heard, Silent}
use Rattle.ec_model.specs.Syncable.{settled}
use Rattle.ec_wire.specs.Calls.{WireView, Grows, Agrees}
use Rattle.ec_wire.proofs.Calm.{or-false, calm_entry, undisturbed}
use Rattle.exchange_laws.specs.Calm.{CallsLead}
use Rattle.exchange_laws.specs.AnyBus.{IsExchangeOf}
use Rattle.exchange_laws.specs.Served.{IsPlain, ServesPacket, Settles}
use Rattle.exchange_laws.proofs.CalmRun.{calm_lead}
use Rattle.exchange_laws.proofs.LpcSend.{lpc-calm, lpc-quiet}
use Rattle.exchange_laws.proofs.AnyBus.{exchange-of}
use Rattle.exchange_laws.proofs.LpcEnds.{lpc-ends}
use Rattle.exchange_laws.proofs.OffLead.{lpc-off}
use Rattle.exchange_laws.proofs.Rests.{ends-rest}
use Rattle.host_framing.specs.Parts.{Sends, Quiets}
use Rattle.host_framing.specs.Clean.{since, UndisturbedWhereCalm, ServesWhereCalm, SettlesWhereCalm, ExchangesWhereCalm, IsExplained, CausedWhereCalm, RestsBehind}

-- the entries that were added are those behind the others
pub since-added : (added : List Entry) (old new : WireView) → Grows added old new → since old new ≡ added
since-added added old new grows = ap (λ (entries : List Entry). drop (length old.entries) entries) grows.entries ∙ drop_at old.entries added (length old.entries) refl

-- calls that were calm were not disturbed
pub undisturbed-since : (added : List Entry) (old new : WireView) → Grows added old new → UndisturbedWhereCalm old new
undisturbed-since added old new grows = λ calm. subst (λ (entries : List Entry). IsUndisturbed entries) (sym (since-added added old new grows)) (undisturbed added old new grows calm)

-- what follows from one relation of the tables
pub changes-map : (first second : Table → Table → Type 0) (old new : Option Table) → ((told left : Table) → first told left → second told left) → Changes first old new → Changes second old new
changes-map first second None None each changes = tt
changes-map first second None (Some left) each changes = changes
changes-map first second (Some told) None each changes = changes
changes-map first second (Some told) (Some left) each changes = each told left changes

-- the same of undisturbed entries that were added
added-calm : (added : List Entry) (old new : WireView) → Grows added old new → IsUndisturbed (since old new) → IsUndisturbed added
added-calm added old new grows calm = subst (λ (entries : List Entry). IsUndisturbed entries) (since-added added old new grows) calm

-- the calls lead on, where nothing disturbed the entries
pub lead-since : (added : List Entry) (old new : WireView) (told left : Table) → Grows added old new → IsRun told added left → IsUndisturbed (since old new) → CallsLead told (calls_of added) left
lead-since added old new told left grows run calm = calm_lead told added left (added-calm added old new grows calm) run

-- an undisturbed entry leaves the power
step-on : (event : Event) (answer meant seen : ℕ) (hurt : Hurt) (on : Bool) → hurt ≡ Whole → is_world_event event ≡ false → on_after_entry (Step event answer meant seen hurt) on ≡ on
step-on event answer meant seen hurt on whole host = rw whole (whole-on event host) where
  whole-on : (event : Event) → is_world_event event ≡ false → on_after_entry (Step event answer meant seen Whole) on ≡ on
  whole-on (AccessEvent access) host = refl
  whole-on Tick host = refl
  whole-on (Reset cause) host = refl
  whole-on (PowerEvent level) host = cc
  whole-on (PinEvent level) host = refl

-- undisturbed entries leave the power
calm-on : (entries : List Entry) (on : Bool) → IsUndisturbed entries → on_after entries on ≡ on
calm-on [] on calm = refl
calm-on (Step event answer meant seen hurt ∷ entries) on calm =
    let parts = or-false (is_upset (Step event answer meant seen hurt)) (list_any is_upset entries) calm in
    let entry = calm_entry event answer meant seen hurt parts.0 in
    ap (λ (before : Bool). on_after entries before) (step-on event answer meant seen hurt on entry.whole entry.host) ∙ calm-on entries on parts.1
calm-on (Mark line ∷ entries) on calm = calm-on entries on calm

-- undisturbed calls leave the power
on-since : (added : List Entry) (old new : WireView) → Grows added old new → IsUndisturbed (since old new) → new.on ≡ old.on
on-since added old new grows calm = grows.on ∙ calm-on added old.on (added-calm added old new grows calm)

-- a table is on or off
pub data OnOrOff (table : Table) : Type 0 where
  IsOff : table.power ≡ Off → OnOrOff table
  IsOn : (awake : Awake) → table.power ≡ On awake → OnOrOff table

-- by its power
pub on-or-off : (table : Table) (power : Power) → table.power ≡ power → OnOrOff table
on-or-off table Off same = IsOff same
on-or-off table (On awake) same = IsOn awake same

-- what a law says of a send to a controller that is on
abbrev ServesOn : BusKind → List ℕ → Heard → List HostCall → Type 0
ServesOn bus packet heard calls = (told : Table) (awake : Awake) (left : Table) → Valid told → told.power ≡ On awake → told.kind ≡ bus → CallsLead told calls left → ServesPacket packet (settled told) heard left

-- what it says of one to a controller that is off
abbrev SilentOff : Heard → List HostCall → Type 0
SilentOff heard calls = (told left : Table) → told.power ≡ Off → CallsLead told calls left → heard ≡ Silent

-- what it says of calls that bring a bus to rest
abbrev SettlesOn : BusKind → List HostCall → Type 0
SettlesOn bus calls = (told : Table) (awake : Awake) (left : Table) → Valid told → told.power ≡ On awake → told.kind ≡ bus → CallsLead told calls left → Settles (settled told) left

-- a table that is off is none of a wire that is on
pub off-on : (old : WireView) (told : Table) → told.power ≡ Off → Agrees old.bus old.on told → old.on ≡ false
off-on old told off agrees = sym agrees.on_is ∙ ap (λ (power : Power). is_on power) off

-- an undisturbed send, by whether the controller is on
serves-by : (bus : BusKind) (packet : List ℕ) (heard : Heard) (old : WireView) (told left : Table) (calls : List HostCall) → ServesOn bus packet heard calls → OnOrOff told → old.bus ≡ bus → Agrees old.bus old.on told → old.on ≡ true → CallsLead told calls left → ServesPacket packet (settled told) heard left
serves-by bus packet heard old told left calls law (IsOff off) kind agrees on lead = let dark = off-on old told off agrees in absurd (cc)
serves-by bus packet heard old told left calls law (IsOn awake is) kind agrees on lead = law told awake left agrees.valid is (agrees.kind_is ∙ kind) lead

-- the same on a wire
pub serves-calm : (bus : BusKind) (packet : List ℕ) (heard : Heard) (old new : WireView) → old.bus ≡ bus → (sends : Sends bus packet heard old new) → ServesOn bus packet heard (calls_of sends.added) → ServesWhereCalm packet heard old new
serves-calm bus packet heard old new kind sends law =
    changes-map _ _ old.table new.table (λ (told left : Table) (run : IsRun told sends.added left) (agrees : Agrees old.bus old.on told) (on : old.on ≡ true) (calm : IsUndisturbed (since old new)).
    serves-by bus packet heard old told left (calls_of sends.added) law (on-or-off told told.power refl) kind agrees on (lead-since sends.added old new told left sends.grows run calm)) sends.grows.run

-- a send that was served heard a reply
caused-on : (packet : List ℕ) (heard : Heard) (table left : Table) (on : Bool) → ServesPacket packet table heard left → IsExplained heard on
caused-on packet heard table left on serves = rw serves.heard_is tt

-- what an undisturbed send heard, by whether the controller is on
caused-by : (bus : BusKind) (packet : List ℕ) (heard : Heard) (old new : WireView) (told left : Table) (calls : List HostCall) → ServesOn bus packet heard calls → SilentOff heard calls → OnOrOff told → old.bus ≡ bus → Agrees old.bus old.on told → new.on ≡ old.on → CallsLead told calls left → IsExplained heard new.on
caused-by bus packet heard old new told left calls law silence (IsOff off) kind agrees on lead =
    let silent = silence told left off lead in
    rw silent (on ∙ off-on old told off agrees)
caused-by bus packet heard old new told left calls law silence (IsOn awake is) kind agrees on lead =
    caused-on packet heard (settled told) left new.on (law told awake left agrees.valid is (agrees.kind_is ∙ kind) lead)

-- the same on a wire
pub caused-calm : (bus : BusKind) (packet : List ℕ) (heard : Heard) (old new : WireView) → old.bus ≡ bus → (sends : Sends bus packet heard old new) → ServesOn bus packet heard (calls_of sends.added) → SilentOff heard (calls_of sends.added) → CausedWhereCalm heard old new
caused-calm bus packet heard old new kind sends law silence =
    changes-map _ _ old.table new.table (λ (told left : Table) (run : IsRun told sends.added left) (agrees : Agrees old.bus old.on told) (calm : IsUndisturbed (since old new)).
    caused-by bus packet heard old new told left (calls_of sends.added) law silence (on-or-off told told.power refl) kind agrees (on-since sends.added old new sends.grows calm) (lead-since sends.added old new told left sends.grows run calm)) sends.grows.run

-- undisturbed calls that bring a bus to rest, by whether the controller is on
settles-by : (bus : BusKind) (old : WireView) (told left : Table) (calls : List HostCall) → SettlesOn bus calls → OnOrOff told → old.bus ≡ bus → Agrees old.bus old.on told → old.on ≡ true → CallsLead told calls left → Settles (settled told) left
settles-by bus old told left calls law (IsOff off) kind agrees on lead = let dark = off-on old told off agrees in absurd (cc)
settles-by bus old told left calls law (IsOn awake is) kind agrees on lead = law told awake left agrees.valid is (agrees.kind_is ∙ kind) lead

-- the same on a wire
pub settles-calm : (bus : BusKind) (old new : WireView) → old.bus ≡ bus → (quiets : Quiets bus old new) → SettlesOn bus (calls_of quiets.added) → SettlesWhereCalm old new
settles-calm bus old new kind quiets law =
    changes-map _ _ old.table new.table (λ (told left : Table) (run : IsRun told quiets.added left) (agrees : Agrees old.bus old.on told) (on : old.on ≡ true) (calm : IsUndisturbed (since old new)).
    settles-by bus old told left (calls_of quiets.added) law (on-or-off told told.power refl) kind agrees on (lead-since quiets.added old new told left quiets.grows run calm)) quiets.grows.run

-- each entry of an undisturbed send, whatever the bus
pub exchanges-calm : (bus : BusKind) (packet : List ℕ) (heard : Heard) (old new : WireView) → old.bus ≡ bus → IsPlain packet → length packet ≤ packet_limit bus → Sends bus packet heard old new → ExchangesWhereCalm packet heard old new
exchanges-calm bus packet heard old new kind plain short sends =
    changes-map _ _ old.table new.table (λ (told left : Table) (run : IsRun told sends.added left) (agrees : Agrees old.bus old.on told) (calm : IsUndisturbed (since old new)) (awake : Awake) (after : Core) (result : ℕ) (body : List ℕ) (on : (settled told).power ≡ On awake) (same : handled (core_of (settled told) awake) (packet_limit told.kind) packet ≡ Answered after result body).
    let is : bus ≡ told.kind = sym (agrees.kind_is ∙ kind) in
    let sent = subst (λ (own : BusKind). Send own sends.added packet heard) is sends.sent in
    let fits = subst (λ (own : BusKind). length packet ≤ packet_limit own) is short in
    subst (λ (entries : List Entry). IsExchangeOf told packet (response_packet result body) after entries heard left) (sym (since-added sends.added old new sends.grows))
    (exchange-of told awake packet sends.added heard left after result body agrees.valid on plain fits sent run (added-calm sends.added old new sends.grows calm) sends.grows.steps same)) sends.grows.run

-- LPC: an undisturbed send to a controller that is on
pub lpc-serves : (packet : List ℕ) (heard : Heard) (old new : WireView) → old.bus ≡ Lpc → IsPlain packet → length packet ≤ 256 → Sends Lpc packet heard old new → ServesWhereCalm packet heard old new
lpc-serves packet heard old new kind plain short sends =
    serves-calm Lpc packet heard old new kind sends (λ told awake left valid on is lead. lpc-calm told awake packet (calls_of sends.added) heard left valid on is plain short sends.sent.1 lead)

-- LPC: what an undisturbed send heard
pub lpc-caused : (packet : List ℕ) (heard : Heard) (old new : WireView) → old.bus ≡ Lpc → IsPlain packet → length packet ≤ 256 → Sends Lpc packet heard old new → CausedWhereCalm heard old new
lpc-caused packet heard old new kind plain short sends =
    caused-calm Lpc packet heard old new kind sends (λ told awake left valid on is lead. lpc-calm told awake packet (calls_of sends.added) heard left valid on is plain short sends.sent.1 lead)
    (λ told left off lead. lpc-off told packet (calls_of sends.added) heard left off sends.sent.1 lead)

-- LPC: an undisturbed poll
pub lpc-settles : (old new : WireView) → old.bus ≡ Lpc → Quiets Lpc old new → SettlesWhereCalm old new
lpc-settles old new kind quiets =
    settles-calm Lpc old new kind quiets (λ told awake left valid on is lead. lpc-quiet told awake (calls_of quiets.added) left valid on is quiets.quiet.1 lead)

-- LPC: no request waits behind a send
pub lpc-rests : (packet : List ℕ) (heard : Heard) (old new : WireView) → Sends Lpc packet heard old new → RestsBehind old new
lpc-rests packet heard old new sends =
    changes-map _ _ old.table new.table (λ (told left : Table) (run : IsRun told sends.added left) (agrees : Agrees old.bus old.on told).
    ends-rest told sends.added left agrees.valid (lpc-ends packet (calls_of sends.added) heard sends.sent.1) run) sends.grows.run
