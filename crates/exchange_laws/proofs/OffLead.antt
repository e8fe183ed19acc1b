-- Undisturbed calls to a controller that is off: nothing changes, and every access gets 0xFF.
use Rattle.std.proofs.Common.{◌≡◌, ap, ◌∙◌, subst, ℕ, zero, suc, Bool, true, false, List, [], ◌∷◌, ◌++◌, append_assoc, Some}
use Rattle.ec_model.specs.declared.event.Access.{Access}
use Rattle.ec_model.specs.declared.event.Access.TheVariants.{PortOut, PortIn}
use Rattle.ec_model.specs.declared.event.Event.TheVariants.{Access as AccessEvent, Tick}
use Rattle.ec_model.specs.Bus.{is_busy}
use Rattle.ec_model.specs.HostCalls.{HostCall, Did, Waited}
use Rattle.ec_model.specs.Heard.{Heard, Silent, poll_end, waited_reads, spaced_reads, port_reads, port_writes}
use Rattle.ec_model.specs.SendLpc.{status_in, LpcSend, LpcWasBlocked, LpcWasUnserved, LpcWasServed}
use Rattle.ec_model.specs.Table.{Table, Power, Off}
use Rattle.ec_model.specs.Work.{After}
use Rattle.ec_model.specs.WholeStep.{stepped, stepped_by}
use Rattle.exchange_laws.specs.Calm.{CallsLead}

-- an access, where the controller is off
off-step : (table : Table) (access : Access) → table.power ≡ Off → stepped table (AccessEvent access) ≡ record { table = table; answer = 0xFF }
off-step table access off = ap (λ (power : Power). stepped_by table (AccessEvent access) power) off

-- a tick, where the controller is off
off-tick : (table : Table) → table.power ≡ Off → stepped table Tick ≡ record { table = table; answer = 0 }
off-tick table off = ap (λ (power : Power). stepped_by table Tick power) off

-- an access
pub off-did : (table : Table) (access : Access) (byte : ℕ) (calls : List HostCall) (new : Table) → table.power ≡ Off → CallsLead table (Did access byte ∷ calls) new → (byte ≡ 0xFF) × CallsLead table calls new
off-did table access byte calls new off lead =
    let step = off-step table access off in
    (lead.0 ∙ ap (λ (after : After). after.answer) step, subst (λ (t : Table). CallsLead t calls new) (ap (λ (after : After). after.table) step) lead.1)

-- a wait
pub off-waited : (table : Table) (calls : List HostCall) (new : Table) → table.power ≡ Off → CallsLead table (Waited ∷ calls) new → CallsLead table calls new
off-waited table calls new off lead = subst (λ (t : Table). CallsLead t calls new) (ap (λ (after : After). after.table) (off-tick table off)) lead

-- calls leave the table
pub off-same : (table : Table) (calls : List HostCall) (new : Table) → table.power ≡ Off → CallsLead table calls new → new ≡ table
off-same table [] new off lead = lead
off-same table (Did access byte ∷ calls) new off lead = off-same table calls new off (off-did table access byte calls new off lead).1
off-same table (Waited ∷ calls) new off lead = off-same table calls new off (off-waited table calls new off lead)

-- a wait and a read of the status
off-turn : (table : Table) (byte : ℕ) (calls : List HostCall) (new : Table) → table.power ≡ Off → CallsLead table (Waited ∷ Did status_in byte ∷ calls) new → (is_busy byte ≡ true) × CallsLead table calls new
off-turn table byte calls new off lead =
    let did = off-did table status_in byte calls new off (off-waited table (Did status_in byte ∷ calls) new off lead) in
    (ap (λ (n : ℕ). is_busy n) did.0, did.1)

-- a poll sees a busy bus to its end
off-poll : (table : Table) (reads : ℕ) (bytes : List ℕ) (tail : List HostCall) (new : Table) (ready : Bool) → table.power ≡ Off → poll_end is_busy reads bytes ≡ Some ready → CallsLead table (waited_reads status_in bytes ++ tail) new → ready ≡ false
off-poll table zero [] tail new ready off polled lead = cc
off-poll table zero (byte ∷ bytes) tail new ready off polled lead = absurd (cc)
off-poll table (suc reads) [] tail new ready off polled lead = absurd (cc)
off-poll table (suc reads) (byte ∷ []) tail new ready off polled lead =
    let turn = off-turn table byte tail new off lead in
    let seen = turn.0 in
    let ended = rw seen at polled in
    off-poll table reads [] tail new ready off ended turn.1
off-poll table (suc reads) (byte ∷ next ∷ bytes) tail new ready off polled lead =
    let turn = off-turn table byte (waited_reads status_in (next ∷ bytes) ++ tail) new off lead in
    let seen = turn.0 in
    let ended = rw seen at polled in
    off-poll table reads (next ∷ bytes) tail new ready off ended turn.1

-- a poll without a wait before its first read
off-spaced : (table : Table) (reads : ℕ) (bytes : List ℕ) (tail : List HostCall) (new : Table) (ready : Bool) → table.power ≡ Off → poll_end is_busy (suc reads) bytes ≡ Some ready → CallsLead table (spaced_reads status_in bytes ++ tail) new → ready ≡ false
off-spaced table reads [] tail new ready off polled lead = absurd (cc)
off-spaced table reads (byte ∷ []) tail new ready off polled lead =
    let rest = off-did table status_in byte tail new off lead in
    let seen : is_busy byte ≡ true = ap (λ (n : ℕ). is_busy n) rest.0 in
    let ended = rw seen at polled in
    off-poll table reads [] tail new ready off ended rest.1
off-spaced table reads (byte ∷ next ∷ bytes) tail new ready off polled lead =
    let rest = off-did table status_in byte (waited_reads status_in (next ∷ bytes) ++ tail) new off lead in
    let seen : is_busy byte ≡ true = ap (λ (n : ℕ). is_busy n) rest.0 in
    let ended = rw seen at polled in
    off-poll table reads (next ∷ bytes) tail new ready off ended rest.1

-- five lists, grouped otherwise
regroup5 : (a b c d e : List HostCall) → a ++ b ++ c ++ d ++ e ≡ a ++ (b ++ (c ++ (d ++ e)))
regroup5 a b c d e = simp append_assoc

-- a send to a controller that is off hears nothing
pub lpc-off : (table : Table) (packet : List ℕ) (calls : List HostCall) (heard : Heard) (new : Table) → table.power ≡ Off → LpcSend packet calls heard → CallsLead table calls new → heard ≡ Silent
lpc-off table packet calls heard new off (LpcWasBlocked blocked silent) lead = silent
lpc-off table packet calls heard new off (LpcWasUnserved unserved silent) lead = silent
lpc-off table packet calls heard new off (LpcWasServed served) lead =
    let asked = served.asked in
    let tail : List HostCall = Did (PortIn 0x200) served.outcome ∷ port_reads 0x800 served.bytes in
    let writes = port_writes 0x800 packet asked.gots in
    let commands = Did (PortOut 0x204 0xDA) asked.got ∷ [] in
    let behind = writes ++ (commands ++ (waited_reads status_in served.statuses ++ tail)) in
    let grouped : calls ≡ spaced_reads status_in asked.statuses ++ behind = served.made ∙ ap (λ (xs : List HostCall). xs ++ waited_reads status_in served.statuses ++ tail) asked.made ∙ regroup5 (spaced_reads status_in asked.statuses) writes commands (waited_reads status_in served.statuses) tail in
    let led = subst (λ (xs : List HostCall). CallsLead table xs new) grouped lead in
    absurd (let e : true ≡ false = off-spaced table 4 asked.statuses behind new true off asked.idle led in cc)
