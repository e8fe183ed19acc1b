-- An undisturbed send on LPC: the request is handled, and its response is heard.
use Rattle.std.proofs.Common.{◌≡◌, refl, sym, ap, ◌∙◌, subst, ℕ, ◌+◌, ◌≤◌, Bool, true, false, ◌&&◌, ◌==◌, nat_le, List, [], ◌∷◌, ◌++◌, length, take, drop, replicate, length-append, length-drop, append_assoc, append-nil, arith, Some}
use Rattle.std.proofs.lemmas.Bool.Decides.{leb_tells, eqb_tells}
use Rattle.flash_dev.specs.Flash.{overwritten}
use Rattle.ec_types.specs.declared.bus.BusKind.TheVariants.{Lpc}
use Rattle.ec_model.specs.declared.event.Access.TheVariants.{PortOut, PortIn}
use Rattle.ec_model.specs.Packet.{response_packet, response_length, request_length}
use Rattle.ec_model.specs.Bus.{is_busy, low_status}
use Rattle.ec_model.specs.HostCalls.{HostCall, Did}
use Rattle.ec_model.specs.Heard.{Heard, Reply, poll_end, waited_reads, spaced_reads, port_reads, port_writes, is_all_read, reads_on, heard_if, heard_with}
use Rattle.ec_model.specs.SendLpc.{status_in, LpcServed, LpcSend, LpcWasBlocked, LpcWasUnserved, LpcWasServed}
use Rattle.ec_model.specs.Send.{LpcQuiet}
use Rattle.ec_model.specs.Table.{Table, Awake, On, Core, Valid, core_of, table_of}
use Rattle.ec_model.specs.Answer.{Outcome, Answered, Restarts}
use Rattle.ec_model.specs.Handle.{handled, asked, row_of, admitted_from}
use Rattle.ec_model.specs.Syncable.{settled}
use Rattle.ec_model.proofs.ValidRows.{IsCoreValid}
use Rattle.ec_model.proofs.ShortRows.{IsShort}
use Rattle.ec_model.proofs.ValidStep.{row_of-short}
use Rattle.exchange_laws.specs.Calm.{CallsLead}
use Rattle.exchange_laws.specs.Served.{IsPlain, IsAnswer, ServesPacket, Settles}
use Rattle.exchange_laws.proofs.Plain.{plain-answered}
use Rattle.exchange_laws.proofs.Framed.{framing-append}
use Rattle.exchange_laws.proofs.Response.{length-response, read-whole, heard-response}
use Rattle.exchange_laws.proofs.LpcLead.{lpc, reads-lead, writes-lead, command-lead, tick-lead, ready-lead}
use Rattle.exchange_laws.proofs.LpcFirst.{Idled, idled}
use Rattle.exchange_laws.proofs.Settled.{as-table, bus-facts, settled-valid}

-- the poll behind a request saw its response at once
record IsServed (table : Table) (statuses : List ℕ) (ready : Bool) (calls : List HostCall) (new : Table) : Type 0 where
  pub once : statuses ≡ 0x01 ∷ []
  pub ended : ready ≡ true
  pub lead : CallsLead table calls new

-- the request is served by the first wait, and the poll behind it ends at once
serve-lead : (core after : Core) (window : List ℕ) (outcome status : ℕ) (body statuses : List ℕ) (ready : Bool) (calls : List HostCall) (new : Table) → handled core 256 window ≡ Answered after status body → poll_end is_busy 4 statuses ≡ Some ready →
    CallsLead (table_of core (lpc window 0x06 outcome)) (waited_reads status_in statuses ++ calls) new →
    IsServed (table_of after (lpc (overwritten 0 (response_packet status body) window) 0x01 (low_status (response_packet status body)))) statuses ready calls new
serve-lead core after window outcome status body [] ready calls new same polled lead = absurd (cc)
serve-lead core after window outcome status body (next ∷ bytes) ready calls new same polled lead =
    let end = ready-lead after _ 0x01 _ 3 next bytes ready calls new refl polled (tick-lead core window outcome (Answered after status body) (Did status_in next ∷ (waited_reads status_in bytes ++ calls)) new same lead) in
    record { once = ap (λ (byte : ℕ). byte ∷ bytes) end.shown ∙ ap (λ (others : List ℕ). 0x01 ∷ others) end.none; ended = end.ended; lead = end.lead }

-- at most the window is read
read-short : (on : Bool) (bytes : List ℕ) → on ≡ nat_le (response_length bytes) 248 → is_all_read on bytes ≡ true → length bytes ≤ 256
read-short true bytes on all = long (response_length bytes) (length bytes) (sym on) all where
  long : (named size : ℕ) → nat_le named 248 ≡ true → (nat_le 8 size && (size == 8 + named)) ≡ true → size ≤ 256
  long named size short both = grind (arith, leb_tells, eqb_tells)
read-short false bytes on all = header (length bytes) all where
  header : (size : ℕ) → (nat_le 8 size && (size == 8)) ≡ true → size ≤ 256
  header size both = grind (arith, leb_tells, eqb_tells)

-- the response was read from the window, and heard
pub record IsHeard (after : Core) (window reply : List ℕ) (outcome : ℕ) (bytes : List ℕ) (heard : Heard) (new : Table) : Type 0 where
  pub outcome_is : outcome ≡ low_status reply
  pub bytes_are : bytes ≡ reply
  pub heard_is : heard ≡ Reply reply
  pub leaves : new ≡ table_of after (lpc window 0 (low_status reply))

-- the host reads the response from the window
pub hear-lead : (after : Core) (window : List ℕ) (status outcome : ℕ) (body rest bytes : List ℕ) (heard : Heard) (new : Table) → length window ≡ 256 → window ≡ response_packet status body ++ rest → length body ≤ 248 → is_all_read (reads_on 248 bytes) bytes ≡ true →
    heard ≡ heard_if (reads_on 248 bytes) (heard_with outcome bytes) → CallsLead (table_of after (lpc window 0x01 (low_status (response_packet status body)))) (Did (PortIn 0x200) outcome ∷ port_reads 0x800 bytes) new →
    IsHeard after window (response_packet status body) outcome bytes heard new
hear-lead after window status outcome body rest bytes heard new size front short all heard_is lead =
    let reply = response_packet status body in
    let padded = subst (λ (calls : List HostCall). CallsLead (table_of after (lpc window 0 (low_status reply))) calls new) (sym (append-nil (port_reads 0x800 bytes))) lead.1 in
    let read = reads-lead after (record { window = window; status = 0; outcome = low_status reply }) 0x800 0 bytes [] new refl (omega (arith, read-short (reads_on 248 bytes) bytes refl all)) size padded in
    let whole = read-whole 0 status body rest bytes short (read.0 ∙ ap (λ (xs : List ℕ). take (length bytes) xs) front) all in
    let judged : heard_with outcome bytes ≡ Reply reply = ap (λ (n : ℕ). heard_with n bytes) lead.0 ∙ ap (λ (xs : List ℕ). heard_with (low_status reply) xs) whole.0 ∙ heard-response status body (omega (arith, short)) in
    record { outcome_is = lead.0; bytes_are = whole.0; heard_is = heard_is ∙ ap (λ (on : Bool). heard_if on (heard_with outcome bytes)) whole.1 ∙ judged; leaves = read.1 }

-- five lists, grouped otherwise
pub regroup : (a b c d : List HostCall) (x : HostCall) → a ++ b ++ x ∷ [] ++ c ++ d ≡ a ++ (b ++ (x ∷ (c ++ d)))
regroup a b c d x = simp append_assoc

-- four lists, grouped otherwise
regroup3 : (a b c : List HostCall) (x : HostCall) → a ++ b ++ x ∷ [] ++ c ≡ a ++ (b ++ (x ∷ (c ++ [])))
regroup3 a b c x = simp (append_assoc, append-nil)

-- the core and the window of a valid table
pub core-valid : (core : Core) (window : List ℕ) (status outcome : ℕ) → Valid (table_of core (lpc window status outcome)) → IsCoreValid core
core-valid core window status outcome valid =
    record { size = valid.size; all_with_ro = valid.power.all_with_ro; jumped = valid.power.jumped; erase = valid.power.erase; hash = valid.power.hash; saved = valid.power.saved }

-- the window of a valid table has 256 bytes
pub window-whole : (core : Core) (window : List ℕ) (status outcome : ℕ) → Valid (table_of core (lpc window status outcome)) → length window ≡ 256
window-whole core window status outcome valid = valid.power.bus.0

-- the calls behind the first poll
abbrev pub served_calls : List ℕ → List ℕ → ℕ → List ℕ → List HostCall → List HostCall
served_calls packet gots got statuses tail = port_writes 0x800 packet gots ++ (Did (PortOut 0x204 0xDA) got ∷ (waited_reads status_in statuses ++ tail))

-- from a bus that is not busy: the request is written, served in one wait, and its response stands in the window
pub record Answers (after : Core) (result : ℕ) (body packet gots : List ℕ) (got : ℕ) (statuses : List ℕ) (ready : Bool) (tail : List HostCall) (new : Table) : Type 0 where
  pub rest : List ℕ
  pub window : List ℕ
  pub front : window ≡ response_packet result body ++ rest
  pub size : length window ≡ 256
  pub zeros : gots ≡ replicate (length packet) 0
  pub taken : got ≡ 0
  pub once : statuses ≡ 0x01 ∷ []
  pub ended : ready ≡ true
  pub lead : CallsLead (table_of after (lpc window 0x01 (low_status (response_packet result body)))) tail new

-- the same, with what the request is answered
record Asked (core : Core) (packet gots : List ℕ) (got : ℕ) (statuses : List ℕ) (ready : Bool) (tail : List HostCall) (new : Table) : Type 0 where
  pub after : Core
  pub status : ℕ
  pub body : List ℕ
  pub handled_is : handled core 256 packet ≡ Answered after status body
  pub short : length body ≤ 248
  pub answers : Answers after status body packet gots got statuses ready tail new

-- the window keeps its length
pub overwritten-size : (bytes window : List ℕ) → length window ≡ 256 → length bytes ≤ 256 → length (overwritten 0 bytes window) ≡ 256
overwritten-size bytes window size short = omega (arith, length-append bytes (drop (0 + length bytes) window), length-drop (0 + length bytes) window, size, short)

-- the packet at the front of the window is the request
pub handled-window : (core : Core) (packet window : List ℕ) → 8 ≤ length packet → length packet ≡ 8 + request_length packet → handled core 256 (overwritten 0 packet window) ≡ handled core 256 packet
handled-window core packet window header whole = ap (λ (f : _). row_of core 256 (admitted_from core f)) (framing-append packet (drop (0 + length packet) window) header whole)

-- a send from a bus that is not busy, up to where its response stands in the window
pub answers-by : (core after : Core) (window : List ℕ) (status outcome result : ℕ) (body packet gots : List ℕ) (got : ℕ) (statuses : List ℕ) (ready : Bool) (tail : List HostCall) (new : Table) →
    length window ≡ 256 → is_busy status ≡ false → IsPlain packet → length packet ≤ 256 → length gots ≡ length packet → poll_end is_busy 4 statuses ≡ Some ready →
    handled core 256 packet ≡ Answered after result body → length body ≤ 248 → CallsLead (table_of core (lpc window status outcome)) (served_calls packet gots got statuses tail) new → Answers after result body packet gots got statuses ready tail new
answers-by core after window status outcome result body packet gots got statuses ready tail new size idle plain short each polled same fits lead =
    let asked_window = overwritten 0 packet window in
    let asked_size = overwritten-size packet window size short in
    let written = writes-lead core window status outcome 0x800 0 packet gots (Did (PortOut 0x204 0xDA) got ∷ (waited_reads status_in statuses ++ tail)) new refl (omega (arith, short)) size idle each lead in
    let commanded = command-lead core asked_window status outcome got (waited_reads status_in statuses ++ tail) new idle written.1 in
    let served = serve-lead core after asked_window 0xFF result body statuses ready tail new (handled-window core packet window plain.header plain.whole ∙ same) polled commanded.1 in
    record {
      rest = drop (0 + length (response_packet result body)) asked_window;
      window = overwritten 0 (response_packet result body) asked_window;
      front = refl;
      size = overwritten-size (response_packet result body) asked_window asked_size (omega (arith, length-response result body, fits));
      zeros = written.0;
      taken = commanded.0;
      once = served.once;
      ended = served.ended;
      lead = served.lead;
    }

-- the same, by what the request is answered
asked-by : (core : Core) (window : List ℕ) (status outcome : ℕ) (packet gots : List ℕ) (got : ℕ) (statuses : List ℕ) (ready : Bool) (tail : List HostCall) (new : Table) (result : Outcome) →
    length window ≡ 256 → is_busy status ≡ false → IsPlain packet → length packet ≤ 256 → length gots ≡ length packet → poll_end is_busy 4 statuses ≡ Some ready →
    handled core 256 packet ≡ result → IsAnswer result → IsShort result → CallsLead (table_of core (lpc window status outcome)) (served_calls packet gots got statuses tail) new → Asked core packet gots got statuses ready tail new
asked-by core window status outcome packet gots got statuses ready tail new Restarts size idle plain short each polled same answer fits lead = absurd answer
asked-by core window status outcome packet gots got statuses ready tail new (Answered after result body) size idle plain short each polled same answer fits lead =
    record {
      after = after;
      status = result;
      body = body;
      handled_is = same;
      short = fits;
      answers = answers-by core after window status outcome result body packet gots got statuses ready tail new size idle plain short each polled same fits lead;
    }

-- the same behind the first poll
asked-from : (table : Table) (seen packet gots : List ℕ) (got : ℕ) (statuses : List ℕ) (first ready : Bool) (tail : List HostCall) (new : Table) → Valid (settled table) → IsPlain packet → length packet ≤ 256 → length gots ≡ length packet → poll_end is_busy 4 statuses ≡ Some ready →
    (at : Idled table seen first (served_calls packet gots got statuses tail) new) → Asked at.core packet gots got statuses ready tail new
asked-from table seen packet gots got statuses first ready tail new valid plain short each polled at =
    let placed = subst (λ (t : Table). Valid t) at.same valid in
    let valid_core = core-valid at.core at.window at.status at.outcome placed in
    asked-by at.core at.window at.status at.outcome packet gots got statuses ready tail new (handled at.core 256 packet) (window-whole at.core at.window at.status at.outcome placed) at.idle plain short each polled refl (plain-answered packet at.core 256 plain) (row_of-short at.core (asked at.core packet) valid_core) at.lead

-- the whole of a send that was served, from the settled table
served-whole : (table : Table) (seen packet gots : List ℕ) (got : ℕ) (statuses : List ℕ) (first : Bool) (outcome : ℕ) (bytes : List ℕ) (heard : Heard) (new : Table) → Valid (settled table) → IsPlain packet → length packet ≤ 256 → length gots ≡ length packet → poll_end is_busy 4 statuses ≡ Some true →
    is_all_read (reads_on 248 bytes) bytes ≡ true → heard ≡ heard_if (reads_on 248 bytes) (heard_with outcome bytes) →
    Idled table seen first (served_calls packet gots got statuses (Did (PortIn 0x200) outcome ∷ port_reads 0x800 bytes)) new → ServesPacket packet (settled table) heard new
served-whole table seen packet gots got statuses first outcome bytes heard new valid plain short each polled all heard_is at =
    let asks = asked-from table seen packet gots got statuses first true (Did (PortIn 0x200) outcome ∷ port_reads 0x800 bytes) new valid plain short each polled at in
    let answers = asks.answers in
    let hears = hear-lead asks.after answers.window asks.status outcome asks.body answers.rest bytes heard new answers.size answers.front asks.short all heard_is answers.lead in
    let bus = lpc at.window at.status at.outcome in
    let serves : ServesPacket packet (table_of at.core bus) heard new =
    record {
      awake = record { live = at.core.live; nonce = at.core.nonce; bus = bus };
      on = refl;
      after = asks.after;
      status = asks.status;
      body = asks.body;
      handled_is = asks.handled_is;
      heard_is = hears.heard_is;
      leaves = record { bus = lpc answers.window 0 (low_status (response_packet asks.status asks.body)); same = hears.leaves; none_waits = refl };
      kind = ap (λ (t : Table). t.kind) hears.leaves;
    } in
    subst (λ (t : Table). ServesPacket packet t heard new) (sym at.same) serves

-- the first poll of a send from a valid table
pub idled-at : (table : Table) (awake : Awake) (statuses : List ℕ) (ready : Bool) (calls tail : List HostCall) (new : Table) → Valid table → table.power ≡ On awake → table.kind ≡ Lpc → poll_end is_busy 5 statuses ≡ Some ready →
    calls ≡ spaced_reads status_in statuses ++ tail → CallsLead table calls new → Idled table statuses ready tail new
idled-at table awake statuses ready calls tail new valid on kind polled grouped lead =
    let facts = bus-facts table awake valid on in
    let same = as-table table awake on facts.kind in
    let led = subst (λ (t : Table). CallsLead t (spaced_reads status_in statuses ++ tail) new) same (subst (λ (xs : List HostCall). CallsLead table xs new) grouped lead) in
    subst (λ (t : Table). Idled t statuses ready tail new) (sym same) (idled (core_of table awake) awake.bus statuses ready tail new (facts.kind ∙ kind) facts.valid polled led)

-- the calls of a send that was served, behind its first poll
pub served-made : (packet : List ℕ) (calls : List HostCall) (heard : Heard) (served : LpcServed packet calls heard) →
    calls ≡ spaced_reads status_in served.asked.statuses ++ served_calls packet served.asked.gots served.asked.got served.statuses (Did (PortIn 0x200) served.outcome ∷ port_reads 0x800 served.bytes)
served-made packet calls heard served =
    let asked = served.asked in
    let tail = Did (PortIn 0x200) served.outcome ∷ port_reads 0x800 served.bytes in
    served.made ∙ ap (λ (xs : List HostCall). xs ++ waited_reads status_in served.statuses ++ tail) asked.made ∙ regroup (spaced_reads status_in asked.statuses) (port_writes 0x800 packet asked.gots) (waited_reads status_in served.statuses) tail (Did (PortOut 0x204 0xDA) asked.got)

-- an undisturbed send is served on the settled table
pub lpc-calm : (table : Table) (awake : Awake) (packet : List ℕ) (calls : List HostCall) (heard : Heard) (new : Table) → Valid table → table.power ≡ On awake → table.kind ≡ Lpc → IsPlain packet → length packet ≤ 256 →
    LpcSend packet calls heard → CallsLead table calls new → ServesPacket packet (settled table) heard new
lpc-calm table awake packet calls heard new valid on kind plain short (LpcWasBlocked blocked silent) lead =
    let at = idled-at table awake blocked.statuses false calls [] new valid on kind blocked.busy (blocked.made ∙ sym (append-nil (spaced_reads status_in blocked.statuses))) lead in
    absurd (let e : false ≡ true = at.ended in cc)
lpc-calm table awake packet calls heard new valid on kind plain short (LpcWasUnserved unserved silent) lead =
    let asked = unserved.asked in
    let grouped : calls ≡ spaced_reads status_in asked.statuses ++ served_calls packet asked.gots asked.got unserved.statuses [] =
    unserved.made ∙ ap (λ (xs : List HostCall). xs ++ waited_reads status_in unserved.statuses) asked.made ∙ regroup3 (spaced_reads status_in asked.statuses) (port_writes 0x800 packet asked.gots) (waited_reads status_in unserved.statuses) (Did (PortOut 0x204 0xDA) asked.got) in
    let at = idled-at table awake asked.statuses true calls (served_calls packet asked.gots asked.got unserved.statuses []) new valid on kind asked.idle grouped lead in
    let asks = asked-from table asked.statuses packet asked.gots asked.got unserved.statuses true false [] new (settled-valid table valid) plain short asked.each unserved.busy at in
    absurd (let e : false ≡ true = asks.answers.ended in cc)
lpc-calm table awake packet calls heard new valid on kind plain short (LpcWasServed served) lead =
    let asked = served.asked in
    let tail = Did (PortIn 0x200) served.outcome ∷ port_reads 0x800 served.bytes in
    let at = idled-at table awake asked.statuses true calls (served_calls packet asked.gots asked.got served.statuses tail) new valid on kind asked.idle (served-made packet calls heard served) lead in
    served-whole table asked.statuses packet asked.gots asked.got served.statuses true served.outcome served.bytes heard new (settled-valid table valid) plain short asked.each served.idle served.whole served.heard_is at

-- a status that is not busy is none of a request that waits
six-or : (status : ℕ) (six : Bool) → (status == 0x06) ≡ six → is_busy status ≡ false → six ≡ false
six-or status false same idle = refl
six-or status true same idle =
    let at : status ≡ 6 = eq-of status same in
    absurd (let e : is_busy 6 ≡ false = subst (λ (n : ℕ). is_busy n ≡ false) at idle in cc) where
      eq-of : (n : ℕ) → (n == 0x06) ≡ true → n ≡ 6
      eq-of n same = grind (arith, eqb_tells)

-- the same as a test
pub idle-is-not-six : (status : ℕ) → is_busy status ≡ false → (status == 0x06) ≡ false
idle-is-not-six status idle = six-or status (status == 0x06) refl idle

-- a poll leaves the settled table, and no request waits
pub lpc-quiet : (table : Table) (awake : Awake) (calls : List HostCall) (new : Table) → Valid table → table.power ≡ On awake → table.kind ≡ Lpc → LpcQuiet calls → CallsLead table calls new → Settles (settled table) new
lpc-quiet table awake calls new valid on kind quiet lead =
    let at = idled-at table awake quiet.statuses quiet.ready calls [] new valid on kind quiet.polled (quiet.made ∙ sym (append-nil (spaced_reads status_in quiet.statuses))) lead in
    let bus = lpc at.window at.status at.outcome in
    let none = idle-is-not-six at.status at.idle in
    let settles : Settles (table_of at.core bus) new =
    record {
      awake = record { live = at.core.live; nonce = at.core.nonce; bus = bus };
      on = refl;
      leaves = record { bus = bus; same = at.lead; none_waits = rw none refl };
      kind = ap (λ (t : Table). t.kind) at.lead;
    } in
    subst (λ (t : Table). Settles t new) (sym at.same) settles
