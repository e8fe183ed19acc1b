-- What the sending of a request that has no reply leaves where nothing disturbs it: the request was handled.
use Rattle.std.proofs.Common.{◌≡◌, refl, sym, ap, ◌∙◌, subst, ℕ, ◌+◌, ◌≤◌, Bool, true, false, None, List, [], ◌∷◌, ◌++◌, length, take, replicate, append_assoc, append-nil, length-take, arith}
use Rattle.std.proofs.lemmas.List.{length-replicate}
use Rattle.flash_dev.specs.Flash.{overwritten}
use Rattle.ec_types.specs.Tables.{packet_limit}
use Rattle.ec_types.specs.declared.bus.BusKind.{BusKind}
use Rattle.ec_types.specs.declared.bus.BusKind.TheVariants.{Lpc, I2c, Spi}
use Rattle.ec_model.specs.declared.event.Access.TheVariants.{PortOut, I2cStartRead, I2cStop, SpiSelect, SpiDeselect}
use Rattle.ec_model.specs.Packet.{response_packet}
use Rattle.ec_model.specs.Bus.{BusState, I2cState, SpiState, OnLpc, OnI2c, OnSpi, Idle, Asked, Deselected, Waiting, kind_of, low_status}
use Rattle.ec_model.specs.HostCalls.{HostCall, Did, Waited, calls_of}
use Rattle.ec_model.specs.Heard.{spaced_reads, port_writes, i2c_writes, spi_writes}
use Rattle.ec_model.specs.SendLpc.{status_in}
use Rattle.ec_model.specs.Send.{cold_packet, LpcCold, LpcColdBlocked, LpcColdDone, I2cCold, I2cColdUnstarted, I2cColdUnwritten, I2cColdDone, SpiColdSent, ColdBy}
use Rattle.ec_model.specs.Run.{IsRun}
use Rattle.ec_model.specs.Upset.{IsUndisturbed}
use Rattle.ec_model.specs.Table.{Table, Awake, On, Core, Valid, core_of, table_of}
use Rattle.ec_model.specs.Answer.{Outcome, Answered, Restarts}
use Rattle.ec_model.specs.Handle.{handled}
use Rattle.ec_model.specs.WholeStep.{after_outcome}
use Rattle.ec_model.specs.Syncable.{settled}
use Rattle.ec_wire.specs.Calls.{WireView, Agrees}
use Rattle.exchange_laws.specs.Calm.{CallsLead}
use Rattle.exchange_laws.proofs.LpcFirst.{Idled}
use Rattle.exchange_laws.proofs.LpcLead.{lpc, writes-lead, command-lead, tick-lead}
use Rattle.exchange_laws.proofs.Settled.{as-table, bus-facts, settled-valid}
use Rattle.exchange_laws.proofs.LpcSend.{handled-window, idled-at, window-whole}
use Rattle.exchange_laws.proofs.I2cLead.{start-lead, writes-lead as i2c-written, all-taken}
use Rattle.exchange_laws.proofs.I2cSend.{taken-size}
use Rattle.exchange_laws.proofs.SpiLead.{request-lead}
use Rattle.host_framing.specs.Clean.{since}
use Rattle.host_framing.specs.ColdParts.{SendsCold, IsSized, IsLeft, HandlesPacket, ResetsWhereCalm}
use Rattle.host_framing.proofs.CleanLemmas.{OnOrOff, IsOff, IsOn, on-or-off, off-on, changes-map, lead-since}

-- a request was handled on a controller that is on
handles-on : (core : Core) (bus : BusState) (packet : List ℕ) (new : Table) → IsLeft (table_of core bus) (handled core (packet_limit (kind_of bus)) packet) new → HandlesPacket packet (table_of core bus) new
handles-on core bus packet new leaves = record { awake = record { live = core.live; nonce = core.nonce; bus = bus }; on = refl; leaves = leaves }

-- LPC: what the tick leaves
lpc-left : (core : Core) (window asked : List ℕ) (status outcome : ℕ) (result : Outcome) (new : Table) → CallsLead (after_outcome core (record { state = lpc asked 0x06 0xFF; answer = 0 }) 0 result).table [] new → IsLeft (table_of core (lpc window status outcome)) result new
lpc-left core window asked status outcome (Answered after result body) new lead =
    record { bus = lpc (overwritten 0 (response_packet result body) asked) 0x01 (low_status (response_packet result body)); same = lead; none_waits = refl }
lpc-left core window asked status outcome Restarts new lead = lead

-- LPC: the calls behind the first poll
abbrev asking_calls : List ℕ → List ℕ → ℕ → List HostCall
asking_calls packet gots got = port_writes 0x800 packet gots ++ (Did (PortOut 0x204 0xDA) got ∷ Waited ∷ [])

-- LPC: behind the first poll the request is handled
lpc-polled : (told : Table) (seen packet gots : List ℕ) (got : ℕ) (ready : Bool) (left : Table) → Valid (settled told) → IsSized packet → length packet ≤ 256 → length gots ≡ length packet → Idled told seen ready (asking_calls packet gots got) left → HandlesPacket packet (settled told) left
lpc-polled told seen packet gots got ready left valid sized short each at =
    let window = overwritten 0 packet at.window in
    let size = window-whole at.core at.window at.status at.outcome (subst (λ (t : Table). Valid t) at.same valid) in
    let written = writes-lead at.core at.window at.status at.outcome 0x800 0 packet gots (Did (PortOut 0x204 0xDA) got ∷ Waited ∷ []) left refl (omega (arith, short)) size at.idle each at.lead in
    let commanded = command-lead at.core window at.status at.outcome got (Waited ∷ []) left at.idle written.1 in
    let ticked = tick-lead at.core window 0xFF (handled at.core 256 packet) [] left (handled-window at.core packet at.window sized.header sized.whole) commanded.1 in
    subst (λ (t : Table). HandlesPacket packet t left) (sym at.same)
    (handles-on at.core (lpc at.window at.status at.outcome) packet left (lpc-left at.core at.window window at.status at.outcome (handled at.core 256 packet) left ticked))

-- calls behind two lists, grouped otherwise
regroup : (a b : List HostCall) (x y : HostCall) → a ++ b ++ x ∷ [] ++ y ∷ [] ≡ a ++ (b ++ (x ∷ y ∷ []))
regroup a b x y = simp append_assoc

-- LPC: the request is handled on the settled table
lpc-handles : (told : Table) (awake : Awake) (packet : List ℕ) (calls : List HostCall) (left : Table) → Valid told → told.power ≡ On awake → told.kind ≡ Lpc → IsSized packet → length packet ≤ 256 → LpcCold packet calls → CallsLead told calls left → HandlesPacket packet (settled told) left
lpc-handles told awake packet calls left valid on kind sized short (LpcColdBlocked blocked) lead =
    let at = idled-at told awake blocked.statuses false calls [] left valid on kind blocked.busy (blocked.made ∙ sym (append-nil (spaced_reads status_in blocked.statuses))) lead in
    absurd (let e : false ≡ true = at.ended in cc)
lpc-handles told awake packet calls left valid on kind sized short (LpcColdDone done) lead =
    let asked = done.asked in
    let grouped : calls ≡ spaced_reads status_in asked.statuses ++ asking_calls packet asked.gots asked.got =
    done.made ∙ ap (λ (xs : List HostCall). xs ++ Waited ∷ []) asked.made ∙ regroup (spaced_reads status_in asked.statuses) (port_writes 0x800 packet asked.gots) (Did (PortOut 0x204 0xDA) asked.got) Waited in
    lpc-polled told asked.statuses packet asked.gots asked.got true left (settled-valid told valid) sized short asked.each
    (idled-at told awake asked.statuses true calls (asking_calls packet asked.gots asked.got) left valid on kind asked.idle grouped lead)

-- I2C: what the start of a read and the stop behind it leave
i2c-left : (core : Core) (state : I2cState) (packet : List ℕ) (stopped : ℕ) (result : Outcome) (new : Table) → CallsLead (after_outcome core (record { state = OnI2c (Asked packet); answer = 0 }) 0xFF result).table (Did I2cStop stopped ∷ []) new → IsLeft (table_of core (OnI2c state)) result new
i2c-left core state packet stopped (Answered after status body) new lead = record { bus = OnI2c (Idle []); same = lead.1; none_waits = refl }
i2c-left core state packet stopped Restarts new lead = lead.1

-- I2C: the request is handled
i2c-handles : (core : Core) (state : I2cState) (packet : List ℕ) (calls : List HostCall) (new : Table) → length packet ≤ 128 → I2cCold packet calls → CallsLead (table_of core (OnI2c state)) calls new → HandlesPacket packet (table_of core (OnI2c state)) new
i2c-handles core state packet calls new short (I2cColdUnstarted unstarted) lead =
    let led = subst (λ (xs : List HostCall). CallsLead (table_of core (OnI2c state)) xs new) unstarted.made lead in
    absurd (unstarted.refused (start-lead core state unstarted.got (Did I2cStop unstarted.stopped ∷ []) new led).0)
i2c-handles core state packet calls new short (I2cColdUnwritten unwritten) lead =
    let bytes = take (unwritten.taken + 1) (0xDA ∷ packet) in
    let gots = replicate unwritten.taken 0 ++ unwritten.got ∷ [] in
    let led = subst (λ (xs : List HostCall). CallsLead (table_of core (OnI2c state)) xs new) unwritten.made lead in
    let begun = start-lead core state 0 (i2c_writes bytes gots ++ Did I2cStop unwritten.stopped ∷ []) new led in
    let size = length-take (unwritten.taken + 1) (0xDA ∷ packet) in
    let written = i2c-written core [] bytes gots (Did I2cStop unwritten.stopped ∷ []) new (omega (arith, short, size, unwritten.some)) (taken-size unwritten.taken unwritten.got packet unwritten.some) begun.1 in
    absurd (unwritten.refused (all-taken unwritten.taken unwritten.got (length bytes) written.0))
i2c-handles core state packet calls new short (I2cColdDone done) lead =
    let zeros : List ℕ = replicate (1 + length packet) 0 in
    let each : length zeros ≡ length (0xDA ∷ packet) = omega (arith, length-replicate {A = ℕ} (1 + length packet) 0) in
    let rest = Did I2cStartRead done.got ∷ Did I2cStop done.stopped ∷ [] in
    let led = subst (λ (xs : List HostCall). CallsLead (table_of core (OnI2c state)) xs new) (done.made ∙ ap (λ (xs : List HostCall). xs ++ rest) done.asked.made) lead in
    let begun = start-lead core state 0 (i2c_writes (0xDA ∷ packet) zeros ++ rest) new led in
    let written = i2c-written core [] (0xDA ∷ packet) zeros rest new (omega (arith, short)) each begun.1 in
    handles-on core (OnI2c state) packet new (i2c-left core state packet done.stopped (handled core 128 packet) new written.1.1)

-- SPI: what the wait and the deselect behind it leave
spi-left : (core : Core) (state : SpiState) (packet : List ℕ) (stopped : ℕ) (result : Outcome) (new : Table) → CallsLead (after_outcome core (record { state = OnSpi (Waiting packet); answer = 0 }) 0 result).table (Did SpiDeselect stopped ∷ []) new → IsLeft (table_of core (OnSpi state)) result new
spi-left core state packet stopped (Answered after status body) new lead = record { bus = OnSpi Deselected; same = lead.1; none_waits = refl }
spi-left core state packet stopped Restarts new lead = lead.1

-- SPI: the request is handled
spi-handles : (core : Core) (state : SpiState) (packet : List ℕ) (calls : List HostCall) (new : Table) → IsSized packet → length packet ≤ 544 → SpiColdSent packet calls → CallsLead (table_of core (OnSpi state)) calls new → HandlesPacket packet (table_of core (OnSpi state)) new
spi-handles core state packet calls new sized short sent lead =
    let rest = Waited ∷ Did SpiDeselect sent.stopped ∷ [] in
    let led : CallsLead (table_of core (OnSpi state)) (Did SpiSelect sent.asked.selected ∷ (spi_writes packet sent.asked.gots ++ rest)) new =
    subst (λ (xs : List HostCall). CallsLead (table_of core (OnSpi state)) xs new) (sent.made ∙ ap (λ (xs : List HostCall). xs ++ rest) sent.asked.made) lead in
    let waits = request-lead core packet sent.asked.gots rest new sized.header sized.whole short sent.asked.each led.1 in
    handles-on core (OnSpi state) packet new (spi-left core state packet sent.stopped (handled core 544 packet) new waits.1)

-- the same by the bus, where a request that is due is none of a settled table's
handles-at : (core : Core) (bus : BusState) (kind : BusKind) (packet : List ℕ) (calls : List HostCall) (new : Table) → kind_of bus ≡ kind → IsSized packet → length packet ≤ packet_limit kind → ColdBy kind packet calls → (kind ≡ Lpc → ⊥) → CallsLead (table_of core bus) calls new → HandlesPacket packet (settled (table_of core bus)) new
handles-at core bus Lpc packet calls new same sized short sent other lead = absurd (other refl)
handles-at core (OnLpc state) I2c packet calls new same sized short sent other lead = absurd (cc)
handles-at core (OnI2c state) I2c packet calls new same sized short sent other lead = i2c-handles core state packet calls new short sent lead
handles-at core (OnSpi state) I2c packet calls new same sized short sent other lead = absurd (cc)
handles-at core (OnLpc state) Spi packet calls new same sized short sent other lead = absurd (cc)
handles-at core (OnI2c state) Spi packet calls new same sized short sent other lead = absurd (cc)
handles-at core (OnSpi state) Spi packet calls new same sized short sent other lead = spi-handles core state packet calls new sized short sent lead

-- the same of a valid table, but on LPC
handles-other : (told : Table) (awake : Awake) (kind : BusKind) (packet : List ℕ) (calls : List HostCall) (left : Table) → Valid told → told.power ≡ On awake → told.kind ≡ kind → IsSized packet → length packet ≤ packet_limit kind → ColdBy kind packet calls → (kind ≡ Lpc → ⊥) → CallsLead told calls left → HandlesPacket packet (settled told) left
handles-other told awake kind packet calls left valid on is sized short sent other lead =
    let facts = bus-facts told awake valid on in
    let same = as-table told awake on facts.kind in
    subst (λ (t : Table). HandlesPacket packet (settled t) left) (sym same)
    (handles-at (core_of told awake) awake.bus kind packet calls left (facts.kind ∙ is) sized short sent other (subst (λ (t : Table). CallsLead t calls left) same lead))

-- the same on each bus
handles-by : (told : Table) (awake : Awake) (kind : BusKind) (packet : List ℕ) (calls : List HostCall) (left : Table) → Valid told → told.power ≡ On awake → told.kind ≡ kind → IsSized packet → length packet ≤ packet_limit kind → ColdBy kind packet calls → CallsLead told calls left → HandlesPacket packet (settled told) left
handles-by told awake Lpc packet calls left valid on is sized short sent lead = lpc-handles told awake packet calls left valid on is sized short sent lead
handles-by told awake I2c packet calls left valid on is sized short sent lead = handles-other told awake I2c packet calls left valid on is sized short sent (λ same. cc) lead
handles-by told awake Spi packet calls left valid on is sized short sent lead = handles-other told awake Spi packet calls left valid on is sized short sent (λ same. cc) lead

-- the same by whether the controller is on
handles-told : (packet : List ℕ) (old : WireView) (told left : Table) (calls : List HostCall) → OnOrOff told → IsSized packet → length packet ≤ packet_limit old.bus → ColdBy old.bus packet calls → Agrees old.bus old.on told → old.on ≡ true → CallsLead told calls left → HandlesPacket packet (settled told) left
handles-told packet old told left calls (IsOff off) sized short sent agrees on lead = let dark = off-on old told off agrees in absurd (cc)
handles-told packet old told left calls (IsOn awake is) sized short sent agrees on lead = handles-by told awake old.bus packet calls left agrees.valid is agrees.kind_is sized short sent lead

-- the same on a wire
pub cold-resets : (packet : List ℕ) (old new : WireView) → length packet ≤ packet_limit old.bus → SendsCold old.bus packet old new → IsSized packet → ResetsWhereCalm packet old new
cold-resets packet old new short sends sized =
    changes-map _ _ old.table new.table (λ (told left : Table) (run : IsRun told sends.added left) (agrees : Agrees old.bus old.on told) (on : old.on ≡ true) (calm : IsUndisturbed (since old new)).
    handles-told packet old told left (calls_of sends.added) (on-or-off told told.power refl) sized short sends.sent.1 agrees on (lead-since sends.added old new told left sends.grows run calm)) sends.grows.run

-- a COLD is a header and its body
pub cold-sized : IsSized cold_packet
cold-sized = record { header = omega arith; whole = refl }

-- it restarts a controller on which no erase is pending
pub cold-restarts : (core : Core) (limit : ℕ) → core.live.erase ≡ None → handled core limit cold_packet ≡ Restarts
cold-restarts core limit none = rw none refl
