-- A COLD that nothing disturbs, and the quiet behind it: the controller boots, and how many calls that takes.
use Rattle.std.proofs.Common.{◌≡◌, refl, sym, ap, ◌∙◌, subst, ℕ, ◌+◌, Bool, true, false, ◌||◌, ◌==◌, if◌then◌else◌, ◌⊎◌, inl, inr, List, [], ◌∷◌, ◌++◌, length, take, replicate, append_assoc, append-nil, length-append, length-take, Some, None, arith}
use Rattle.std.proofs.lemmas.Bool.Decides.{eqb_tells}
use Rattle.std.proofs.lemmas.List.{length-replicate}
use Rattle.flash_dev.specs.Flash.{overwritten}
use Rattle.ec_types.specs.Tables.{packet_limit}
use Rattle.ec_types.specs.declared.bus.BusKind.{BusKind}
use Rattle.ec_types.specs.declared.bus.BusKind.TheVariants.{Lpc, I2c, Spi}
use Rattle.ec_types.specs.declared.reset.ResetCause.TheVariants.{Cold as ColdReset}
use Rattle.ec_model.specs.declared.event.Access.TheVariants.{PortOut, I2cStartWrite, I2cStartRead, I2cStop, SpiSelect, SpiDeselect}
use Rattle.ec_model.specs.Answer.{Outcome, Restarts}
use Rattle.ec_model.specs.Boot.{booted_table}
use Rattle.ec_model.specs.Bus.{BusState, I2cState, SpiState, OnLpc, OnI2c, OnSpi, Idle, Asked, Deselected, Waiting, kind_of, fresh_bus, is_busy, due_at_tick}
use Rattle.ec_model.specs.Handle.{handled}
use Rattle.ec_model.specs.Heard.{poll_end, spaced_reads, port_writes, i2c_writes, spi_writes}
use Rattle.ec_model.specs.HostCalls.{HostCall, Did, Waited}
use Rattle.ec_model.specs.Send.{LpcCold, LpcColdBlocked, LpcColdDone, I2cCold, I2cColdUnstarted, I2cColdUnwritten, I2cColdDone, SpiColdSent, ColdBy, QuietBy}
use Rattle.ec_model.specs.SendLpc.{status_in}
use Rattle.ec_model.specs.Table.{Table, Core, IsBusValid, table_of}
use Rattle.ec_model.specs.WholeStep.{after_outcome}
use Rattle.exchange_laws.specs.Calm.{CallsLead}
use Rattle.exchange_laws.specs.Served.{LeavesCore}
use Rattle.exchange_laws.proofs.I2cLead.{start-lead, writes-lead as i2c-written, all-taken}
use Rattle.exchange_laws.proofs.I2cSend.{taken-size}
use Rattle.exchange_laws.proofs.LpcLead.{lpc, writes-lead, command-lead, tick-lead, ready-lead}
use Rattle.exchange_laws.proofs.LpcSend.{handled-window}
use Rattle.exchange_laws.proofs.SpiLead.{request-lead}
use Rattle.host_framing.specs.ColdParts.{IsSized}
use Rattle.command_laws.proofs.Parts.{length-window, length-i2c, length-spi}

-- a request of 10 bytes that restarts the controller
pub record IsReset (core : Core) (limit : ℕ) (packet : List ℕ) : Type 0 where
  pub sized : IsSized packet
  pub ten : length packet ≡ 10
  pub restarts : handled core limit packet ≡ Restarts

-- the calls of such a request alone
abbrev pub reset_calls : BusKind → ℕ
reset_calls Lpc = 13
reset_calls I2c = 14
reset_calls Spi = 13

-- the controller booted, and just so many calls were made
pub record IsReboot (kind : BusKind) (core : Core) (calls : List HostCall) (new : Table) : Type 0 where
  pub boots : new ≡ booted_table core.flash core.pin kind ColdReset false
  pub takes : length calls ≡ reset_calls kind

-- a valid status that is none of a request that waits
which : (status : ℕ) → ((status == 0x00) || (status == 0x01) || (status == 0x06)) ≡ true → (status == 0x06) ≡ false → (status ≡ 0) ⊎ (status ≡ 1)
which status shown other = grind (arith, eqb_tells)

-- it is not busy
idle-by : (status : ℕ) → (status ≡ 0) ⊎ (status ≡ 1) → is_busy status ≡ false
idle-by status (inl none) = ap (λ (n : ℕ). is_busy n) none
idle-by status (inr replied) = ap (λ (n : ℕ). is_busy n) replied

-- where no request waits, the status is no such one
none-due : (six : Bool) (window : List ℕ) → (if six then Some window else None) ≡ None → six ≡ false
none-due true window none = absurd (cc)
none-due false window none = refl

-- LPC: a poll of a bus that is not busy looked once
record IsLooked (table : Table) (statuses : List ℕ) (ready : Bool) (calls : List HostCall) (new : Table) : Type 0 where
  pub one : length (spaced_reads status_in statuses) ≡ 1
  pub ended : ready ≡ true
  pub lead : CallsLead table calls new

-- a poll of five looks at most
looked : (core : Core) (window : List ℕ) (status outcome : ℕ) (statuses : List ℕ) (ready : Bool) (calls : List HostCall) (new : Table) →
    is_busy status ≡ false → poll_end is_busy 5 statuses ≡ Some ready →
    CallsLead (table_of core (lpc window status outcome)) (spaced_reads status_in statuses ++ calls) new →
    IsLooked (table_of core (lpc window status outcome)) statuses ready calls new
looked core window status outcome [] ready calls new idle polled lead = absurd (cc)
looked core window status outcome (byte ∷ bytes) ready calls new idle polled lead =
    let end = ready-lead core window status outcome 4 byte bytes ready calls new idle polled lead in
    record { one = ap (λ (others : List ℕ). length (spaced_reads status_in (byte ∷ others))) end.none; ended = end.ended; lead = end.lead }

-- LPC: the calls behind the poll
abbrev asking_calls : List ℕ → List ℕ → ℕ → List HostCall
asking_calls packet gots got = port_writes 0x800 packet gots ++ (Did (PortOut 0x204 0xDA) got ∷ Waited ∷ [])

-- LPC: they boot the controller
lpc-boots : (core : Core) (window : List ℕ) (status outcome : ℕ) (packet gots : List ℕ) (got : ℕ) (new : Table) → length window ≡ 256 →
    is_busy status ≡ false → IsReset core 256 packet → length gots ≡ length packet →
    CallsLead (table_of core (lpc window status outcome)) (asking_calls packet gots got) new →
    new ≡ booted_table core.flash core.pin Lpc ColdReset false
lpc-boots core window status outcome packet gots got new size idle is each lead =
    let asked = overwritten 0 packet window in
    let written = writes-lead core window status outcome 0x800 0 packet gots (Did (PortOut 0x204 0xDA) got ∷ Waited ∷ []) new refl (omega (arith, is.ten)) size idle each lead in
    let commanded = command-lead core asked status outcome got (Waited ∷ []) new idle written.1 in
    tick-lead core asked 0xFF Restarts [] new (handled-window core packet window is.sized.header is.sized.whole ∙ is.restarts) commanded.1

-- calls behind two lists, grouped otherwise
regroup : (a b : List HostCall) (x y : HostCall) → a ++ b ++ x ∷ [] ++ y ∷ [] ≡ a ++ (b ++ (x ∷ y ∷ []))
regroup a b x y = simp append_assoc

-- LPC: how many they are with the poll
lpc-length : (looks : List HostCall) (packet gots : List ℕ) (got : ℕ) → length looks ≡ 1 → length gots ≡ length packet → length packet ≡ 10 →
    length (looks ++ asking_calls packet gots got) ≡ 13
lpc-length looks packet gots got one each ten =
    let writes = port_writes 0x800 packet gots in
    let last : List HostCall = Did (PortOut 0x204 0xDA) got ∷ Waited ∷ [] in
    omega (arith, one, ten, length-window 0x800 packet gots each, length-append looks (writes ++ last), length-append writes last)

-- LPC: a reset
lpc-resets : (core : Core) (window : List ℕ) (status outcome : ℕ) (packet : List ℕ) (calls : List HostCall) (new : Table) → length window ≡ 256 →
    is_busy status ≡ false → IsReset core 256 packet → LpcCold packet calls →
    CallsLead (table_of core (lpc window status outcome)) calls new → IsReboot Lpc core calls new
lpc-resets core window status outcome packet calls new size idle is (LpcColdBlocked blocked) lead =
    let grouped = blocked.made ∙ sym (append-nil (spaced_reads status_in blocked.statuses)) in
    let led = subst (λ (xs : List HostCall). CallsLead (table_of core (lpc window status outcome)) xs new) grouped lead in
    let at = looked core window status outcome blocked.statuses false [] new idle blocked.busy led in
    absurd (let e : false ≡ true = at.ended in cc)
lpc-resets core window status outcome packet calls new size idle is (LpcColdDone done) lead =
    let asked = done.asked in
    let looks = spaced_reads status_in asked.statuses in
    let grouped : calls ≡ looks ++ asking_calls packet asked.gots asked.got =
    done.made ∙ ap (λ (xs : List HostCall). xs ++ Waited ∷ []) asked.made ∙ regroup looks (port_writes 0x800 packet asked.gots) (Did (PortOut 0x204 0xDA) asked.got) Waited in
    let led = subst (λ (xs : List HostCall). CallsLead (table_of core (lpc window status outcome)) xs new) grouped lead in
    let at = looked core window status outcome asked.statuses true (asking_calls packet asked.gots asked.got) new idle asked.idle led in
    record {
      boots = lpc-boots core window status outcome packet asked.gots asked.got new size idle is asked.each at.lead;
      takes = ap (λ (xs : List HostCall). length xs) grouped ∙ lpc-length looks packet asked.gots asked.got at.one asked.each is.ten;
    }

-- I2C: what the start of a read and the stop behind it leave
i2c-boots : (core : Core) (packet : List ℕ) (stopped : ℕ) (result : Outcome) (new : Table) → result ≡ Restarts →
    CallsLead (after_outcome core (record { state = OnI2c (Asked packet); answer = 0 }) 0xFF result).table (Did I2cStop stopped ∷ []) new →
    new ≡ booted_table core.flash core.pin I2c ColdReset false
i2c-boots core packet stopped result new same lead =
    (subst (λ (r : Outcome). CallsLead (after_outcome core (record { state = OnI2c (Asked packet); answer = 0 }) 0xFF r).table (Did I2cStop stopped ∷ []) new) same lead).1

-- I2C: how many calls that are
i2c-length : (packet : List ℕ) (got stopped : ℕ) → length packet ≡ 10 →
    length (Did I2cStartWrite 0 ∷ i2c_writes (0xDA ∷ packet) (replicate (1 + length packet) 0) ++ Did I2cStartRead got ∷ Did I2cStop stopped ∷ []) ≡ 14
i2c-length packet got stopped ten =
    let zeros : List ℕ = replicate (1 + length packet) 0 in
    let first = Did I2cStartWrite 0 ∷ i2c_writes (0xDA ∷ packet) zeros in
    let last : List HostCall = Did I2cStartRead got ∷ Did I2cStop stopped ∷ [] in
    let each : length zeros ≡ length (0xDA ∷ packet) = omega (arith, length-replicate {A = ℕ} (1 + length packet) 0) in
    omega (arith, ten, length-i2c (0xDA ∷ packet) zeros each, length-append first last)

-- I2C: a reset
i2c-resets : (core : Core) (state : I2cState) (packet : List ℕ) (calls : List HostCall) (new : Table) → IsReset core 128 packet →
    I2cCold packet calls → CallsLead (table_of core (OnI2c state)) calls new → IsReboot I2c core calls new
i2c-resets core state packet calls new is (I2cColdUnstarted unstarted) lead =
    let led = subst (λ (xs : List HostCall). CallsLead (table_of core (OnI2c state)) xs new) unstarted.made lead in
    absurd (unstarted.refused (start-lead core state unstarted.got (Did I2cStop unstarted.stopped ∷ []) new led).0)
i2c-resets core state packet calls new is (I2cColdUnwritten unwritten) lead =
    let bytes = take (unwritten.taken + 1) (0xDA ∷ packet) in
    let gots = replicate unwritten.taken 0 ++ unwritten.got ∷ [] in
    let led = subst (λ (xs : List HostCall). CallsLead (table_of core (OnI2c state)) xs new) unwritten.made lead in
    let begun = start-lead core state 0 (i2c_writes bytes gots ++ Did I2cStop unwritten.stopped ∷ []) new led in
    let size = length-take (unwritten.taken + 1) (0xDA ∷ packet) in
    let each = taken-size unwritten.taken unwritten.got packet unwritten.some in
    let written = i2c-written core [] bytes gots (Did I2cStop unwritten.stopped ∷ []) new (omega (arith, is.ten, size, unwritten.some)) each begun.1 in
    absurd (unwritten.refused (all-taken unwritten.taken unwritten.got (length bytes) written.0))
i2c-resets core state packet calls new is (I2cColdDone done) lead =
    let zeros : List ℕ = replicate (1 + length packet) 0 in
    let each : length zeros ≡ length (0xDA ∷ packet) = omega (arith, length-replicate {A = ℕ} (1 + length packet) 0) in
    let rest = Did I2cStartRead done.got ∷ Did I2cStop done.stopped ∷ [] in
    let made = done.made ∙ ap (λ (xs : List HostCall). xs ++ rest) done.asked.made in
    let led = subst (λ (xs : List HostCall). CallsLead (table_of core (OnI2c state)) xs new) made lead in
    let begun = start-lead core state 0 (i2c_writes (0xDA ∷ packet) zeros ++ rest) new led in
    let written = i2c-written core [] (0xDA ∷ packet) zeros rest new (omega (arith, is.ten)) each begun.1 in
    record {
      boots = i2c-boots core packet done.stopped (handled core 128 packet) new is.restarts written.1.1;
      takes = ap (λ (xs : List HostCall). length xs) made ∙ i2c-length packet done.got done.stopped is.ten;
    }

-- SPI: what the wait and the deselect behind it leave
spi-boots : (core : Core) (packet : List ℕ) (stopped : ℕ) (result : Outcome) (new : Table) → result ≡ Restarts →
    CallsLead (after_outcome core (record { state = OnSpi (Waiting packet); answer = 0 }) 0 result).table (Did SpiDeselect stopped ∷ []) new →
    new ≡ booted_table core.flash core.pin Spi ColdReset false
spi-boots core packet stopped result new same lead =
    (subst (λ (r : Outcome). CallsLead (after_outcome core (record { state = OnSpi (Waiting packet); answer = 0 }) 0 r).table (Did SpiDeselect stopped ∷ []) new) same lead).1

-- SPI: how many calls that are
spi-length : (packet gots : List ℕ) (selected stopped : ℕ) → length gots ≡ length packet → length packet ≡ 10 →
    length (Did SpiSelect selected ∷ spi_writes packet gots ++ Waited ∷ Did SpiDeselect stopped ∷ []) ≡ 13
spi-length packet gots selected stopped each ten =
    let first = Did SpiSelect selected ∷ spi_writes packet gots in
    let last : List HostCall = Waited ∷ Did SpiDeselect stopped ∷ [] in
    omega (arith, ten, length-spi packet gots each, length-append first last)

-- SPI: a reset
spi-resets : (core : Core) (state : SpiState) (packet : List ℕ) (calls : List HostCall) (new : Table) → IsReset core 544 packet →
    SpiColdSent packet calls → CallsLead (table_of core (OnSpi state)) calls new → IsReboot Spi core calls new
spi-resets core state packet calls new is sent lead =
    let gots = sent.asked.gots in
    let rest = Waited ∷ Did SpiDeselect sent.stopped ∷ [] in
    let made = sent.made ∙ ap (λ (xs : List HostCall). xs ++ rest) sent.asked.made in
    let led : CallsLead (table_of core (OnSpi state)) (Did SpiSelect sent.asked.selected ∷ (spi_writes packet gots ++ rest)) new =
    subst (λ (xs : List HostCall). CallsLead (table_of core (OnSpi state)) xs new) made lead in
    let waits = request-lead core packet gots rest new is.sized.header is.sized.whole (omega (arith, is.ten)) sent.asked.each led.1 in
    record {
      boots = spi-boots core packet sent.stopped (handled core 544 packet) new is.restarts waits.1;
      takes = ap (λ (xs : List HostCall). length xs) made ∙ spi-length packet gots sent.asked.selected sent.stopped sent.asked.each is.ten;
    }

-- a reset from a bus on which no request waits
pub resets-at : (core : Core) (bus : BusState) (kind : BusKind) (packet : List ℕ) (calls : List HostCall) (new : Table) → kind_of bus ≡ kind →
    IsBusValid bus → due_at_tick bus ≡ None → IsReset core (packet_limit kind) packet → ColdBy kind packet calls →
    CallsLead (table_of core bus) calls new → IsReboot kind core calls new
resets-at core (OnLpc state) Lpc packet calls new same valid none is sent lead =
    let six = none-due (state.status == 0x06) state.window none in
    lpc-resets core state.window state.status state.outcome packet calls new valid.0 (idle-by state.status (which state.status valid.1 six)) is sent lead
resets-at core (OnI2c state) Lpc packet calls new same valid none is sent lead = absurd (cc)
resets-at core (OnSpi state) Lpc packet calls new same valid none is sent lead = absurd (cc)
resets-at core (OnLpc state) I2c packet calls new same valid none is sent lead = absurd (cc)
resets-at core (OnI2c state) I2c packet calls new same valid none is sent lead = i2c-resets core state packet calls new is sent lead
resets-at core (OnSpi state) I2c packet calls new same valid none is sent lead = absurd (cc)
resets-at core (OnLpc state) Spi packet calls new same valid none is sent lead = absurd (cc)
resets-at core (OnI2c state) Spi packet calls new same valid none is sent lead = absurd (cc)
resets-at core (OnSpi state) Spi packet calls new same valid none is sent lead = spi-resets core state packet calls new is sent lead

-- the bus of a booted controller was brought to rest, by one call
pub record IsRested (core : Core) (calls : List HostCall) (new : Table) : Type 0 where
  pub leaves : LeavesCore core new
  pub one : length calls ≡ 1

-- whatever the bus
pub rests-at : (core : Core) (kind : BusKind) (calls : List HostCall) (new : Table) → QuietBy kind calls →
    CallsLead (table_of core (fresh_bus kind)) calls new → IsRested core calls new
rests-at core Lpc calls new quiet lead =
    let window : List ℕ = replicate 256 0 in
    let grouped = quiet.made ∙ sym (append-nil (spaced_reads status_in quiet.statuses)) in
    let led = subst (λ (xs : List HostCall). CallsLead (table_of core (lpc window 0 0)) xs new) grouped lead in
    let at = looked core window 0 0 quiet.statuses quiet.ready [] new refl quiet.polled led in
    record { leaves = record { bus = lpc window 0 0; same = at.lead; none_waits = refl }; one = ap (λ (xs : List HostCall). length xs) quiet.made ∙ at.one }
rests-at core I2c calls new quiet lead =
    let led = subst (λ (xs : List HostCall). CallsLead (table_of core (OnI2c (Idle []))) xs new) quiet.made lead in
    record { leaves = record { bus = OnI2c (Idle []); same = led.1; none_waits = refl }; one = ap (λ (xs : List HostCall). length xs) quiet.made }
rests-at core Spi calls new quiet lead =
    let led = subst (λ (xs : List HostCall). CallsLead (table_of core (OnSpi Deselected)) xs new) quiet.made lead in
    record { leaves = record { bus = OnSpi Deselected; same = led.1; none_waits = refl }; one = ap (λ (xs : List HostCall). length xs) quiet.made }
