-- A send on SPI to a controller that is off, where nothing disturbs it, hears nothing.
use Rattle.std.proofs.Common.{◌≡◌, sym, ap, ◌∙◌, subst, ℕ, Bool, true, false, ◌==◌, List, [], ◌∷◌, ◌++◌, append_assoc, Some}
use Rattle.ec_model.specs.declared.event.Access.TheVariants.{SpiByte, SpiDeselect}
use Rattle.ec_model.specs.HostCalls.{HostCall, Did, Waited}
use Rattle.ec_model.specs.Heard.{Heard, Silent, poll_end, last_byte, waited_reads, spaced_reads, reads_in_row}
use Rattle.ec_model.specs.SendSpi.{is_spi_waiting, heard_without, SpiSend, SpiWasUnserved, SpiWasServed}
use Rattle.ec_model.specs.Table.{Table, Off}
use Rattle.exchange_laws.specs.Calm.{CallsLead}
use Rattle.exchange_laws.proofs.OffLead.{off-did, off-waited}
use Rattle.exchange_laws.proofs.SpiMakes.{regroup}

-- calls behind others
off-behind : (table : Table) (calls more : List HostCall) (new : Table) → table.power ≡ Off → CallsLead table (calls ++ more) new → CallsLead table more new
off-behind table [] more new off lead = lead
off-behind table (Did access byte ∷ calls) more new off lead = off-behind table calls more new off (off-did table access byte (calls ++ more) new off lead).1
off-behind table (Waited ∷ calls) more new off lead = off-behind table calls more new off (off-waited table (calls ++ more) new off lead)

-- a poll ends with its first byte
off-last : (table : Table) (answers : List ℕ) (ready : Bool) (tail : List HostCall) (new : Table) → table.power ≡ Off → poll_end is_spi_waiting 5 answers ≡ Some ready → CallsLead table (spaced_reads (SpiByte 0) answers ++ tail) new → last_byte answers ≡ 0xFF
off-last table [] ready tail new off polled lead = absurd (cc)
off-last table (byte ∷ []) ready tail new off polled lead = (off-did table (SpiByte 0) byte tail new off lead).0
off-last table (byte ∷ next ∷ bytes) ready tail new off polled lead =
    let got = off-did table (SpiByte 0) byte (waited_reads (SpiByte 0) (next ∷ bytes) ++ tail) new off lead in
    let seen : is_spi_waiting byte ≡ false = ap (λ (n : ℕ). is_spi_waiting n) got.0 in
    let ended = rw seen at polled in
    absurd (cc)

-- a send hears nothing
pub spi-off : (table : Table) (packet : List ℕ) (calls : List HostCall) (heard : Heard) (new : Table) → table.power ≡ Off → SpiSend packet calls heard → CallsLead table calls new → heard ≡ Silent
spi-off table packet calls heard new off (SpiWasUnserved unserved) lead =
    let poll = spaced_reads (SpiByte 0) unserved.answers in
    let stop : List HostCall = Did SpiDeselect unserved.stopped ∷ [] in
    let led = subst (λ (xs : List HostCall). CallsLead table xs new) (unserved.made ∙ append_assoc unserved.first poll stop) lead in
    let last = off-last table unserved.answers unserved.ready stop new off unserved.polled (off-behind table unserved.first (poll ++ stop) new off led) in
    unserved.heard_is ∙ ap (λ (n : ℕ). heard_without n) last
spi-off table packet calls heard new off (SpiWasServed served) lead =
    let poll = spaced_reads (SpiByte 0) served.answers in
    let reads = reads_in_row (SpiByte 0) served.bytes in
    let stop : List HostCall = Did SpiDeselect served.stopped ∷ [] in
    let led = subst (λ (xs : List HostCall). CallsLead table xs new) (served.made ∙ sym (regroup served.first poll reads stop)) lead in
    let last = off-last table served.answers true (reads ++ stop) new off served.polled (off-behind table served.first (poll ++ (reads ++ stop)) new off led) in
    absurd (let e : true ≡ false = ap (λ (n : ℕ). n == 0xEC) (sym served.replied ∙ last) in cc)
