-- The first poll of a send on LPC: it leaves the settled table, with a bus that is not busy.
use Rattle.std.proofs.Common.{◌≡◌, refl, sym, ap, ◌∙◌, subst, ℕ, Bool, true, false, ◌⊎◌, inl, inr, ◌||◌, ◌==◌, List, [], ◌∷◌, ◌++◌, replicate, arith, Some}
use Rattle.std.proofs.lemmas.Bool.Decides.{eqb_tells}
use Rattle.flash_dev.specs.Flash.{overwritten}
use Rattle.ec_types.specs.declared.bus.BusKind.TheVariants.{Lpc}
use Rattle.ec_types.specs.declared.reset.ResetCause.TheVariants.{Cold}
use Rattle.ec_model.specs.Packet.{response_packet}
use Rattle.ec_model.specs.Bus.{BusState, OnLpc, OnI2c, OnSpi, kind_of, is_busy, low_status}
use Rattle.ec_model.specs.HostCalls.{HostCall, Did, Waited}
use Rattle.ec_model.specs.Heard.{poll_end, waited_reads, spaced_reads}
use Rattle.ec_model.specs.SendLpc.{status_in}
use Rattle.ec_model.specs.Table.{Table, Core, IsBusValid, table_of}
use Rattle.ec_model.specs.Boot.{booted}
use Rattle.ec_model.specs.Answer.{Outcome, Answered, Restarts}
use Rattle.ec_model.specs.Handle.{handled}
use Rattle.ec_model.specs.WholeStep.{after_outcome}
use Rattle.ec_model.specs.Syncable.{settled}
use Rattle.exchange_laws.specs.Calm.{CallsLead}
use Rattle.exchange_laws.specs.Exchange.{lpc_status_seen, first_statuses}
use Rattle.exchange_laws.proofs.LpcLead.{lpc, tick-lead, ready-lead}

-- these statuses were seen on a table that is on LPC, and calls lead on from the settled table, whose bus is not busy
pub record Idled (table : Table) (statuses : List ℕ) (ready : Bool) (calls : List HostCall) (new : Table) : Type 0 where
  pub core : Core
  pub window : List ℕ
  pub status : ℕ
  pub outcome : ℕ
  pub same : settled table ≡ table_of core (lpc window status outcome)
  pub seen : statuses ≡ first_statuses table
  pub idle : is_busy status ≡ false
  pub ended : ready ≡ true
  pub lead : CallsLead (table_of core (lpc window status outcome)) calls new

-- a table on which no request waits is settled
settled-idle : (core : Core) (window : List ℕ) (status outcome : ℕ) → (status == 0x06) ≡ false → settled (table_of core (lpc window status outcome)) ≡ table_of core (lpc window status outcome)
settled-idle core window status outcome other = rw other refl

-- one status is seen on it
first-idle : (core : Core) (window : List ℕ) (status outcome : ℕ) → (status == 0x06) ≡ false → first_statuses (table_of core (lpc window status outcome)) ≡ status ∷ []
first-idle core window status outcome other = rw other refl

-- a table on which a request waits, once it was served
settled-served : (core : Core) (window : List ℕ) (outcome : ℕ) (result : Outcome) → handled core 256 window ≡ result →
    settled (table_of core (lpc window 0x06 outcome)) ≡ (after_outcome core (record { state = lpc window 0x06 outcome; answer = 0 }) 0 result).table
settled-served core window outcome result same = ap (λ (r : Outcome). (after_outcome core (record { state = lpc window 0x06 outcome; answer = 0 }) 0 r).table) same

-- two statuses are seen on it
first-served : (core : Core) (window : List ℕ) (outcome : ℕ) (table : Table) (byte next status : ℕ) (bytes : List ℕ) → settled (table_of core (lpc window 0x06 outcome)) ≡ table → byte ≡ 0x06 → next ≡ status → lpc_status_seen table ≡ status → bytes ≡ [] →
    byte ∷ next ∷ bytes ≡ first_statuses (table_of core (lpc window 0x06 outcome))
first-served core window outcome table byte next status bytes same first second shown none =
    let third : next ≡ lpc_status_seen (settled (table_of core (lpc window 0x06 outcome))) = second ∙ sym shown ∙ ap (λ (t : Table). lpc_status_seen t) (sym same) in
    rw (first, none) (ap (λ (n : ℕ). 0x06 ∷ n ∷ []) third)

-- no request waits
idle-lead : (core : Core) (window : List ℕ) (status outcome : ℕ) (statuses : List ℕ) (ready : Bool) (calls : List HostCall) (new : Table) → is_busy status ≡ false → (status == 0x06) ≡ false → poll_end is_busy 5 statuses ≡ Some ready →
    CallsLead (table_of core (lpc window status outcome)) (spaced_reads status_in statuses ++ calls) new → Idled (table_of core (lpc window status outcome)) statuses ready calls new
idle-lead core window status outcome [] ready calls new idle other polled lead = absurd (cc)
idle-lead core window status outcome (byte ∷ bytes) ready calls new idle other polled lead =
    let end = ready-lead core window status outcome 4 byte bytes ready calls new idle polled lead in
    record {
      core = core;
      window = window;
      status = status;
      outcome = outcome;
      same = settled-idle core window status outcome other;
      seen = ap (λ (first : ℕ). first ∷ bytes) end.shown ∙ ap (λ (others : List ℕ). status ∷ others) end.none ∙ sym (first-idle core window status outcome other);
      idle = idle;
      ended = end.ended;
      lead = end.lead;
    }

-- a request waits, and the first wait has it handled
served-lead : (core : Core) (window : List ℕ) (outcome byte next : ℕ) (bytes : List ℕ) (ready : Bool) (calls : List HostCall) (new : Table) (result : Outcome) → handled core 256 window ≡ result → byte ≡ 0x06 → poll_end is_busy 4 (next ∷ bytes) ≡ Some ready →
    CallsLead (table_of core (lpc window 0x06 outcome)) (Waited ∷ Did status_in next ∷ (waited_reads status_in bytes ++ calls)) new → Idled (table_of core (lpc window 0x06 outcome)) (byte ∷ next ∷ bytes) ready calls new
served-lead core window outcome byte next bytes ready calls new (Answered after status body) same first polled lead =
    let reply = response_packet status body in
    let moved = tick-lead core window outcome (Answered after status body) (Did status_in next ∷ (waited_reads status_in bytes ++ calls)) new same lead in
    let end = ready-lead after (overwritten 0 reply window) 0x01 (low_status reply) 3 next bytes ready calls new refl polled moved in
    let served = settled-served core window outcome _ same in
    record {
      core = after;
      window = overwritten 0 reply window;
      status = 0x01;
      outcome = low_status reply;
      same = served;
      seen = first-served core window outcome _ byte next 0x01 bytes served first end.shown refl end.none;
      idle = refl;
      ended = end.ended;
      lead = end.lead;
    }
served-lead core window outcome byte next bytes ready calls new Restarts same first polled lead =
    let fresh = booted core.flash core.pin Cold false in
    let moved = tick-lead core window outcome Restarts (Did status_in next ∷ (waited_reads status_in bytes ++ calls)) new same lead in
    let end = ready-lead fresh (replicate 256 0) 0 0 3 next bytes ready calls new refl polled moved in
    let served = settled-served core window outcome _ same in
    record {
      core = fresh;
      window = replicate 256 0;
      status = 0;
      outcome = 0;
      same = served;
      seen = first-served core window outcome _ byte next 0 bytes served first end.shown refl end.none;
      idle = refl;
      ended = end.ended;
      lead = end.lead;
    }

-- a poll while a request waits
busy-lead : (core : Core) (window : List ℕ) (outcome : ℕ) (statuses : List ℕ) (ready : Bool) (calls : List HostCall) (new : Table) → poll_end is_busy 5 statuses ≡ Some ready →
    CallsLead (table_of core (lpc window 0x06 outcome)) (spaced_reads status_in statuses ++ calls) new → Idled (table_of core (lpc window 0x06 outcome)) statuses ready calls new
busy-lead core window outcome [] ready calls new polled lead = absurd (cc)
busy-lead core window outcome (byte ∷ []) ready calls new polled lead =
    let seen : is_busy byte ≡ true = ap (λ (n : ℕ). is_busy n) lead.0 in
    let ended = rw seen at polled in
    absurd (cc)
busy-lead core window outcome (byte ∷ next ∷ bytes) ready calls new polled lead =
    let seen : is_busy byte ≡ true = ap (λ (n : ℕ). is_busy n) lead.0 in
    let ended = rw seen at polled in
    served-lead core window outcome byte next bytes ready calls new (handled core 256 window) refl lead.0 ended lead.1

-- a valid status is one of three
which : (status : ℕ) → ((status == 0x00) || (status == 0x01) || (status == 0x06)) ≡ true → (status ≡ 0) ⊎ ((status ≡ 1) ⊎ (status ≡ 6))
which status shown = grind (arith, eqb_tells)

-- a poll, by the status
by-status : (core : Core) (window : List ℕ) (status outcome : ℕ) (statuses : List ℕ) (ready : Bool) (calls : List HostCall) (new : Table) → (status ≡ 0) ⊎ ((status ≡ 1) ⊎ (status ≡ 6)) → poll_end is_busy 5 statuses ≡ Some ready →
    CallsLead (table_of core (lpc window status outcome)) (spaced_reads status_in statuses ++ calls) new → Idled (table_of core (lpc window status outcome)) statuses ready calls new
by-status core window status outcome statuses ready calls new (inl none) polled lead = idle-lead core window status outcome statuses ready calls new (rw none refl) (rw none refl) polled lead
by-status core window status outcome statuses ready calls new (inr (inl replied)) polled lead = idle-lead core window status outcome statuses ready calls new (rw replied refl) (rw replied refl) polled lead
by-status core window status outcome statuses ready calls new (inr (inr waiting)) polled lead =
    let family : ℕ → Type 0 = λ n. CallsLead (table_of core (lpc window n outcome)) (spaced_reads status_in statuses ++ calls) new → Idled (table_of core (lpc window n outcome)) statuses ready calls new in
    let at_six : family 6 = λ six. busy-lead core window outcome statuses ready calls new polled six in
    subst family (sym waiting) at_six lead

-- the first poll leaves the settled table
pub idled : (core : Core) (bus : BusState) (statuses : List ℕ) (ready : Bool) (calls : List HostCall) (new : Table) → kind_of bus ≡ Lpc → IsBusValid bus → poll_end is_busy 5 statuses ≡ Some ready →
    CallsLead (table_of core bus) (spaced_reads status_in statuses ++ calls) new → Idled (table_of core bus) statuses ready calls new
idled core (OnLpc state) statuses ready calls new kind valid polled lead = by-status core state.window state.status state.outcome statuses ready calls new (which state.status valid.1) polled lead
idled core (OnI2c state) statuses ready calls new kind valid polled lead = absurd (cc)
idled core (OnSpi state) statuses ready calls new kind valid polled lead = absurd (cc)
