-- Every step keeps a valid table valid.
use Rattle.std.proofs.Common.{◌≡◌, refl, subst, ℕ, ◌+◌, Bool, true, false, not, ◌&&◌, ◌==◌, List, [], length, drop, arith, Option, Some, None, Result, Ok, Err}
use Rattle.std.specs.Prelude.{is_none, is_some}
use Rattle.ec_types.specs.LittleEndian.{u32_at}
use Rattle.ec_types.specs.declared.bus.BusKind.{BusKind}
use Rattle.ec_types.specs.declared.bus.BusKind.TheVariants.{Lpc, I2c, Spi}
use Rattle.ec_types.specs.declared.reset.ResetCause.{ResetCause}
use Rattle.ec_model.specs.declared.live.EraseJob.{EraseJob}
use Rattle.ec_model.specs.declared.live.HashView.TheVariants.{Busy}
use Rattle.ec_model.specs.Ranges.{is_flash_size, rw_range}
use Rattle.ec_model.specs.Packet.{RequestView, framing}
use Rattle.ec_model.specs.Commands.{Command, CommandLine, line_of, offers, is_spelled, is_write_spelled, is_answered_while_erasing, Comms, FlashWrite, FlashProtect, Resend}
use Rattle.ec_model.specs.Bus.{BusState, fresh_bus}
use Rattle.ec_model.specs.Table.{Core, Valid, IsBusValid, IsHashable, ticks_of, table_of}
use Rattle.ec_model.specs.Boot.{booted, booted_table, boots_ro_locked}
use Rattle.ec_model.specs.Stored.{stored}
use Rattle.ec_model.specs.Operations.{pieces}
use Rattle.ec_model.specs.FlashRows.{write_refusal, write_operations}
use Rattle.ec_model.specs.Handle.{Admitted, admitted_by, admitted_from, asked, row, row_of, row_operations, operations_by, handled}
use Rattle.ec_model.proofs.GuardLemmas.{AllAbove}
use Rattle.ec_model.proofs.GuardSteps.{if_cases, and_parts, accepted, same_size, pieces-above}
use Rattle.ec_model.proofs.GuardStep.{size_bound}
use Rattle.ec_model.proofs.GuardWork.{passed, ok-injective, spelled_from}
use Rattle.ec_model.proofs.ValidRows.{IsCoreValid, ValidOutcome, row-valid, resend-valid, protect-inside}
use Rattle.ec_model.proofs.ShortRows.{IsShort, row-short}

-- a valid core with a valid bus is a valid table
pub valid_table : (core : Core) (bus : BusState) → IsCoreValid core → IsBusValid bus → Valid (table_of core bus)
valid_table core bus valid bus_valid =
    record { size = valid.size; power = record { all_with_ro = valid.all_with_ro; jumped = valid.jumped; erase = valid.erase; hash = valid.hash; saved = valid.saved; bus_kind = refl; bus = bus_valid } }

-- a fresh bus is valid
fresh-valid : (kind : BusKind) → IsBusValid (fresh_bus kind)
fresh-valid Lpc = (refl, refl)
fresh-valid I2c = omega arith
fresh-valid Spi = tt

-- the hash that a boot begins lies in the flash, and has all its ticks to come
hashed-valid : (size : ℕ) → is_flash_size size ≡ true → IsHashable size (Busy (rw_range size).at (rw_range size).size (ticks_of (rw_range size).size)) []
hashed-valid size allowed =
    let large = size_bound size allowed in
    (omega arith, omega arith, omega arith, omega arith, omega arith)

-- a boot gives a valid core
booted-valid : (flash : List ℕ) (pin : Bool) (cause : ResetCause) (unread : Bool) → is_flash_size (length flash) ≡ true → IsCoreValid (booted flash pin cause unread)
booted-valid flash pin cause unread size =
    record {
      size = size;
      all_with_ro = λ all. (and_parts (boots_ro_locked flash pin unread) (not unread) (and_parts (boots_ro_locked flash pin unread && not unread) (stored flash).all all).0).0;
      jumped = λ runs. cc;
      erase = tt;
      hash = hashed-valid (length flash) size;
      saved = omega arith;
    }

pub booted-table-valid : (flash : List ℕ) (pin : Bool) (kind : BusKind) (cause : ResetCause) (unread : Bool) → is_flash_size (length flash) ≡ true → Valid (booted_table flash pin kind cause unread)
booted-table-valid flash pin kind cause unread size = valid_table (booted flash pin cause unread) (fresh_bus kind) (booted-valid flash pin cause unread size) (fresh-valid kind)

-- what is admitted while an erase is pending is answered then
free_by : (core : Core) (request : RequestView) (line : Option CommandLine) (found : Admitted) → admitted_by core request line ≡ Ok found → (is_some core.live.erase && not (is_answered_while_erasing found.command)) ≡ false
free_by core request None found same = cc
free_by core request (Some line) found same =
    let one = passed (not (offers line.mask request.version)) 6 _ found same in
    let two = passed (is_some core.live.erase && not (is_answered_while_erasing line.command)) 16 _ found one.1 in
    let three = passed (not (is_spelled line.command request.version request.body)) 3 _ found two.1 in
    let it = ok-injective (record { command = line.command; version = request.version; body = request.body }) found three.1 in
    subst (λ (a : Admitted). (is_some core.live.erase && not (is_answered_while_erasing a.command)) ≡ false) it two.0

free_from : (core : Core) (framed : Result RequestView ℕ) (found : Admitted) → admitted_from core framed ≡ Ok found → (is_some core.live.erase && not (is_answered_while_erasing found.command)) ≡ false
free_from core (Err status) found same = cc
free_from core (Ok request) found same = free_by core request (line_of request.command) found same

-- no erase is pending
none_of : (job : Option EraseJob) → (is_some job && true) ≡ false → job ≡ None
none_of None free = refl
none_of (Some job) free = cc

admitted-valid : (core : Core) (limit : ℕ) (command : Command) (version : ℕ) (body : List ℕ) → IsCoreValid core → is_spelled command version body ≡ true → (is_some core.live.erase && not (is_answered_while_erasing command)) ≡ false → ValidOutcome (row core limit command version body)
admitted-valid core limit Comms version body valid spelled free = valid
admitted-valid core limit Resend version body valid spelled free = resend-valid core valid
admitted-valid core limit command version body valid spelled free = row-valid core limit command version body valid spelled (none_of core.live.erase free)

row_of-valid : (core : Core) (limit : ℕ) (result : Result Admitted ℕ) → IsCoreValid core
    → ((found : Admitted) → result ≡ Ok found → is_spelled found.command found.version found.body ≡ true)
    → ((found : Admitted) → result ≡ Ok found → (is_some core.live.erase && not (is_answered_while_erasing found.command)) ≡ false) → ValidOutcome (row_of core limit result)
row_of-valid core limit (Err status) valid spelled free = valid
row_of-valid core limit (Ok found) valid spelled free = admitted-valid core limit found.command found.version found.body valid (spelled found refl) (free found refl)

pub handled-valid : (core : Core) (limit : ℕ) (bytes : List ℕ) → IsCoreValid core → ValidOutcome (handled core limit bytes)
handled-valid core limit bytes valid = row_of-valid core limit (asked core bytes) valid (spelled_from core (framing bytes)) (free_from core (framing bytes))

pub row_of-short : (core : Core) (result : Result Admitted ℕ) → IsCoreValid core → IsShort (row_of core 256 result)
row_of-short core (Err status) valid = omega arith
row_of-short core (Ok found) valid = row-short core found.command found.version found.body valid.hash

-- the operations of a write lie in the flash
write-inside : (core : Core) (version : ℕ) (body : List ℕ) → is_write_spelled body ≡ true → AllAbove 0 (length core.flash) (write_operations core version body)
write-inside core version body spelled =
    if_cases (AllAbove 0 (length core.flash)) (is_none (write_refusal core version body)) (pieces (u32_at 0 body) (drop 8 body)) []
    (λ none.
    let ok = accepted core version body none in
    let size = (and_parts _ (length body == 8 + u32_at 4 body) spelled).1 in
    pieces-above (length (drop 8 body)) 0 (length core.flash) (u32_at 0 body) (drop 8 body) (omega arith) (same_size core body size ok.inside))
    (λ some. tt)

row_operations-inside : (core : Core) (command : Command) (version : ℕ) (body : List ℕ) → IsCoreValid core → is_spelled command version body ≡ true → AllAbove 0 (length core.flash) (row_operations core command version body)
row_operations-inside core FlashWrite version body valid spelled = write-inside core version body spelled
row_operations-inside core FlashProtect version body valid spelled = protect-inside core (u32_at 0 body) (u32_at 4 body) valid
row_operations-inside core other version body valid spelled = tt

pub operations_by-inside : (core : Core) (result : Result Admitted ℕ) → IsCoreValid core → ((found : Admitted) → result ≡ Ok found → is_spelled found.command found.version found.body ≡ true) → AllAbove 0 (length core.flash) (operations_by core result)
operations_by-inside core (Err status) valid spelled = tt
operations_by-inside core (Ok found) valid spelled = row_operations-inside core found.command found.version found.body valid (spelled found refl)
