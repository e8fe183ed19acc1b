-- FLASH_WRITE of a piece of the image, where nothing disturbs it and RW is blank there.
use Rattle.std.proofs.Common.{◌≡◌, refl, ap, ◌∙◌, ℕ, ◌+◌, ◌-◌, ◌/◌, ◌%◌, ◌<◌, ◌≤◌, ◌^◌, ◌||◌, ◌&&◌, ◌==◌, Bool, true, false, not, nat_lt, nat_le, if◌then◌else◌, List, [], ◌++◌, length, Option, Some, None, Ok, arith}
use Rattle.std.proofs.lemmas.Bool.Decides.{leb_tells}
use Rattle.ec_types.specs.LittleEndian.{AreBytes, u32_at}
use Rattle.ec_types.specs.Tables.{packet_limit}
use Rattle.ec_types.specs.declared.bus.BusKind.{BusKind}
use Rattle.ec_types.specs.declared.bus.BusKind.TheVariants.{Lpc, I2c, Spi}
use Rattle.flash_dev.specs.Flash.{programmed}
use Rattle.ec_model.specs.Answer.{Outcome, Answered, unless_refused, done}
use Rattle.ec_model.specs.Asks.{Setting, packet_of}
use Rattle.ec_model.specs.Bodies.{flash_write_ask}
use Rattle.ec_model.specs.Bus.{largest_body}
use Rattle.ec_model.specs.Commands as table
use Rattle.ec_model.specs.Commands.{is_write_spelled}
use Rattle.ec_model.specs.FlashRows.{asked_range, is_whole_units, written, flash_write_row}
use Rattle.ec_model.specs.Handle.{handled}
use Rattle.ec_model.specs.Packet.{request_packet}
use Rattle.ec_model.specs.Ranges.{Range}
use Rattle.ec_model.specs.Table.{Core, is_blocked}
use Rattle.exchange_laws.proofs.Response.{eq-true}
use Rattle.exchange_laws.proofs.Spelled.{plain-spelled}
use Rattle.command_laws.specs.Commands.{IsProper}
use Rattle.sync_rules.specs.Parts.{Gives, When}
use Rattle.sync_rules.specs.Replies.{confirmed}
use Rattle.sync_rules.specs.Requests.{write_request}
use Rattle.sync_rules.specs.Steps.{Confirms, is_blank, WritesPiece}
use Rattle.sync_laws.proofs.Blanks.{written_to, program-more, blank-more}
use Rattle.sync_laws.proofs.Calmly.{gives-reaches}
use Rattle.sync_laws.proofs.Clearing.{Becomes, touched-is}
use Rattle.sync_laws.proofs.Looked.{more-reaches}
use Rattle.sync_laws.proofs.Proper.{wanted-of}
use Rattle.sync_laws.proofs.Rows.{unless_pending, numbered-row}
use Rattle.sync_laws.proofs.Sealing.{any-room, quick-reaches}
use Rattle.sync_laws.proofs.Writable.{IsReady, Makes, not-blocked, whole-units, bare-length}

-- a piece is a body that the command may have, and fits the bus
most-of : (bus : BusKind) (count : ℕ) → count ≤ packet_limit bus - 16 → (count ≤ 528) × (16 + count ≤ packet_limit bus)
most-of Lpc count few = (omega (arith, few), omega (arith, few))
most-of I2c count few = (omega (arith, few), omega (arith, few))
most-of Spi count few = (omega (arith, few), omega (arith, few))

-- FLASH_WRITE
ask-length : (at : ℕ) (bytes : List ℕ) → length (flash_write_ask at bytes) ≡ 8 + length bytes
ask-length at bytes = omega arith

count-asked : (at : ℕ) (bytes : List ℕ) → length bytes ≤ 528 → u32_at 4 (flash_write_ask at bytes) ≡ length bytes
count-asked at bytes few = omega (arith, few)

write-spelled : (at : ℕ) (bytes : List ℕ) → length bytes ≤ 528 → is_write_spelled (flash_write_ask at bytes) ≡ true
write-spelled at bytes few =
    let whole : nat_le (length (flash_write_ask at bytes)) largest_body ≡ true = grind (arith, leb_tells, few, ask-length at bytes) in
    let same : (length (flash_write_ask at bytes) == 8 + u32_at 4 (flash_write_ask at bytes)) ≡ true = eq-true (length (flash_write_ask at bytes)) (8 + u32_at 4 (flash_write_ask at bytes)) (omega (arith, ask-length at bytes, count-asked at bytes few)) in
    rw (whole, same) refl

write-row : (core : Core) (limit at : ℕ) (bytes : List ℕ) → length bytes ≤ 528 → handled core limit (request_packet 0x12 1 (flash_write_ask at bytes)) ≡ unless_pending core (flash_write_row core 1 (flash_write_ask at bytes))
write-row core limit at bytes few = numbered-row core limit 0x12 1 (flash_write_ask at bytes) table.FlashWrite 3 (omega arith) (omega (arith, few, ask-length at bytes)) refl refl refl (write-spelled at bytes few)

write-proper : (bus : BusKind) (at : ℕ) (bytes : List ℕ) → length bytes ≤ packet_limit bus - 16 → IsProper bus (write_request at bytes) 0
write-proper bus at bytes few =
    let body = flash_write_ask at bytes in
    let fit = most-of bus (length bytes) few in
    record {
      fits = record { plain = plain-spelled 0x12 1 body (omega arith) (omega (arith, fit.0, ask-length at bytes)) refl; short = omega (arith, fit.1, ask-length at bytes) };
      number = omega arith;
      body = omega (arith, fit.0, ask-length at bytes);
      steady = refl;
      wanted = wanted-of bus (write_request at bytes) 0 (λ core limit. flash_write_row core 1 body) (λ core limit. write-row core limit at bytes fit.0) (λ core limit. bare-length _ core _ 0);
    }

-- what is asked
range-asked : (at : ℕ) (bytes : List ℕ) → at < 2 ^ 32 → length bytes ≤ 528 → asked_range (flash_write_ask at bytes) ≡ record { at = at; size = length bytes }
range-asked at bytes low few =
    let first : u32_at 0 (flash_write_ask at bytes) ≡ at = omega (arith, low) in
    rw (first, count-asked at bytes few) refl

abbrev row_by : Core → List ℕ → Range → Outcome
row_by core bytes range =
    unless_refused (if not (is_whole_units 4 core range) || ((1 == 0) && nat_lt 64 range.size) then Some 3 else if is_blocked (length core.flash) core.live range then Some 4 else None) core
    (done (written range.at bytes core))

allowed : (whole more blocked : Bool) → whole ≡ true → blocked ≡ false → ◌≡◌ {A = Option ℕ} (if not whole || ((1 == 0) && more) then Some 3 else if blocked then Some 4 else None) None
allowed true more false is free = refl
allowed false more blocked is free = absurd (cc)
allowed true more true is free = absurd (cc)

-- where a piece may be written
pub record IsWithin (core : Core) (at : ℕ) (bytes : List ℕ) : Type 0 where
  pub some : 1 ≤ length bytes
  pub few : length bytes ≤ 528
  pub behind : length core.flash / 2 ≤ at
  pub inside : at + length bytes ≤ length core.flash
  pub small : length core.flash < 2 ^ 32
  pub begins : at % 4 ≡ 0
  pub whole : length bytes % 4 ≡ 0

writes : (core : Core) (at : ℕ) (bytes : List ℕ) → IsReady core → IsWithin core at bytes → flash_write_row core 1 (flash_write_ask at bytes) ≡ Answered (written at bytes core) 0 []
writes core at bytes ready within =
    let range : Range = record { at = at; size = length bytes } in
    ap (row_by core bytes) (range-asked at bytes (omega (arith, within.some, within.inside, within.small)) within.few)
    ∙ ap (λ (refusal : Option ℕ). unless_refused refusal core (done (written at bytes core)))
    (allowed (is_whole_units 4 core range) (nat_lt 64 (length bytes)) (is_blocked (length core.flash) core.live range) (whole-units 4 core range within.some within.begins within.whole within.inside) (not-blocked core range ready within.behind))

written-is : (core : Core) (at : ℕ) (bytes flash : List ℕ) → IsReady core → programmed at bytes core.flash ≡ flash → Becomes core flash (written at bytes core)
written-is core at bytes flash ready is =
    let touch = touched-is (record { at = at; size = length bytes }) core in
    let same = touch.stays in
    record {
      stays = record { pin_is = same.pin_is; copy_is = same.copy_is; ro_is = same.ro_is; all_is = same.all_is; off_is = same.off_is };
      none = touch.erase_is ∙ ready.none;
      flash_is = is;
    }

write-reaches : (setting : Setting) (core : Core) (at : ℕ) (bytes flash : List ℕ) (room : ℕ) → IsReady core → IsWithin core at bytes → length bytes ≤ packet_limit setting.bus - 16 → length bytes + 30 ≤ room → programmed at bytes core.flash ≡ flash →
    Makes setting (Confirms setting (write_request at bytes)) core flash room
write-reaches setting core at bytes flash room ready within fits enough is =
    let limit = packet_limit setting.bus in
    let row = write-row core limit at bytes within.few ∙ ap (unless_pending core) (writes core at bytes ready within) in
    record {
      after = written at bytes core;
      becomes = written-is core at bytes flash ready is;
      reaches = quick-reaches setting (write_request at bytes) 0 confirmed core (written at bytes core) [] (Ok tt) room (write-proper setting.bus at bytes fits) ready.none row refl
          (omega (arith, enough, ask-length at bytes, any-room setting.bus (length (packet_of (write_request at bytes))) 8));
    }

-- a piece, which is blank or is written
piece-by : (setting : Setting) (size : ℕ) (core : Core) (place : ℕ) (front before bytes : List ℕ) (rest room : ℕ) → (blank : Bool) → is_blank bytes ≡ blank → IsReady core → IsWithin core (size / 2 + place) bytes → length bytes ≤ packet_limit setting.bus - 16 → length bytes + 30 ≤ room → AreBytes bytes →
    length (front ++ before) ≡ size / 2 + place → core.flash ≡ written_to front before (length bytes + rest) →
    Makes setting (When blank (Gives (Ok tt)) (Confirms setting (write_request (size / 2 + place) bytes))) core (written_to front (before ++ bytes) rest) room
piece-by setting size core place front before bytes rest room true is ready within fits enough are at flash = record {
  after = core;
  becomes = record { stays = record { pin_is = refl; copy_is = refl; ro_is = refl; all_is = refl; off_is = refl }; none = ready.none; flash_is = flash ∙ blank-more front before bytes rest is };
  reaches = more-reaches setting (Gives (Ok tt)) core (Ok tt) core 0 room (omega arith) (gives-reaches setting (Ok tt) core);
}
piece-by setting size core place front before bytes rest room false is ready within fits enough are at flash =
    write-reaches setting core (size / 2 + place) bytes (written_to front (before ++ bytes) rest) room ready within fits enough (ap (λ (old : List ℕ). programmed (size / 2 + place) bytes old) flash ∙ program-more (size / 2 + place) front before bytes rest at are)

pub can-write : (setting : Setting) (size : ℕ) (core : Core) (place : ℕ) (front before bytes : List ℕ) (rest room : ℕ) → IsReady core → IsWithin core (size / 2 + place) bytes → length bytes ≤ packet_limit setting.bus - 16 → length bytes + 30 ≤ room → AreBytes bytes →
    length (front ++ before) ≡ size / 2 + place → core.flash ≡ written_to front before (length bytes + rest) → Makes setting (WritesPiece setting size bytes place) core (written_to front (before ++ bytes) rest) room
can-write setting size core place front before bytes rest room ready within fits enough are at flash =
    piece-by setting size core place front before bytes rest room (is_blank bytes) refl ready within fits enough are at flash
