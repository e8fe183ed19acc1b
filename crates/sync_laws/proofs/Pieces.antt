-- The padded image is written, piece by piece, where nothing disturbs it and RW is blank.
use Rattle.std.proofs.Common.{◌≡◌, refl, sym, ap, ◌∙◌, subst, ℕ, zero, suc, ◌+◌, ◌-◌, ◌*◌, ◌/◌, ◌%◌, ◌<◌, ◌≤◌, List, ◌++◌, length, take, drop, replicate, append-nil, Result, Ok, arith}
use Rattle.std.proofs.lemmas.List.{length-append, length-take, length-drop, length-replicate, take_all}
use Rattle.std.proofs.Math.Seq.{take-add}
use Rattle.ec_types.specs.LittleEndian.{AreBytes}
use Rattle.ec_types.specs.Tables.{packet_limit}
use Rattle.ec_types.specs.declared.bus.BusKind.{BusKind}
use Rattle.ec_types.specs.declared.bus.BusKind.TheVariants.{Lpc, I2c, Spi}
use Rattle.ec_model.specs.declared.event.Entry.{Entry}
use Rattle.ec_model.specs.Asks.{Setting}
use Rattle.ec_model.specs.HostCalls.{HostView}
use Rattle.ec_model.specs.Image.{padded}
use Rattle.ec_model.specs.Table.{Core}
use Rattle.sync_rules.specs.declared.ending.Stop.{Stop}
use Rattle.sync_rules.specs.Parts.{Then}
use Rattle.sync_rules.specs.Steps.{piece_length, pieces, piece, WritesPiece, WritesFrom}
use Rattle.sync_laws.proofs.Blanks.{bytes-drop, bytes-take, written_to}
use Rattle.sync_laws.proofs.Calmly.{then-reaches, gives-reaches}
use Rattle.sync_laws.proofs.Clearing.{Becomes, stays-then}
use Rattle.sync_laws.proofs.Writable.{IsReady, ready-stays, Makes, IsHalved}
use Rattle.sync_laws.proofs.Writing.{IsWithin, can-write}

-- one part that makes a flash, and another
pub makes-then : (setting : Setting) (first : HostView → List Entry → Result (Unit {0}) Stop → Type 0) (next : Unit {0} → HostView → List Entry → Result (Unit {0}) Stop → Type 0) (core : Core) (middle flash : List ℕ) (most more : ℕ) →
    Makes setting first core middle most → ((after : Core) → Becomes core middle after → Makes setting (next tt) after flash more) → Makes setting (Then first next) core flash (most + more)
makes-then setting first next core middle flash most more one two =
    let reached = two one.after one.becomes in
    record {
      after = reached.after;
      becomes = record { stays = stays-then core one.after reached.after one.becomes.stays reached.becomes.stays; none = reached.becomes.none; flash_is = reached.becomes.flash_is };
      reaches = then-reaches setting first next core one.after reached.after tt (Ok tt) most more one.reaches reached.reaches;
    }

-- where a piece lies: before the end of RW, at whole units; and the last piece reaches it
pub record IsPlace (most number half : ℕ) : Type 0 where
  pub before : number * most < half
  pub units : number * most % 4 ≡ 0
  pub next : (number + 1) * most ≡ number * most + most
  pub each : most % 4 ≡ 0
  pub some : 1 ≤ most

place-is : (bus : BusKind) (left number half : ℕ) → suc left + number ≡ pieces half (packet_limit bus - 16) → 1 ≤ half → IsPlace (packet_limit bus - 16) number half
place-is Lpc left number half is some = record { before = omega (arith, is, some); units = omega arith; next = omega arith; each = refl; some = omega arith }
place-is I2c left number half is some = record { before = omega (arith, is, some); units = omega arith; next = omega arith; each = refl; some = omega arith }
place-is Spi left number half is some = record { before = omega (arith, is, some); units = omega arith; next = omega arith; each = refl; some = omega arith }

ends-at : (bus : BusKind) (number half : ℕ) → number ≡ pieces half (packet_limit bus - 16) → half ≤ number * (packet_limit bus - 16)
ends-at Lpc number half is = omega (arith, is)
ends-at I2c number half is = omega (arith, is)
ends-at Spi number half is = omega (arith, is)

-- what is written, and where
pub record IsSource (image : List ℕ) (size : ℕ) (front : List ℕ) : Type 0 where
  pub half : IsHalved size
  pub long : length (padded image size) ≡ size / 2
  pub are : AreBytes (padded image size)
  pub front_long : length front ≡ size / 2

-- the calls of so many pieces
abbrev pub pieces_room : ℕ → ℕ → ℕ
pieces_room zero each = 0
pieces_room (suc left) each = each + pieces_room left each

-- the flash while RW is written has its size
whole-length : (front done : List ℕ) (rest : ℕ) → length (written_to front done rest) ≡ length front + (length done + rest)
whole-length front done rest = omega (arith, length-append front (done ++ replicate rest 0xFF), length-append done (replicate rest 0xFF), length-replicate {A = ℕ} rest 0xFF)

-- all of it is written
over : (bytes front : List ℕ) (count half : ℕ) → length bytes ≡ half → half ≤ count → written_to front (take count bytes) (half - count) ≡ front ++ bytes
over bytes front count half long all =
    ap (λ (xs : List ℕ). front ++ (xs ++ replicate (half - count) 0xFF)) (take_all count bytes (omega (arith, long, all)))
    ∙ ap (λ (n : ℕ). front ++ (bytes ++ replicate n 0xFF)) (none half count all) ∙ ap (λ (xs : List ℕ). front ++ xs) (append-nil bytes)
  where
    none : (half count : ℕ) → half ≤ count → half - count ≡ 0
    none half count all = omega (arith, all)

-- what is left behind a piece
rest-of : (bytes : List ℕ) (place most half : ℕ) → length bytes ≡ half → place < half → half - place ≡ length (take most (drop place bytes)) + (half - (place + most))
rest-of bytes place most half long before = omega (arith, long, before, length-take most (drop place bytes), length-drop place bytes)

-- a piece is within RW
within : (core : Core) (image : List ℕ) (size : ℕ) (front : List ℕ) (most number : ℕ) → IsSource image size front → IsPlace most number (size / 2) → most ≤ 528 → core.flash ≡ written_to front (take (number * most) (padded image size)) (size / 2 - number * most) →
    IsWithin core (size / 2 + number * most) (piece image size most (number * most))
within core image size front most number source place few flash =
    let bytes = padded image size in
    let at = number * most in
    let count = length-take most (drop at bytes) in
    let behind = length-drop at bytes in
    let before = length-take at bytes in
    let whole : length core.flash ≡ size = ap (λ (xs : List ℕ). length xs) flash ∙ whole-length front (take at bytes) (size / 2 - at) ∙ omega (arith, before, source.long, source.front_long, place.before, source.half.both) in
    record {
      some = omega (arith, count, behind, source.long, place.before, place.some);
      few = omega (arith, count, few);
      behind = omega (arith, whole);
      inside = omega (arith, whole, count, behind, source.long, source.half.both, place.before);
      small = omega (arith, whole, source.half.both, source.half.most);
      begins = omega (arith, source.half.blocks, place.units);
      whole = omega (arith, count, behind, source.long, source.half.blocks, place.units, place.each, place.before);
    }

-- a piece, and those behind it
pub piece-makes : (setting : Setting) (image : List ℕ) (size : ℕ) (front : List ℕ) (number : ℕ) (core : Core) → IsSource image size front → IsPlace (piece_length setting) number (size / 2) → piece_length setting ≤ 528 → IsReady core →
    core.flash ≡ written_to front (take (number * piece_length setting) (padded image size)) (size / 2 - number * piece_length setting) →
    Makes setting (WritesPiece setting size (piece image size (piece_length setting) (number * piece_length setting)) (number * piece_length setting)) core
    (written_to front (take ((number + 1) * piece_length setting) (padded image size)) (size / 2 - (number + 1) * piece_length setting)) (piece_length setting + 30)
piece-makes setting image size front number core source place few ready flash =
    let most = piece_length setting in
    let at = number * most in
    let bytes = padded image size in
    let next = piece image size most at in
    let rest = size / 2 - (at + most) in
    let left = rest-of bytes at most (size / 2) source.long place.before in
    let now : core.flash ≡ written_to front (take at bytes) (length next + rest) = flash ∙ ap (λ (n : ℕ). written_to front (take at bytes) n) left in
    let placed : length (front ++ take at bytes) ≡ size / 2 + at = omega (arith, length-append front (take at bytes), length-take at bytes, source.front_long, source.long, place.before) in
    let then_ : written_to front (take at bytes ++ next) rest ≡ written_to front (take ((number + 1) * most) bytes) (size / 2 - (number + 1) * most) =
    ap (λ (xs : List ℕ). written_to front xs rest) (sym (take-add at most bytes)) ∙ ap (λ (n : ℕ). written_to front (take n bytes) (size / 2 - n)) (sym place.next) in
    subst (λ (made : List ℕ). Makes setting (WritesPiece setting size next at) core made (most + 30)) then_
    (can-write setting size core at front (take at bytes) next rest (most + 30) ready (within core image size front most number source place few flash) (omega (arith, length-take most (drop at bytes))) (omega (arith, length-take most (drop at bytes))) (bytes-take most (drop at bytes) (bytes-drop at bytes source.are)) placed now)

few-of : (bus : BusKind) → packet_limit bus - 16 ≤ 528
few-of Lpc = omega arith
few-of I2c = omega arith
few-of Spi = omega arith

-- the rest of the pieces
pub pieces-make : (left number : ℕ) (setting : Setting) (image : List ℕ) (size : ℕ) (front : List ℕ) (core : Core) → IsSource image size front → left + number ≡ pieces (size / 2) (piece_length setting) → IsReady core →
    core.flash ≡ written_to front (take (number * piece_length setting) (padded image size)) (size / 2 - number * piece_length setting) → Makes setting (WritesFrom left number setting image size) core (front ++ padded image size) (pieces_room left (piece_length setting + 30))
pieces-make zero number setting image size front core source is ready flash = record {
  after = core;
  becomes = record { stays = record { pin_is = refl; copy_is = refl; ro_is = refl; all_is = refl; off_is = refl }; none = ready.none; flash_is = flash ∙ over (padded image size) front (number * piece_length setting) (size / 2) source.long (ends-at setting.bus number (size / 2) (omega (arith, is))) };
  reaches = gives-reaches setting (Ok tt) core;
}
pieces-make (suc left) number setting image size front core source is ready flash =
    let most = piece_length setting in
    let at = number * most in
    let place = place-is setting.bus left number (size / 2) is (omega (arith, source.half.least)) in
    makes-then setting (WritesPiece setting size (piece image size most at) at) (λ written. WritesFrom left (number + 1) setting image size) core
    (written_to front (take ((number + 1) * most) (padded image size)) (size / 2 - (number + 1) * most)) (front ++ padded image size) (most + 30) (pieces_room left (most + 30))
    (piece-makes setting image size front number core source place (few-of setting.bus) ready flash)
    (λ after becomes. pieces-make left (number + 1) setting image size front after source (omega (arith, is)) (ready-stays core after becomes.stays becomes.none ready) becomes.flash_is)
