-- RW is erased and the padded image written, where nothing disturbs it.
use Rattle.std.proofs.Common.{◌≡◌, refl, sym, ap, ◌∙◌, subst, ℕ, zero, suc, ◌+◌, ◌-◌, ◌*◌, ◌/◌, ◌≤◌, Bool, true, false, not, nat_lt, if◌then◌else◌, List, ◌++◌, length, take, Ok, replicate, arith}
use Rattle.std.proofs.lemmas.Bool.Decides.{leb_tells}
use Rattle.std.proofs.lemmas.List.{length-append, length-take-le, length-replicate, take_all, drop_at}
use Rattle.ec_types.specs.LittleEndian.{AreBytes, u32_at}
use Rattle.ec_types.specs.Tables.{packet_limit}
use Rattle.ec_types.specs.declared.bus.BusKind.{BusKind}
use Rattle.ec_types.specs.declared.bus.BusKind.TheVariants.{Lpc, I2c, Spi}
use Rattle.ec_types.specs.declared.image.Fit.TheVariants.{Yes, Short, Long, Vector}
use Rattle.ec_model.specs.Asks.{Setting}
use Rattle.ec_model.specs.Image.{fit_of, padded}
use Rattle.ec_model.specs.Jump.{vector_in}
use Rattle.ec_model.specs.Ranges.{rw_range, part}
use Rattle.ec_model.specs.Table.{Core}
use Rattle.sync_rules.specs.Requests.{erase_request}
use Rattle.sync_rules.specs.Steps.{Confirms, piece_length, pieces, WritesFrom, Installs}
use Rattle.sync_laws.specs.Kept.{HoldsFitting}
use Rattle.sync_laws.specs.Written.{installed, install_room}
use Rattle.sync_laws.proofs.Blanks.{bytes-append, bytes-blank, written_to}
use Rattle.sync_laws.proofs.Erasing.{erase_room, can-erase}
use Rattle.sync_laws.proofs.KeptSteps.{IsSized}
use Rattle.sync_laws.proofs.Looked.{more-reaches}
use Rattle.sync_laws.proofs.Pieces.{IsSource, pieces_room, makes-then, pieces-make}
use Rattle.sync_laws.proofs.Writable.{IsReady, ready-stays, Makes, halved}

-- an image that fits is no longer than RW
not-long : (short long outside : Bool) → (if short then Short else if long then Long else if outside then Vector else Yes) ≡ Yes → long ≡ false
not-long true long outside is = absurd (cc)
not-long false true outside is = absurd (cc)
not-long false false outside is = refl

padded-length : (image : List ℕ) (size : ℕ) → fit_of image size ≡ Yes → length (padded image size) ≡ size / 2
padded-length image size fits =
    let test = not-long (nat_lt (length image) 8) (nat_lt (rw_range size).size (length image)) (not (vector_in (rw_range size) (u32_at 4 image))) fits in
    let within : length image ≤ size / 2 = grind (arith, leb_tells, test) in
    omega (arith, within, length-append image (replicate (size / 2 - length image) 0xFF), length-replicate {A = ℕ} (size / 2 - length image) 0xFF)

-- RW is to be written with this image
pub record IsToInstall (image : List ℕ) (core : Core) : Type 0 where
  pub sized : IsSized core
  pub fits : fit_of image (length core.flash) ≡ Yes
  pub are : AreBytes image

source-is : (image : List ℕ) (core : Core) → IsToInstall image core → IsSource image (length core.flash) (take (length core.flash / 2) core.flash)
source-is image core to =
    let size = length core.flash in
    let half = halved size to.sized.stated in
    record {
      half = half;
      long = padded-length image size to.fits;
      are = bytes-append image (replicate (size / 2 - length image) 0xFF) to.are (bytes-blank (size / 2 - length image));
      front_long = length-take-le (size / 2) core.flash (omega (arith, half.both));
    }

-- the room of the pieces
room-is : (left each : ℕ) → pieces_room left each ≡ left * each
room-is zero each = omega arith
room-is (suc left) each = ap (λ (n : ℕ). each + n) (room-is left each) ∙ grind arith

-- before the first piece RW is blank
none-written : (front bytes : List ℕ) (half none : ℕ) → none ≡ 0 → front ++ replicate half 0xFF ≡ written_to front (take none bytes) (half - none)
none-written front bytes half none is =
    let whole : half ≡ half - 0 = omega arith in
    subst (λ (n : ℕ). front ++ replicate half 0xFF ≡ written_to front (take n bytes) (half - n)) (sym is) (ap (λ (n : ℕ). front ++ replicate n 0xFF) whole)

room-enough : (bus : BusKind) (size : ℕ) → erase_room size + pieces_room (pieces (size / 2) (packet_limit bus - 16)) (packet_limit bus - 16 + 30) ≤ install_room bus size
room-enough Lpc size = omega (arith, room-is (pieces (size / 2) 240) 270)
room-enough I2c size = omega (arith, room-is (pieces (size / 2) 112) 142)
room-enough Spi size = omega (arith, room-is (pieces (size / 2) 528) 558)

pub can-install : (setting : Setting) (image : List ℕ) (core : Core) → IsReady core → IsToInstall image core → Makes setting (Installs setting image (length core.flash)) core (installed image core.flash) (install_room setting.bus (length core.flash))
can-install setting image core ready to =
    let size = length core.flash in
    let most = piece_length setting in
    let count = pieces (size / 2) most in
    let front = take (size / 2) core.flash in
    let made = makes-then setting (Confirms setting (erase_request (rw_range size))) (λ erased. WritesFrom count 0 setting image size) core (front ++ replicate (size / 2) 0xFF) (installed image core.flash) (erase_room size) (pieces_room count (most + 30))
    (can-erase setting core ready to.sized)
    (λ after becomes. pieces-make count 0 setting image size front after (source-is image core to) (omega arith) (ready-stays core after becomes.stays becomes.none ready) (becomes.flash_is ∙ none-written front (padded image size) (size / 2) (0 * most) (grind arith))) in
    record {
      after = made.after;
      becomes = made.becomes;
      reaches = more-reaches setting (Installs setting image size) core (Ok tt) made.after (erase_room size + pieces_room count (most + 30)) (install_room setting.bus size) (room-enough setting.bus size) made.reaches;
    }

-- the flash with the image has its size, and RW has the image
pub installed-length : (image : List ℕ) (core : Core) → IsToInstall image core → length (installed image core.flash) ≡ length core.flash
installed-length image core to =
    let source = source-is image core to in
    omega (arith, length-append (take (length core.flash / 2) core.flash) (padded image (length core.flash)), source.long, source.front_long, source.half.both)

part-behind : (front bytes : List ℕ) (half : ℕ) → length front ≡ half → length bytes ≡ half → part (record { at = half; size = half }) (front ++ bytes) ≡ bytes
part-behind front bytes half at long =
    let count : half + half - half ≡ half = omega arith in
    ap (take (half + half - half)) (drop_at front bytes half at) ∙ ap (λ (n : ℕ). take n bytes) count ∙ take_all half bytes (omega (arith, long))

pub installed-holds : (image : List ℕ) (core after : Core) → IsToInstall image core → after.flash ≡ installed image core.flash → HoldsFitting image after
installed-holds image core after to is =
    let size = length core.flash in
    let source = source-is image core to in
    let long : length after.flash ≡ size = ap (λ (xs : List ℕ). length xs) is ∙ installed-length image core to in
    record {
      fits = ap (fit_of image) long ∙ to.fits;
      holds = ap (λ (n : ℕ). part (rw_range n) after.flash) long ∙ ap (part (rw_range size)) is ∙ part-behind (take (size / 2) core.flash) (padded image size) (size / 2) source.front_long source.long ∙ ap (padded image) (sym long);
    }

-- a bound of its calls
pub install-few : (bus : BusKind) (size : ℕ) → size ≤ 4194304 → install_room bus size ≤ 2700000
install-few Lpc size most = omega (arith, most)
install-few I2c size most = omega (arith, most)
install-few Spi size most = omega (arith, most)
