-- The looks at a hash that nothing disturbs: the hash of RW is told once it is finished.
use Rattle.std.proofs.Common.{◌≡◌, refl, ap, ◌∙◌, ℕ, ◌+◌, ◌*◌, ◌/◌, ◌<◌, ◌≤◌, ◌^◌, ◌&&◌, Bool, true, List, [], ◌∷◌, ◌++◌, length, take, drop, replicate, Some, None, Result, Ok, arith, ◌==◌, false}
use Rattle.std.specs.Prelude.{slice_index}
use Rattle.std.specs.Str.{bytes_eq}
use Rattle.std.proofs.lemmas.List.{drop_at, take_at, length-append}
use Rattle.sha2.proofs.Facts256.{length-sha256}
use Rattle.ec_types.specs.LittleEndian.{u32_bytes}
use Rattle.ec_types.specs.Tables.{packet_limit}
use Rattle.ec_types.specs.declared.bus.BusKind.{BusKind}
use Rattle.ec_types.specs.declared.bus.BusKind.TheVariants.{Lpc, I2c, Spi}
use Rattle.ec_model.specs.declared.live.HashView.TheVariants.{Busy, Done}
use Rattle.ec_model.specs.Answer.{Answered}
use Rattle.ec_model.specs.declared.event.Entry.{Entry}
use Rattle.ec_model.specs.Asks.{Setting, packet_of}
use Rattle.ec_model.specs.HostCalls.{HostView}
use Rattle.ec_model.specs.Handle.{handled}
use Rattle.ec_model.specs.HashRow.{hash_bytes}
use Rattle.ec_model.specs.Packet.{RequestView}
use Rattle.ec_model.specs.Ranges.{rw_range, part}
use Rattle.ec_model.specs.Table.{Core, ticks_of}
use Rattle.ec_model.specs.Tries.{resend_request}
use Rattle.exchange_laws.proofs.Response.{eq-true}
use Rattle.host_framing.specs.Room.{send_room}
use Rattle.command_laws.specs.Carried.{led_on, handled_idle}
use Rattle.command_laws.specs.Room.{ask_room, led_room, idle_room, try_room, command_room}
use Rattle.sync_rules.specs.declared.ending.Aim.{Aim}
use Rattle.sync_rules.specs.declared.ending.Stop.{Stop}
use Rattle.sync_rules.specs.Replies.{confirmed, is_of_rw, hash_told}
use Rattle.sync_rules.specs.Requests.{hash_request}
use Rattle.sync_rules.specs.Steps.{StartsHash, AsksHash}
use Rattle.sync_rules.proofs.Fields.{hash-read}
use Rattle.sync_laws.specs.Calm.{Reaches}
use Rattle.sync_laws.proofs.Awaiting.{rw_digest, hashing, hashed}
use Rattle.sync_laws.proofs.Proper.{start-proper, look-proper}
use Rattle.sync_laws.proofs.Rows.{unless_pending, hash-row}
use Rattle.command_laws.proofs.PastErase.{led-off, room-off}
use Rattle.sync_laws.proofs.Surveying.{success-reaches, is-free, answers}

-- more room is enough as well
pub more-reaches : {A : Type 0} → (setting : Setting) (part : HostView → List Entry → Result A Stop → Type 0) (core : Core) (given : Result A Stop) (after : Core) (few many : ℕ) → few ≤ many → Reaches setting part core given after few → Reaches setting part core given after many
more-reaches setting part core given after few many less reaches view table entries told last at has quiet run does =
    let is = reaches view table entries told last at (record { on = has.on; enough = omega (arith, has.enough, less) }) quiet run does in
    record { told_is = is.told_is; at = is.at; takes = omega (arith, is.takes, less) }

-- the calls of a command that is answered at once
pub answer-room : (bus : BusKind) (request : RequestView) (core after : Core) (status : ℕ) (body : List ℕ) → core.live.erase ≡ None → (status == 16) ≡ false → (status == 8) ≡ false → (status == 3) ≡ false →
    handled core (packet_limit bus) (packet_of request) ≡ unless_pending core (Answered after status body) → command_room bus request core ≡ send_room bus (length (packet_of request)) (8 + length body)
answer-room bus request core after status body none free done valid row =
    let limit = packet_limit bus in
    let is = row ∙ is-free core (Answered after status body) none in
    let past = ap (led_on 16 (handled_idle limit request)) is ∙ led-off 16 status (handled_idle limit request) after body free in
    let whole = answers limit request core after status body none free done row in
    let ask = ap (ask_room bus request) is in
    let first = ap (led_room 16 (idle_room bus request)) is ∙ room-off 16 status (idle_room bus request) after body free in
    let second = ap (led_room 8 (idle_room bus resend_request)) past ∙ room-off 8 status (idle_room bus resend_request) after body done in
    let third = ap (led_room 3 (λ left. 2 * try_room bus request left)) whole ∙ room-off 3 status (λ left. 2 * try_room bus request left) after body valid in
    omega (arith, ask, first, second, third)

pub success-room : (bus : BusKind) (request : RequestView) (core after : Core) (body : List ℕ) → core.live.erase ≡ None → handled core (packet_limit bus) (packet_of request) ≡ unless_pending core (Answered after 0 body) →
    command_room bus request core ≡ send_room bus (length (packet_of request)) (8 + length body)
success-room bus request core after body none row = answer-room bus request core after 0 body none refl refl refl row

-- a look and a START take as many calls on each bus, but for one
hash-room : (bus : BusKind) → send_room bus 84 84 ≤ 174
hash-room Lpc = omega arith
hash-room I2c = omega arith
hash-room Spi = omega arith

-- what a look tells of a hash that is not finished
busy-told : (aim : Aim) (at size left : ℕ) → hash_told aim (hash_bytes (Busy at size left)) ≡ Ok None
busy-told aim at size left = refl

-- and of one that is
digest-read : (at size : ℕ) (digest : List ℕ) → length digest ≡ 32 → take 32 (drop 12 (hash_bytes (Done at size digest))) ≡ digest
digest-read at size digest long =
    let front = ((1 ∷ 0 ∷ 32 ∷ 0 ∷ []) ++ u32_bytes at) ++ u32_bytes size in
    ap (take 32) (drop_at front (digest ++ replicate 32 0) 12 refl) ∙ take_at digest (replicate 32 0) 32 long

done-by : (aim : Aim) (body digest : List ℕ) → length body ≡ 76 → is_of_rw aim.geometry body ≡ true → slice_index body 0 ≡ 1 → take 32 (drop 12 body) ≡ digest → hash_told aim body ≡ Ok (Some (bytes_eq digest aim.digest))
done-by aim body digest long of_rw status read = rw (long, of_rw, status, read) refl

done-told : (aim : Aim) (size : ℕ) (digest : List ℕ) → aim.geometry ≡ size → size < 2 ^ 32 → length digest ≡ 32 → hash_told aim (hash_bytes (Done (rw_range size).at (rw_range size).size digest)) ≡ Ok (Some (bytes_eq digest aim.digest))
done-told aim size digest geometry small long =
    let half = size / 2 in
    let body = hash_bytes (Done half half digest) in
    let of_size = hash-read size body 1 0 32 0 half half (digest ++ replicate 32 0) (omega (arith, small)) (omega (arith, small)) refl in
    let of_rw : is_of_rw size body ≡ true = of_size ∙ ap (λ (same : Bool). true && same && same) (eq-true half half refl) in
    done-by aim body digest (long-body half digest long) (ap (λ (n : ℕ). is_of_rw n body) geometry ∙ of_rw) refl (digest-read half half digest long)
  where
    long-body : (half : ℕ) (digest : List ℕ) → length digest ≡ 32 → length (hash_bytes (Done half half digest)) ≡ 76
    long-body half digest long =
        let body = digest ++ replicate 32 0 in
        omega (arith, long, length-append digest (replicate 32 0), length-append ((1 ∷ 0 ∷ 32 ∷ 0 ∷ []) ++ u32_bytes half ++ u32_bytes half) body)

-- VBOOT_HASH START
pub start-reaches : (setting : Setting) (core : Core) → core.live.erase ≡ None → Reaches setting (StartsHash setting) core (Ok tt) (hashing (ticks_of (rw_range (length core.flash)).size) core) 174
start-reaches setting core none =
    let left = ticks_of (rw_range (length core.flash)).size in
    let body = hash_bytes (Busy (rw_range (length core.flash)).at (rw_range (length core.flash)).size left) in
    let row = hash-row core (packet_limit setting.bus) 2 in
    let room = success-room setting.bus (hash_request 2) core (hashing left core) body none row in
    more-reaches setting (StartsHash setting) core (Ok tt) (hashing left core) (command_room setting.bus (hash_request 2) core) 174 (omega (arith, room, hash-room setting.bus))
    (success-reaches setting (hash_request 2) 76 confirmed core (hashing left core) body (Ok tt) (start-proper setting.bus) none row refl)

-- VBOOT_HASH GET, of a hash that is not finished
pub busy-reaches : (setting : Setting) (aim : Aim) (core : Core) (left : ℕ) → core.live.erase ≡ None → Reaches setting (AsksHash setting aim) (hashing left core) (Ok None) (hashing left core) 174
busy-reaches setting aim core left none =
    let now = hashing left core in
    let body = hash_bytes (Busy (rw_range (length core.flash)).at (rw_range (length core.flash)).size left) in
    let row = hash-row now (packet_limit setting.bus) 0 in
    let room = success-room setting.bus (hash_request 0) now now body none row in
    more-reaches setting (AsksHash setting aim) now (Ok None) now (command_room setting.bus (hash_request 0) now) 174 (omega (arith, room, hash-room setting.bus))
    (success-reaches setting (hash_request 0) 76 (hash_told aim) now now body (Ok None) (look-proper setting.bus) none row refl)

-- whether RW has the hash that is aimed at
abbrev pub is_aimed : Aim → Core → Bool
is_aimed aim core = bytes_eq (rw_digest core) aim.digest

-- and of one that is
pub done-reaches : (setting : Setting) (aim : Aim) (core : Core) → core.live.erase ≡ None → aim.geometry ≡ length core.flash → length core.flash < 2 ^ 32 → Reaches setting (AsksHash setting aim) (hashed core) (Ok (Some (is_aimed aim core))) (hashed core) 174
done-reaches setting aim core none geometry small =
    let now = hashed core in
    let size = length core.flash in
    let digest = rw_digest core in
    let body = hash_bytes (Done (rw_range size).at (rw_range size).size digest) in
    let long = length-sha256 ([] ++ part (rw_range size) core.flash) in
    let row = hash-row now (packet_limit setting.bus) 0 in
    let room = success-room setting.bus (hash_request 0) now now body none row in
    let length_is : length body ≡ 76 = omega (arith, long, length-append digest (replicate 32 0), length-append ((1 ∷ 0 ∷ 32 ∷ 0 ∷ []) ++ u32_bytes (rw_range size).at ++ u32_bytes (rw_range size).size) (digest ++ replicate 32 0)) in
    more-reaches setting (AsksHash setting aim) now (Ok (Some (is_aimed aim core))) now (command_room setting.bus (hash_request 0) now) 174
    (omega (arith, room, hash-room setting.bus, ap (λ (n : ℕ). send_room setting.bus 84 (8 + n)) length_is))
    (success-reaches setting (hash_request 0) 76 (hash_told aim) now now body (Ok (Some (is_aimed aim core))) (look-proper setting.bus) none row (done-told aim size digest geometry small long))
