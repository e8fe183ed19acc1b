-- What the host asks of its own while a command goes on: GET_COMMS_STATUS, and RESEND_RESPONSE. Both are answered also while
-- an erase is pending.
use Rattle.std.proofs.Common.{◌≡◌, refl, ℕ, Bool, true, false, ◌&&◌, [], length, arith}
use Rattle.std.specs.Prelude.{is_some}
use Rattle.ec_model.specs.Asks.{packet_of}
use Rattle.ec_model.specs.Polls.{comms_request}
use Rattle.ec_model.specs.Tries.{resend_request}
use Rattle.ec_model.specs.Table.{Core}
use Rattle.ec_model.specs.InfoRows.{comms_row, resend_row}
use Rattle.ec_model.specs.Handle.{handled}
use Rattle.exchange_laws.specs.Served.{IsPlain}
use Rattle.exchange_laws.proofs.Spelled.{plain-spelled}

-- a command that is answered while an erase is pending is not held up
never-held : (pending : Bool) → (pending && false) ≡ false
never-held true = refl
never-held false = refl

-- GET_COMMS_STATUS is always answered by its row
pub comms-handled : (core : Core) (limit : ℕ) → handled core limit (packet_of comms_request) ≡ comms_row core
comms-handled core limit = rw (never-held (is_some core.live.erase)) refl

-- RESEND_RESPONSE is always answered by its row
pub resend-handled : (core : Core) (limit : ℕ) → handled core limit (packet_of resend_request) ≡ resend_row core
resend-handled core limit = rw (never-held (is_some core.live.erase)) refl

-- GET_COMMS_STATUS is a plain packet
pub comms-plain : IsPlain (packet_of comms_request)
comms-plain = plain-spelled 0x09 0 [] (omega arith) (omega arith) refl

-- RESEND_RESPONSE is a plain packet
pub resend-plain : IsPlain (packet_of resend_request)
resend-plain = plain-spelled 0xDB 0 [] (omega arith) (omega arith) refl

-- GET_COMMS_STATUS is a header
pub comms-length : length (packet_of comms_request) ≡ 8
comms-length = refl

-- RESEND_RESPONSE is a header
pub resend-length : length (packet_of resend_request) ≡ 8
resend-length = refl
