-- What the decoders answer.
use Rattle.std.specs.Prelude.{◌≡◌, ℕ, ◌+◌, not, ◌==◌, nat_lt, if◌then◌else◌, List, length, slice_index, Option, Some, None, Result, Ok, Err}
use Rattle.ec_types.specs.LittleEndian.{u16_at}
use Rattle.ec_types.specs.declared.status.Status.{Status}
use Rattle.ec_model.specs.Packet.{RequestView, ResponseView, response_length, sums_to_zero}
use Rattle.ec_packet.specs.declared.request.Request.{Request}
use Rattle.ec_packet.specs.declared.response.Response.{Response}
use Rattle.ec_packet.specs.declared.response.BadReply.{BadReply}
use Rattle.ec_packet.specs.declared.response.BadReply.TheVariants.{Short, Version, Reserved, Length, Sum}

-- a request of these fields
abbrev pub request_of : (command version : ℕ) (body : List ℕ) → RequestView
request_of command version body = record { command = command; version = version; body = body }

-- a request as it was read
abbrev pub request_view : Request → RequestView
request_view request = request_of request.command request.version request.body.now

-- the answer is the request that was read, or the status of its refusal
abbrev pub IsReadAs : Result RequestView ℕ → Result Request Status → Type 0
IsReadAs (Ok view) (Ok request) = request_view request ≡ view
IsReadAs (Ok view) (Err status) = ⊥
IsReadAs (Err number) (Ok request) = ⊥
IsReadAs (Err number) (Err status) = status.0 ≡ number

-- a response of these fields
abbrev pub said : (status : ℕ) (body : List ℕ) → ResponseView
said status body = record { status = status; body = body }

-- a response as it was read
abbrev pub view_of_response : Response → ResponseView
view_of_response response = said response.status response.body.now

-- the first test that fails, and none of a response
abbrev pub reply_fault : List ℕ → Option BadReply
reply_fault bytes =
    if nat_lt (length bytes) 8 then Some Short else
    if not (slice_index bytes 0 == 3) then Some Version else
    if not (u16_at 6 bytes == 0) then Some Reserved else
    if not (length bytes == 8 + response_length bytes) then Some Length else
    if not (sums_to_zero bytes) then Some Sum else
    None
