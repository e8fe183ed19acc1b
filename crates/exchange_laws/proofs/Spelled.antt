-- The spelling of a request that is no COLD is a plain packet.
use Rattle.std.proofs.Common.{◌≡◌, refl, sym, ap, ◌∙◌, ℕ, ◌+◌, ◌<◌, true, false, nat_lt, List, ◌++◌, length, take, Result, Ok, arith}
use Rattle.std.proofs.lemmas.List.{take_all}
use Rattle.ec_types.specs.LittleEndian.{u16_at}
use Rattle.ec_model.specs.Packet.{RequestView, request_packet, request_fields, request_length, framing, sums_to_zero}
use Rattle.exchange_laws.specs.Served.{is_cold, IsPlain}
use Rattle.exchange_laws.proofs.Framed.{enough}
use Rattle.exchange_laws.proofs.Response.{eq-true, sums}

-- a request is its header and its body
length-request : (command version : ℕ) (body : List ℕ) → length (request_packet command version body) ≡ 8 + length body
length-request command version body = omega arith

-- the header names the body's length
request-named : (command version : ℕ) (body : List ℕ) → length body < 65536 → request_length (request_packet command version body) ≡ length body
request-named command version body short = omega (arith, short)

-- the header names the command
request-command : (command version : ℕ) (body : List ℕ) → command < 65536 → u16_at 2 (request_packet command version body) ≡ command
request-command command version body small = omega (arith, small)

-- the bytes of a request have the sum 0 modulo 256
request-sums : (command version : ℕ) (body : List ℕ) → sums_to_zero (request_packet command version body) ≡ true
request-sums command version body = eq-true _ 0 (sums 3 (request_fields command version body ++ body))

-- a request as it was spelled
abbrev spelled : ℕ → ℕ → List ℕ → Result RequestView ℕ
spelled command version body = Ok (record { command = command; version = version; body = body })

-- a spelling is read as its request
pub framing-spelled : (command version : ℕ) (body : List ℕ) → command < 65536 → length body < 65536 → framing (request_packet command version body) ≡ spelled command version body
framing-spelled command version body small short =
    let packet = request_packet command version body in
    let named = request-named command version body short in
    let size = length-request command version body in
    let long : nat_lt (length packet) 8 ≡ false = enough _ _ (omega (arith, size)) in
    let more : nat_lt (length packet) (8 + request_length packet) ≡ false = enough _ _ (omega (arith, size, named)) in
    let whole : take (8 + request_length packet) packet ≡ packet = take_all (8 + request_length packet) packet (omega (arith, size, named)) in
    let check : sums_to_zero (take (8 + request_length packet) packet) ≡ true = ap (λ (xs : List ℕ). sums_to_zero xs) whole ∙ request-sums command version body in
    let body_is : take (request_length packet) body ≡ body = take_all (request_length packet) body (omega (arith, named)) in
    let command_is = request-command command version body small in
    rw (long, more, check, body_is, command_is) refl

-- a request that is no COLD, as it is spelled
pub plain-spelled : (command version : ℕ) (body : List ℕ) → command < 65536 → length body < 65536 → is_cold (spelled command version body) ≡ false → IsPlain (request_packet command version body)
plain-spelled command version body small short other =
    record {
      header = omega (arith, length-request command version body);
      whole = length-request command version body ∙ ap (λ (n : ℕ). 8 + n) (sym (request-named command version body short));
      no_cold = ap (λ (framed : Result RequestView ℕ). is_cold framed) (framing-spelled command version body small short) ∙ other;
    }
