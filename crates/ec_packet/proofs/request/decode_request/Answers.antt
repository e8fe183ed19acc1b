use Rattle.std.proofs.Common.{◌≡◌, refl, ℕ, List, Result, Ok, Err, arith}
use Rattle.std.specs.Prelude.{IfOk}
use Rattle.ec_types.specs.LittleEndian.{AreBytes}
use Rattle.ec_types.specs.declared.status.Status.{Status}
use Rattle.ec_model.specs.Packet.{RequestView, framing}
use Rattle.ec_packet.specs.declared.request.Request.{Request}
use Rattle.ec_packet.specs.Read.{IsReadAs, request_view}
use Rattle.ec_packet.proofs.RequestLaws.{Begins, request-begins}
use Rattle.ec_packet.proofs.request.decode_request.Goals as goal

-- what was read is spelled
spelled_of : (bytes : List ℕ) (read : Result RequestView ℕ) (result : Result Request Status) → AreBytes bytes → framing bytes ≡ read → IsReadAs read result → IfOk result (λ request. Begins bytes (request_view request))
spelled_of bytes (Ok view) (Ok request) fits framed same = request-begins bytes (request_view request) fits cc
spelled_of bytes (Ok view) (Err status) fits framed wrong = tt
spelled_of bytes (Err number) (Ok request) fits framed wrong = absurd wrong
spelled_of bytes (Err number) (Err status) fits framed same = tt

pub returns-clause-spelled : goal.returns-clause-spelled
returns-clause-spelled c = spelled_of c.args.bytes.now (framing c.args.bytes.now) c.framed.result (λ i. omega (arith, c.type_inv.bytes i)) refl c.framed.ensures
