use Rattle.std.proofs.Common.{◌≡◌, sym, subst, arith}
use Rattle.ec_model.specs.Packet.{ResponseView, response_packet}
use Rattle.ec_packet.proofs.ResponseLaws.{response-whole, response-spelled}
use Rattle.ec_packet.proofs.response.decode_response.Goals as goal

pub returns-in-None-clause-spelled : goal.returns-in-None-clause-spelled
returns-in-None-clause-spelled c =
    let is = response-whole c.args.bytes.now (sym c.in-None.ensures) in
    subst (λ (view : ResponseView). c.args.bytes.now ≡ response_packet view.status view.body) (sym c.unpacked.ensures)
    (response-spelled c.args.bytes.now (λ i. omega (arith, c.type_inv.bytes i)) is)
