use Rattle.std.proofs.Common.{◌≡◌, sym, ap, ◌∙◌, subst, ℕ, true, false, List}
use Rattle.ec_model.specs.Packet.{response_length}
use Rattle.ec_model.specs.SendSpi.{spi_reads_on}
use Rattle.host_framing.specs.SpiParts.{Gets}
use Rattle.host_framing.proofs.SpiParts.{hears-off, hears-on}
use Rattle.host_framing.proofs.spi.hear.Goals as goal

pub returns-then-not-reads_on-clause-hears : goal.returns-then-not-reads_on-clause-hears
returns-then-not-reads_on-clause-hears g c =
    let off : spi_reads_on c.get.new.reply ≡ false = ap (λ (xs : List ℕ). spi_reads_on xs) (sym c.as_slice.ensures.bytes) ∙ cc in
    hears-off _ _ _ _ c.clear.ensures c.get.ensures.gets off

pub returns-clause-hears : goal.returns-clause-hears
returns-clause-hears g c =
    let named : c.named_length-named.result ≡ response_length c.get.new.reply = c.named_length-named.ensures ∙ ap (λ (xs : List ℕ). response_length xs) c.as_slice-2.ensures.bytes in
    let on : spi_reads_on c.get.new.reply ≡ true = ap (λ (xs : List ℕ). spi_reads_on xs) (sym c.as_slice.ensures.bytes) ∙ cc in
    hears-on _ _ _ _ _ _ _ c.clear.ensures c.get.ensures.gets on
    (subst (λ (n : ℕ). Gets n c.get.new.reply c.get-2.new.reply (g.W.Wire.view c.get.new.w) (g.W.Wire.view c.get-2.new.w)) named c.get-2.ensures.gets) c.judge_packet.ensures
