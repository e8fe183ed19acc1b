use Rattle.std.proofs.Common.{◌≡◌, ◌∙◌, ℕ, List, [], length, drop, refl, ap, false, arith, rules, Option, if◌then◌else◌}
use Rattle.std.specs.Prelude.{IfSome, is_none}
use Rattle.ec_model.specs.Operations.{pieces}
use Rattle.ec_types.specs.LittleEndian.{u32_at}
use Rattle.ec_model.specs.FlashRows.{write_refusal, write_operations, written}
use Rattle.ec_model.specs.Answer.{done}
use Rattle.ec_model.specs.Bodies.{flash_write_ask}
use Rattle.ec_boot.specs.States.{RunView}
use Rattle.command_table.proofs.RanLemmas.{has-bytes}
use Rattle.command_table.proofs.RowLemmas.{refused-told, write-range, IsAllowed, allowed-from, ran-at, write-told}
use Rattle.command_table.proofs.rows.flash_write.Goals as goal

pub returns-in-Some-clause-leaves : goal.returns-in-Some-clause-leaves
returns-in-Some-clause-leaves g c =
    let request : List ℕ = flash_write_ask c.args.at c.args.bytes.now in
    let old : RunView = g.R.Running.run c.args.state.now in
    refused-told (λ core. write_refusal core c.args.version request) (λ core. done (written (u32_at 0 request) (drop 8 request) core)) (λ core. false) (λ core. write_operations core c.args.version request)
    old old.device.extent c.in-Some.status c.end_with.new.self.status c.end_with.new.self.hurt c.end_with.new.self.body c.geometry.ensures.whole
    (λ core length_is live_is. c.in-Some.ensures.refusal core request (rw (c.size-size.ensures.size ∙ c.geometry.ensures.size) length_is) (rw c.live-live.ensures.live live_is) (write-range c.args.at c.args.bytes.now (search rules) (omega (arith, c.requires))))
    (λ core refused. ap (λ (r : Option ℕ). if is_none r then pieces (u32_at 0 request) (drop 8 request) else []) refused)
    c.end_with.ensures.hurt c.end_with.ensures.status c.end_with.ensures.body

pub returns-in-None-clause-leaves : goal.returns-in-None-clause-leaves
returns-in-None-clause-leaves g c =
    let request : List ℕ = flash_write_ask c.args.at c.args.bytes.now in
    let old : RunView = g.R.Running.run c.args.state.now in
    let new : RunView = g.R.Running.run c.write_pieces.new.state in
    let n : ℕ = c.size-size.result in
    let sized : IfSome old.device.held (λ (f : List ℕ). length f ≡ n) = rw (c.size-size.ensures.size ∙ c.geometry.ensures.size) c.geometry.ensures.whole in
    let may = c.in-None.ensures.allowed refl in
    let is : IsAllowed n c.args.version old request =
    allowed-from n c.args.version old c.args.at c.args.bytes.now (search rules) (omega (arith, c.requires))
    (λ core body length_is live_is range_is. c.in-None.ensures.refusal core body length_is (rw c.live-live.ensures.live live_is) range_is)
    may.units.some may.units.inside (has-bytes old.device.extent old.live.hash old.nonce c.live-live.ensures.valid.hash) in
    write-told n c.args.version old new request c.write_pieces.result c.hurt_after-hurt.result c.end.new.self.hurt c.end.new.self.status c.end.new.self.body is sized
    (ran-at old new c.write_pieces.result c.args.at c.args.bytes.now (search rules) (λ count enough. c.write_pieces.ensures.ran count enough))
    c.hurt_after-hurt.ensures c.end.ensures.hurt c.end.ensures.status c.end.ensures.body
