use Rattle.std.proofs.Common.{◌∙◌, refl, rules}
use Rattle.std.specs.Prelude.{◌≡◌, IfSome, [], ℕ, List, length, false}
use Rattle.ec_model.specs.Erasing.{asked_job}
use Rattle.ec_model.specs.FlashRows.{erase_refusal, asked_range}
use Rattle.ec_model.specs.Answer.{Answered}
use Rattle.ec_model.specs.Bodies.{flash_erase_ask}
use Rattle.ec_boot.specs.States.{RunView}
use Rattle.command_table.proofs.RowLemmas.{refused-told}
use Rattle.command_table.proofs.EraseLemmas.{erase-range, erasing, started-told}
use Rattle.command_table.proofs.erases.flash_erase.Goals as goal

pub returns-in-Some-clause-leaves : goal.returns-in-Some-clause-leaves
returns-in-Some-clause-leaves g c =
    let old : RunView = g.R.Running.run c.args.state.now in
    let request : List ℕ = flash_erase_ask c.args.at c.args.count in
    refused-told (λ core. erase_refusal core request) (λ core. Answered (record core { live = erasing (asked_job (asked_range request)) core.live }) 8 []) (λ core. false) (λ core. [])
    old old.device.extent c.in-Some.status c.end_with.new.self.status c.end_with.new.self.hurt c.end_with.new.self.body c.geometry.ensures.whole
    (λ core length_is live_is. c.in-Some.ensures.refusal core request (rw (c.size-size.ensures.size ∙ c.geometry.ensures.size) length_is) (rw c.live-live.ensures.live live_is) (erase-range c.args.at c.args.count (search rules) (search rules)))
    (λ core refused. refl)
    c.end_with.ensures.hurt c.end_with.ensures.status c.end_with.ensures.body

pub returns-in-None-clause-leaves : goal.returns-in-None-clause-leaves
returns-in-None-clause-leaves g c =
    let old : RunView = g.R.Running.run c.args.state.now in
    let n : ℕ = c.size-size.result in
    let sized : IfSome old.device.held (λ (f : List ℕ). length f ≡ n) = rw (c.size-size.ensures.size ∙ c.geometry.ensures.size) c.geometry.ensures.whole in
    started-told n old (g.R.Running.run c.start_erase.new.self) c.args.at c.args.count c.end_with-in-None.new.self.hurt c.end_with-in-None.new.self.status c.end_with-in-None.new.self.body (search rules) (search rules) sized
    (λ core body length_is live_is range_is. c.in-None.ensures.refusal core body length_is (rw c.live-live.ensures.live live_is) range_is)
    c.start_erase.ensures.started c.end_with-in-None.ensures.hurt c.end_with-in-None.ensures.status c.end_with-in-None.ensures.body
