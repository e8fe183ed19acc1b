use Rattle.std.proofs.Common.{rules, ap₂, ◌≡◌, ◌∙◌}
use Rattle.std.proofs.lemmas.Result.{IfOk-weaker}
use Rattle.clap.specs.Walk.{rule_of}
use Rattle.clap.specs.Simple.{app_of, with_rule}
use Rattle.bench_words.specs.Parsed.{bare_app, flash_rule, bus_rule, pin_rule}
use Rattle.bench_words.proofs.parsing.bench_command.Goals as goal

pub returns : goal.returns
returns c =
    let flash_is : rule_of c.action-flash.result ≡ flash_rule = search rules in
    let bus_is : rule_of c.default_value-bus.result ≡ bus_rule = search rules in
    let pin_is : rule_of c.default_value-pin.result ≡ pin_rule = search rules in
    let bare_is : app_of c.disable_help_flag-command.result ≡ bare_app = search rules in
    let first = c.in_ok-arg.ensures.shape (search rules) ∙ ap₂ with_rule bare_is flash_is in
    let second = c.in_ok-arg-2.ensures.shape (search rules) ∙ ap₂ with_rule first bus_is in
    IfOk-weaker c.arg-3.result _ _ (λ command added. added.shape (search rules)
    ∙ ap₂ with_rule second pin_is) c.arg-3.ensures
