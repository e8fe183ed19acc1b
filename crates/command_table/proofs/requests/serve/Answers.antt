use Rattle.std.proofs.Common.{rules, refl, length}
use Rattle.ec_packet.specs.Read.{request_view}
use Rattle.ec_model.specs.Handle.{admitted}
use Rattle.ec_model.specs.Bodies.{flash_write_ask, flash_erase_ask}
use Rattle.ec_boot.specs.States.{RunView}
use Rattle.command_table.specs.declared.asks.Ask.TheVariants.{FlashWrite, FlashErase, FlashProtect, Reboot}
use Rattle.command_table.proofs.ServeLemmas.{finds-ask, write-not, erase-not, restarts-not, leaves-as, served-as}
use Rattle.command_table.proofs.WearLemmas.{wears-as, write-wears}
use Rattle.command_table.proofs.requests.serve.Goals as goal

pub returns-in-Ok-FlashWrite : goal.returns-in-Ok-FlashWrite
returns-in-Ok-FlashWrite g c =
    let is = c.in-Ok-FlashWrite in
    let old : RunView = g.R.Running.run c.args.state.now in
    let new : RunView = g.R.Running.run c.flash_write.new.state in
    let request = request_view c.args.request.now in
    let same = finds-ask request old c.live.result c.is_some-erasing.result is.field-0 (FlashWrite is.ask) c.live.ensures.live c.is_some-erasing.ensures is.field-0-is is.ensures.admitted in
    record {
      stays = restarts-not c.args.limit (λ core. admitted core request) _ old same (λ core. write-not core request.version (flash_write_ask is.ask.offset is.ask.bytes.now));
      leaves = search rules;
      pin = search rules;
      spent = search rules;
      wear = wears-as (λ core. admitted core request) _ old new.device same (λ core live. write-wears (length is.ask.bytes.now) old.device.wear new.device.wear (search rules) c.flash_write.ensures.wear);
      short = search rules;
    }

pub returns-in-Ok-FlashErase : goal.returns-in-Ok-FlashErase
returns-in-Ok-FlashErase g c =
    let is = c.in-Ok-FlashErase in
    let old : RunView = g.R.Running.run c.args.state.now in
    let request = request_view c.args.request.now in
    let same = finds-ask request old c.live.result c.is_some-erasing.result is.field-0 (FlashErase is.ask) c.live.ensures.live c.is_some-erasing.ensures is.field-0-is is.ensures.admitted in
    record {
      stays = restarts-not c.args.limit (λ core. admitted core request) _ old same (λ core. erase-not core (flash_erase_ask is.ask.offset is.ask.size));
      leaves = search rules;
      pin = search rules;
      spent = search rules;
      wear = search rules;
      short = search rules;
    }

pub returns-in-Ok-FlashProtect : goal.returns-in-Ok-FlashProtect
returns-in-Ok-FlashProtect g c =
    let is = c.in-Ok-FlashProtect in
    let old : RunView = g.R.Running.run c.args.state.now in
    let new : RunView = g.R.Running.run c.flash_protect.new.state in
    let request = request_view c.args.request.now in
    let same = finds-ask request old c.live.result c.is_some-erasing.result is.field-0 (FlashProtect is.ask) c.live.ensures.live c.is_some-erasing.ensures is.field-0-is is.ensures.admitted in
    record {
      stays = restarts-not c.args.limit (λ core. admitted core request) _ old same (λ core. refl);
      leaves = leaves-as c.args.limit (λ core. admitted core request) _ c.flash_protect.new.reply.hurt c.flash_protect.new.reply.status c.flash_protect.new.reply.body old new same c.flash_protect.ensures.leaves;
      pin = search rules;
      spent = search rules;
      wear = wears-as (λ core. admitted core request) _ old new.device same (λ core live. c.flash_protect.ensures.wear);
      short = search rules;
    }

pub returns-in-Ok-Reboot : goal.returns-in-Ok-Reboot
returns-in-Ok-Reboot g c =
    let is = c.in-Ok-Reboot in
    let old : RunView = g.R.Running.run c.args.state.now in
    let request = request_view c.args.request.now in
    let same = finds-ask request old c.live.result c.is_some-erasing.result is.field-0 (Reboot is.ask) c.live.ensures.live c.is_some-erasing.ensures is.field-0-is is.ensures.admitted in
    served-as c.reboot.result c.args.limit (λ core. admitted core request) _ c.reboot.new.reply.hurt c.reboot.new.reply.status c.reboot.new.reply.body old (g.R.Running.run c.reboot.new.state) same
    (c.reboot.ensures c.args.limit request.version (search rules))
