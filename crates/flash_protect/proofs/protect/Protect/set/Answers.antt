use Rattle.flash_protect.proofs.SettingLemmas.{adds-told, set-behind, set-unread}
use Rattle.flash_protect.proofs.protect.Protect.set.Goals as goal

pub returns-in-Ok-clause-whole : goal.returns-in-Ok-clause-whole
returns-in-Ok-clause-whole g c =
    adds-told c.args.ctl.now.device.extent c.args.mask c.args.flags c.args.pin c.find.new.ctl.device c.set_from.new.ctl.device c.args.self.now c.set_from.new.self c.args.ctl.now.device.held c.set_from.new.ctl.device.held c.set_from.result.0 c.set_from.result.1
    c.in-Ok.ensures.allowed c.in-Ok.ensures.whole c.requires.all_with_ro (rw (← c.in-Ok.ensures.looked.kept) c.set_from.ensures.told)

pub returns-in-Ok-clause-told : goal.returns-in-Ok-clause-told
returns-in-Ok-clause-told g c =
    set-behind c.args.mask c.args.flags c.args.pin c.args.ctl.now.device c.find.new.ctl.device c.set_from.new.ctl.device c.args.self.now c.set_from.new.self c.args.ctl.now.device.held c.set_from.new.ctl.device.held
    c.set_from.result.0 c.set_from.result.1 c.in-Ok.ensures.looked (rw (← c.in-Ok.ensures.looked.kept) c.set_from.ensures.told)

pub returns-in-Err-clause-told : goal.returns-in-Err-clause-told
returns-in-Err-clause-told g c =
    set-unread c.args.mask c.args.flags c.args.pin c.args.ctl.now.device c.find.new.ctl.device c.args.self.now c.args.ctl.now.device.held c.find.new.ctl.device.held c.in-Err.ensures.looked.kept c.in-Err.ensures.looked
