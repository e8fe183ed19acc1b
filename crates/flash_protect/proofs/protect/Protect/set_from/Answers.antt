use Rattle.std.proofs.Common.{◌≡◌, ◌∙◌, ap, true, inl, inr, sym, subst, ℕ, ◌-◌, ◌/◌, take, Some, Result}
use Rattle.flash_dev.specs.Flash.{block_size}
use Rattle.flash_dev.specs.declared.device.DevErr.{DevErr}
use Rattle.flash_protect.specs.Setting.{operations_at, covering}
use Rattle.flash_dev.specs.Told.{Changes}
use Rattle.flash_dev.specs.Costs.{HasBegun}
use Rattle.flash_protect.proofs.SettingLemmas.{set-done, set-stopped, set-idle}
use Rattle.flash_protect.proofs.protect.Protect.set_from.Goals.{then-same-via-then-same, then-same-via-else-same+then-self}
use Rattle.std.specs.Prelude.{◌⊎◌}
use Rattle.flash_dev.specs.View.{DeviceView}
use Rattle.ec_model.specs.Stored.{same_bits}
use Rattle.flash_protect.proofs.protect.Protect.set_from.Goals as goal

pub returns-in-Ok-clause-told : goal.returns-in-Ok-clause-told
returns-in-Ok-clause-told g c =
    let at_is : c.pstate-at.result.0 ≡ c.args.ctl.now.device.extent / 2 - block_size =
    ap (λ (range : ℕ × ℕ). range.0) c.pstate-at.ensures ∙ ap (λ (size : ℕ). size / 2 - block_size) c.geometry.ensures.size in
    rw c.finish-in-Ok.ensures.device
    (set-done c.args.mask c.args.flags c.args.pin c.args.ctl.now.device c.store-begun.new.ctl.device c.args.self.now c.finish-in-Ok.new.self c.args.ctl.now.device.held c.store-begun.new.ctl.device.held c.args.ctl.now.device.extent c.args.found.place c.args.found.bits
    c.wanted-wish.result c.store-begun.result.0 c.begun_range.result c.in-Ok.field-0 c.finish-in-Ok.result
    (record {
      allowed = rw (← c.geometry.ensures.size) c.geometry.ensures.allowed;
      size_is = c.geometry.ensures.whole;
      bits_are = c.requires.bits;
      place_is = c.requires.place;
      wish_is = c.wanted-wish.ensures;
      differ = sym c.same.ensures ∙ c.if-same.false;
      open_now = c.if-self.false;
    })
    (subst (λ (r : Result (Unit {0}) DevErr). Changes (HasBegun c.store-begun.result.0 (operations_at (c.args.ctl.now.device.extent / 2 - 4096) c.args.found.place c.wanted-wish.result) c.args.ctl.now.device c.store-begun.new.ctl.device r) c.args.ctl.now.device.held c.store-begun.new.ctl.device.held) c.in-Ok.is c.store-begun.ensures.ran)
    (subst (λ (at : ℕ). Some c.begun_range.result ≡ covering (take c.store-begun.result.0 (operations_at at c.args.found.place c.wanted-wish.result))) at_is (c.begun_range.ensures.covers c.wanted-wish.result))
    c.finish-in-Ok.ensures.done c.finish-in-Ok.ensures.shown)

pub returns-in-Err-clause-told : goal.returns-in-Err-clause-told
returns-in-Err-clause-told g c =
    let at_is : c.pstate-at.result.0 ≡ c.args.ctl.now.device.extent / 2 - block_size =
    ap (λ (range : ℕ × ℕ). range.0) c.pstate-at.ensures ∙ ap (λ (size : ℕ). size / 2 - block_size) c.geometry.ensures.size in
    set-stopped c.args.mask c.args.flags c.args.pin c.args.ctl.now.device c.store-begun.new.ctl.device c.args.self.now c.args.ctl.now.device.held c.store-begun.new.ctl.device.held c.args.ctl.now.device.extent c.args.found.place c.args.found.bits
    c.wanted-wish.result c.store-begun.result.0 c.begun_range.result c.in-Err.error
    (record {
      allowed = rw (← c.geometry.ensures.size) c.geometry.ensures.allowed;
      size_is = c.geometry.ensures.whole;
      bits_are = c.requires.bits;
      place_is = c.requires.place;
      wish_is = c.wanted-wish.ensures;
      differ = sym c.same.ensures ∙ c.if-same.false;
      open_now = c.if-self.false;
    })
    (subst (λ (r : Result (Unit {0}) DevErr). Changes (HasBegun c.store-begun.result.0 (operations_at (c.args.ctl.now.device.extent / 2 - 4096) c.args.found.place c.wanted-wish.result) c.args.ctl.now.device c.store-begun.new.ctl.device r) c.args.ctl.now.device.held c.store-begun.new.ctl.device.held) c.in-Err.is c.store-begun.ensures.ran)
    (subst (λ (at : ℕ). Some c.begun_range.result ≡ covering (take c.store-begun.result.0 (operations_at at c.args.found.place c.wanted-wish.result))) at_is (c.begun_range.ensures.covers c.wanted-wish.result))

pub returns-then-same-clause-told : goal.returns-then-same-clause-told
returns-then-same-clause-told g c =
    let idle : (same_bits c.wanted-wish.result c.args.found.bits ≡ true) ⊎ (c.args.self.now.ro_now ≡ true) =
    elim c.then-same.branch [
      | then-same-via-then-same w ↦ inl (sym c.same.ensures ∙ w.if-same.true)
      | then-same-via-else-same+then-self w ↦ inr w.if-self.true
    ] in
    set-idle c.args.mask c.args.flags c.args.pin c.args.ctl.now.device c.finish.new.ctl.device c.args.self.now c.finish.new.self c.args.ctl.now.device.held c.finish.new.ctl.device.held c.args.found.bits
    c.wanted-wish.result c.finish.result c.finish.ensures.device (sym (ap (λ (d : DeviceView). d.held) c.finish.ensures.device)) c.requires.bits c.wanted-wish.ensures idle c.finish.ensures.done c.finish.ensures.shown
