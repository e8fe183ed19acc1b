use Rattle.std.proofs.Common.{refl, sym, ◌∙◌}
use Rattle.ec_boot.proofs.JumpLemmas.{seen-outside, seen-all}
use Rattle.ec_boot.proofs.on.On.look.Goals as goal

pub returns-then-not-vector_fits : goal.returns-then-not-vector_fits
returns-then-not-vector_fits g c =
    rw (← c.self.view_is)
    (seen-outside c.args.target c.self.inside.ctl c.read.new.self c.self.inside.pin c.self.inside.lasting c.self.inside.hash c.geometry.result c.range_of-at.result c.read.new.out _ c.read.result c.vector_fits.result
    c.self.invariant c.geometry.ensures.size c.geometry.ensures.whole c.range_of-at.ensures refl (sym c.is_err.ensures.value ∙ c.if-is_err.false) c.read.ensures.read c.read.ensures.locks c.vector_fits.ensures c.if-not-vector_fits.true)

pub returns-in-Ok : goal.returns-in-Ok
returns-in-Ok g c =
    rw (← c.self.view_is)
    (seen-all c.args.target c.self.inside.ctl c.read.new.self c.self.inside.pin c.self.inside.lasting c.self.inside.hash c.geometry.result c.range_of-at.result c.read.new.out _ c.read.result c.vector_fits.result c.read_layout.new.self c.in-Ok.layout
    c.self.invariant c.geometry.ensures.size c.geometry.ensures.whole c.range_of-at.ensures refl (sym c.is_err.ensures.value ∙ c.if-is_err.false) c.read.ensures.read c.read.ensures.locks c.vector_fits.ensures c.if-not-vector_fits.false
    c.in-Ok.ensures.told c.in-Ok.ensures.looked c.read_layout.ensures.rest)
