use Rattle.std.proofs.Common.{ℕ, ap, ◌∙◌, subst, List, take}
use Rattle.std.proofs.lemmas.List.{take_min}
use Rattle.flash_dev.specs.Poking.{IsPoked}
use Rattle.flash_dev.proofs.cut_flash.tear.Goals as goal

pub returns : goal.returns
returns g c =
    subst (λ (bytes : List ℕ). IsPoked c.args.at bytes (g.F.FlashDev.seen c.args.flash.now) (g.F.FlashDev.seen c.poke.new.self) c.poke.result)
    (ap (λ (n : ℕ). take n c.args.torn.now) c.min-count.ensures ∙ take_min c.args.size c.args.torn.now) c.poke.ensures
