use Rattle.std.proofs.Common.{ℕ, sym, ap, ◌∙◌, subst, take, Option}
use Rattle.flash_protect.specs.Setting.{IsFew, operations_at, covering}
use Rattle.flash_protect.proofs.SettingLemmas.{covers-record, covers-anew}
use Rattle.flash_protect.proofs.stored.begun_range.Goals as goal

pub returns-in-Some-clause-covers : goal.returns-in-Some-clause-covers
returns-in-Some-clause-covers c = λ bits.
    covers-record c.args.at c.in-Some.place c.args.begun bits c.requires.some (subst (λ (o : Option ℕ). IsFew o c.args.begun) c.in-Some.is c.requires.few)
    ∙ ap (λ (o : Option ℕ). covering (take c.args.begun (operations_at c.args.at o bits))) (sym c.in-Some.is)

pub returns-in-None-clause-covers : goal.returns-in-None-clause-covers
returns-in-None-clause-covers c = λ bits.
    covers-anew c.args.at c.args.begun bits c.requires.whole c.requires.some (subst (λ (o : Option ℕ). IsFew o c.args.begun) c.in-None.is c.requires.few)
    ∙ ap (λ (o : Option ℕ). covering (take c.args.begun (operations_at c.args.at o bits))) (sym c.in-None.is)
