use Rattle.std.proofs.Common.{refl, ◌∙◌, codes}
use Rattle.drill_draws.proofs.Naming.{padded-is}
use Rattle.drill_draws.proofs.image.DrillImage.append_version.Goals as goal

pub returns-clause-version : goal.returns-clause-version
returns-clause-version c =
    let number = c.as_bytes-number.ensures.value ∙ c.format.ensures.text in
    rw (c.append-3.ensures, c.append-2.ensures, c.append.ensures, number) (padded-is c.args.self.now (codes "drill-") _ refl)
