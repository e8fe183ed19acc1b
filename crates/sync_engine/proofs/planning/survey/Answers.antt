use Rattle.sync_rules.specs.Parts.{Gives, Then, Rests}
use Rattle.sync_rules.specs.Replies.{aim_of}
use Rattle.sync_rules.specs.Steps.{AsksLimits, AsksSize, AsksRegion}
use Rattle.sync_engine.proofs.Chains.{leads-on, stops, gives}
use Rattle.sync_engine.proofs.planning.survey.Goals as goal

pub returns-in_err-rest-clause-does : goal.returns-in_err-rest-clause-does
returns-in_err-rest-clause-does g c = stops (λ setting. Rests setting) (λ setting rested. Then (AsksLimits setting) (λ agreed. Then (AsksSize setting) (λ size. Then (AsksRegion setting size) (λ found. Gives (aim_of c.args.image.now size))))) _ _ _ _ _ c.from_residual.ensures c.in_err-rest.ensures.does

pub returns-in_err-agree-clause-does : goal.returns-in_err-agree-clause-does
returns-in_err-agree-clause-does g c = leads-on (λ setting. Rests setting) (λ setting rested. Then (AsksLimits setting) (λ agreed. Then (AsksSize setting) (λ size. Then (AsksRegion setting size) (λ found. Gives (aim_of c.args.image.now size))))) _ _ _ _ _ _ c.in_ok-rest.ensures.does
    (stops (λ setting. AsksLimits setting) (λ setting agreed. Then (AsksSize setting) (λ size. Then (AsksRegion setting size) (λ found. Gives (aim_of c.args.image.now size)))) _ _ _ _ _ c.from_residual-in_err-agree.ensures c.in_err-agree.ensures.does)

pub returns-in_err-geometry-clause-does : goal.returns-in_err-geometry-clause-does
returns-in_err-geometry-clause-does g c = leads-on (λ setting. Rests setting) (λ setting rested. Then (AsksLimits setting) (λ agreed. Then (AsksSize setting) (λ size. Then (AsksRegion setting size) (λ found. Gives (aim_of c.args.image.now size))))) _ _ _ _ _ _ c.in_ok-rest.ensures.does
    (leads-on (λ setting. AsksLimits setting) (λ setting agreed. Then (AsksSize setting) (λ size. Then (AsksRegion setting size) (λ found. Gives (aim_of c.args.image.now size)))) _ _ _ _ _ _ c.in_ok-agree.ensures.does
    (stops (λ setting. AsksSize setting) (λ setting size. Then (AsksRegion setting size) (λ found. Gives (aim_of c.args.image.now size))) _ _ _ _ _ c.from_residual-in_err-geometry.ensures c.in_err-geometry.ensures.does))

pub returns-in_err-ask_region-clause-does : goal.returns-in_err-ask_region-clause-does
returns-in_err-ask_region-clause-does g c = leads-on (λ setting. Rests setting) (λ setting rested. Then (AsksLimits setting) (λ agreed. Then (AsksSize setting) (λ size. Then (AsksRegion setting size) (λ found. Gives (aim_of c.args.image.now size))))) _ _ _ _ _ _ c.in_ok-rest.ensures.does
    (leads-on (λ setting. AsksLimits setting) (λ setting agreed. Then (AsksSize setting) (λ size. Then (AsksRegion setting size) (λ found. Gives (aim_of c.args.image.now size)))) _ _ _ _ _ _ c.in_ok-agree.ensures.does
    (leads-on (λ setting. AsksSize setting) (λ setting size. Then (AsksRegion setting size) (λ found. Gives (aim_of c.args.image.now size))) c.in_ok-geometry.geometry _ _ _ _ _ c.in_ok-geometry.ensures.does
    (stops (λ setting. AsksRegion setting c.in_ok-geometry.geometry) (λ setting found. Gives (aim_of c.args.image.now c.in_ok-geometry.geometry)) _ _ _ _ _ c.from_residual-in_err-ask_region.ensures c.in_err-ask_region.ensures.does)))

pub returns-clause-does : goal.returns-clause-does
returns-clause-does g c = leads-on (λ setting. Rests setting) (λ setting rested. Then (AsksLimits setting) (λ agreed. Then (AsksSize setting) (λ size. Then (AsksRegion setting size) (λ found. Gives (aim_of c.args.image.now size))))) _ _ _ _ _ _ c.in_ok-rest.ensures.does
    (leads-on (λ setting. AsksLimits setting) (λ setting agreed. Then (AsksSize setting) (λ size. Then (AsksRegion setting size) (λ found. Gives (aim_of c.args.image.now size)))) _ _ _ _ _ _ c.in_ok-agree.ensures.does
    (leads-on (λ setting. AsksSize setting) (λ setting size. Then (AsksRegion setting size) (λ found. Gives (aim_of c.args.image.now size))) c.in_ok-geometry.geometry _ _ _ _ _ c.in_ok-geometry.ensures.does
    (leads-on (λ setting. AsksRegion setting c.in_ok-geometry.geometry) (λ setting found. Gives (aim_of c.args.image.now c.in_ok-geometry.geometry)) _ _ _ _ _ _ c.in_ok-ask_region.ensures.does
    (gives (λ setting. aim_of c.args.image.now c.in_ok-geometry.geometry) _ _ _ c.aim_at.ensures.told))))
