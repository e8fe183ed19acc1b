use Rattle.ec_model.specs.Ranges.{rw_range}
use Rattle.sync_rules.specs.Requests.{erase_request}
use Rattle.sync_rules.specs.Steps.{Confirms, WritesFrom, pieces, piece_length}
use Rattle.sync_engine.proofs.Chains.{leads-on, stops}
use Rattle.sync_engine.proofs.writing.install.Goals as goal

pub returns-in_err-erase : goal.returns-in_err-erase
returns-in_err-erase g c = record { does = stops (λ setting. Confirms setting (erase_request (rw_range c.args.geometry))) (λ setting erased. WritesFrom (pieces (rw_range c.args.geometry).size (piece_length setting)) 0 setting c.args.image.now c.args.geometry) _ _ _ _ _ c.from_residual.ensures c.in_err-erase.ensures.does }

pub returns : goal.returns
returns g c = record {
  does = leads-on (λ setting. Confirms setting (erase_request (rw_range c.args.geometry))) (λ setting erased. WritesFrom (pieces (rw_range c.args.geometry).size (piece_length setting)) 0 setting c.args.image.now c.args.geometry) _ _ _ _ _ _ c.in_ok-erase.ensures.does
      (c.write_all.ensures.does);
}
