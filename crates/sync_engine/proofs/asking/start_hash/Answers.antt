use Rattle.sync_engine.proofs.Asked.{confirms}
use Rattle.sync_engine.proofs.asking.start_hash.Goals as goal

pub returns : goal.returns
returns g c = record { does = confirms 0x2A 0 _ _ 76 _ c.send.result _ _ _ _ c.write_hash_ask.ensures.asked c.send.ensures.tries (c.confirm.ensures.told _) }
