use Rattle.command_laws.proofs.UpsetColds.{upset-cold}
use Rattle.command_laws.proofs.restarts.upset_colds_are_upset.Goals as goal

pub returns : goal.returns
returns c = λ setting view table entries last valid kind on steps run restarts. upset-cold setting view table entries last valid kind on steps run restarts
