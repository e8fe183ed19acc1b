use Rattle.command_laws.proofs.Upsets.{none-lost, upset-each}
use Rattle.command_laws.proofs.commands.upset_commands_are_upset.Goals as goal

pub returns : goal.returns
returns c = λ setting request want view table entries last valid kind on proper steps run tries. upset-each setting request want view entries table last (none-lost setting request want proper) valid kind on steps run tries
