use Rattle.std.proofs.Common.{refl}
use Rattle.exchange_laws.specs.Resting.{is_waiting}
use Rattle.host_framing.specs.Room.{waiting_room}
use Rattle.command_laws.proofs.Commanding.{command-calm}
use Rattle.command_laws.proofs.commands.commands_are_carried.Goals as goal

pub returns : goal.returns
returns c = λ setting request want view core table entries said last open_ proper has quiet run tries.
    command-calm setting request want view core table entries said last (waiting_room setting.bus (is_waiting table.power)) open_ proper refl has quiet run tries
