use Rattle.std.proofs.Common.{refl}
use Rattle.exchange_laws.specs.Resting.{is_waiting}
use Rattle.host_framing.specs.Room.{waiting_room}
use Rattle.command_laws.proofs.Restarting.{restart-calm}
use Rattle.command_laws.proofs.restarts.colds_restart.Goals as goal

pub returns : goal.returns
returns c = λ setting view core table entries end last open_ has quiet run restarts.
    restart-calm setting view core table entries end last (waiting_room setting.bus (is_waiting table.power)) open_ refl has quiet run restarts
