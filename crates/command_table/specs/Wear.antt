-- How many operations of a request are wear at most, whatever the flash holds.
use Rattle.std.specs.Prelude.{ℕ, ◌+◌, ◌/◌, Result, Ok, Err}
use Rattle.ec_model.specs.Commands.{Command, FlashWrite, FlashProtect}
use Rattle.ec_model.specs.Handle.{Admitted}

-- how many pieces of 64 bytes a write of so many bytes has
abbrev pub piece_count : ℕ → ℕ
piece_count count = (count + 63) / 64

-- of a command: the pieces of a write, and the erase and the programs of a change of the stored protection
abbrev pub command_wear : Command → ℕ
command_wear FlashWrite = 9
command_wear FlashProtect = 4
command_wear other = 0

-- of what was found in a request: none where it was refused
abbrev pub found_wear : Result Admitted ℕ → ℕ
found_wear (Ok ask) = command_wear ask.command
found_wear (Err status) = 0
