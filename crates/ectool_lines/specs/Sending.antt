-- A command of the code, as the definitions have it.
use Rattle.std.specs.Prelude.{◌≡◌, ◌⊎◌, ℕ, ◌*◌, List, [], length}
use Rattle.ectool_lines.specs.declared.commands.Command.{Command}
use Rattle.ectool_lines.specs.declared.tool.Tool.{Tool}
use Rattle.ectool_lines.specs.declared.tool.Tool.TheVariants.{Version, ChipInfo, CmdVersions, ProtoInfo, FlashInfo, RegionInfo, FlashRead, FlashWrite, FlashProtect, Hash, HashStart, HashRange, Sysinfo, RebootCold, Test}
use Rattle.ectool_lines.specs.Requests.{Asked, command_of}

-- the command that is sent, with its body
abbrev pub asked_of : Command → List ℕ → Asked
asked_of command body = record { command = command.number; version = command.version; body = body; want = command.want }

-- at most how many bytes a reply with a body of so many gives to a line's text
abbrev pub most_text : Tool → (size : ℕ) → ℕ
most_text (FlashRead at count) size = 2 * size
most_text (FlashWrite at bytes) size = 0
most_text (Test ec_result ret_len bytes) size = 2 * size
most_text other size = 500

-- how many bytes of columns a reply has that the line's text tells
abbrev pub columns_of : Tool → ℕ
columns_of Version = 100
columns_of ChipInfo = 96
columns_of (CmdVersions number) = 4
columns_of ProtoInfo = 12
columns_of FlashInfo = 24
columns_of (RegionInfo region) = 8
columns_of (FlashProtect mask flags) = 12
columns_of Hash = 76
columns_of (HashStart image nonce) = 76
columns_of (HashRange at size) = 76
columns_of Sysinfo = 12
columns_of other = 0

-- a reply has all of them
abbrev pub HasColumns : Tool → List ℕ → Type 0
HasColumns Version reply = length reply ≡ 100
HasColumns ChipInfo reply = length reply ≡ 96
HasColumns (CmdVersions number) reply = length reply ≡ 4
HasColumns ProtoInfo reply = length reply ≡ 12
HasColumns FlashInfo reply = length reply ≡ 24
HasColumns (RegionInfo region) reply = length reply ≡ 8
HasColumns (FlashProtect mask flags) reply = length reply ≡ 12
HasColumns Hash reply = length reply ≡ 76
HasColumns (HashStart image nonce) reply = length reply ≡ 76
HasColumns (HashRange at size) reply = length reply ≡ 76
HasColumns Sysinfo reply = length reply ≡ 12
HasColumns RebootCold reply = (length reply ≡ 12) ⊎ (reply ≡ [])
HasColumns other reply = Unit {0}

-- the body of a success: as many bytes as one of the line's commands wants, or, where a saved status was asked for, none
abbrev pub IsReply : Tool → List ℕ → Type 0
IsReply tool reply = ((limit k : ℕ) × (length reply ≡ (command_of limit tool k).want)) ⊎ (reply ≡ [])
