-- What the code reads in a request.
use Rattle.std.specs.Prelude.{◌≡◌, ℕ, ◌==◌, if◌then◌else◌, List, [], IsTrue, IsFalse, Option, Some, None, Result, Ok, Err}
use Rattle.ec_model.specs.Commands.{Command, CommandLine, is_spelled, Proto, Hello, Version, Chip, CmdVersions, Comms, Test, ProtoInfo, FlashInfo, FlashRead, FlashWrite, FlashErase, FlashProtect, RegionInfo, Sysinfo, VbootHash, Reboot, Resend}
use Rattle.ec_model.specs.Bodies.{hello_ask, cmd_versions_ask0, cmd_versions_ask1, test_ask, region_info_ask, flash_read_ask, flash_write_ask, flash_erase_ask, flash_protect_ask, vboot_hash_ask, reboot_ask}
use Rattle.ec_model.specs.Packet.{RequestView}
use Rattle.ec_model.specs.Handle.{Admitted}
use Rattle.ec_params.specs.declared.hash.VbootHashAsk.{VbootHashAsk}
use Rattle.command_table.specs.declared.asks.Question.{Question}
use Rattle.command_table.specs.declared.asks.Question.TheVariants.{Proto as AsksProto, Hello as AsksHello, Chip as AsksChip, CmdVersions as AsksVersions, Comms as AsksComms, Test as AsksTest, ProtoInfo as AsksProtoInfo, FlashInfo as AsksFlashInfo, RegionInfo as AsksRegion}
use Rattle.command_table.specs.declared.asks.Ask.{Ask}
use Rattle.command_table.specs.declared.asks.Ask.TheVariants.{Question as Asks, Version as AsksVersion, FlashRead as AsksRead, FlashWrite as AsksWrite, FlashErase as AsksErase, FlashProtect as AsksProtect, Sysinfo as AsksSysinfo, Hash as AsksHash, Reboot as AsksReboot, Resend as AsksResend}

-- the command of a question
abbrev pub question_command : Question → Command
question_command AsksProto = Proto
question_command (AsksHello ask) = Hello
question_command AsksChip = Chip
question_command (AsksVersions command) = CmdVersions
question_command AsksComms = Comms
question_command (AsksTest ask) = Test
question_command AsksProtoInfo = ProtoInfo
question_command AsksFlashInfo = FlashInfo
question_command (AsksRegion ask) = RegionInfo

-- the command that is asked
abbrev pub ask_command : Ask → Command
ask_command (Asks question) = question_command question
ask_command AsksVersion = Version
ask_command (AsksRead ask) = FlashRead
ask_command (AsksWrite ask) = FlashWrite
ask_command (AsksErase ask) = FlashErase
ask_command (AsksProtect ask) = FlashProtect
ask_command AsksSysinfo = Sysinfo
ask_command (AsksHash ask) = VbootHash
ask_command (AsksReboot ask) = Reboot
ask_command AsksResend = Resend

-- the body that names a command, in each version
abbrev pub named : ℕ → ℕ → List ℕ
named version command = if version == 0 then cmd_versions_ask0 command else cmd_versions_ask1 command

-- the body that spells a question
abbrev pub question_body : ℕ → Question → List ℕ
question_body version (AsksHello ask) = hello_ask ask.x
question_body version (AsksVersions command) = named version command
question_body version (AsksTest ask) = test_ask ask.ec_result ask.ret_len ask.buf
question_body version (AsksRegion ask) = region_info_ask ask.region
question_body version other = []

-- the body that spells a VBOOT_HASH
abbrev pub hash_body : VbootHashAsk → List ℕ
hash_body ask = vboot_hash_ask ask.cmd ask.hash_type ask.nonce_size ask.reserved ask.offset ask.size ask.nonce

-- the body that spells what is asked
abbrev pub ask_body : ℕ → Ask → List ℕ
ask_body version (Asks question) = question_body version question
ask_body version AsksVersion = []
ask_body version (AsksRead ask) = flash_read_ask ask.offset ask.size
ask_body version (AsksWrite ask) = flash_write_ask ask.offset ask.bytes.now
ask_body version (AsksErase ask) = flash_erase_ask ask.offset ask.size
ask_body version (AsksProtect ask) = flash_protect_ask ask.mask ask.flags
ask_body version AsksSysinfo = []
ask_body version (AsksHash ask) = hash_body ask
ask_body version (AsksReboot ask) = reboot_ask ask.cmd ask.flags
ask_body version AsksResend = []

-- what a body says to the command of a line: nothing exactly where it is no spelling
abbrev pub IsAskOf : Option CommandLine → ℕ → List ℕ → Option Ask → Type 0
IsAskOf None version body result = result ≡ None
IsAskOf (Some found) version body None = IsFalse (is_spelled found.command version body)
IsAskOf (Some found) version body (Some ask) = IsTrue (is_spelled found.command version body) × (ask_command ask ≡ found.command) × (body ≡ ask_body version ask)

-- a request that passed the checks
pub record IsPassed (request : RequestView) (found : Result Admitted ℕ) (ask : Ask) : Type 0 where
  pub same : found ≡ Ok (record { command = ask_command ask; version = request.version; body = ask_body request.version ask })
  pub spelled : request.body ≡ ask_body request.version ask

-- a request that passed the checks, or the status of the first that failed
abbrev pub IsAdmittedAs : RequestView → Result Admitted ℕ → Result Ask ℕ → Type 0
IsAdmittedAs request found (Ok ask) = IsPassed request found ask
IsAdmittedAs request found (Err status) = found ≡ Err status
