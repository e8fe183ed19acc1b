use Rattle.std.proofs.Common.{ap, ◌∙◌, ℕ, rules}
use Rattle.ec_model.specs.Commands.{known}
use Rattle.ec_model.specs.InfoRows.{mask_told}
use Rattle.command_table.proofs.AskLemmas.{named-read}
use Rattle.command_table.proofs.questions.tell.Goals as goal

pub returns-in-Hello-clause-row : goal.returns-in-Hello-clause-row
returns-in-Hello-clause-row c = λ core same idle. rw c.in-Hello.is (c.hello.ensures.row core)

pub returns-in-Chip-clause-row : goal.returns-in-Chip-clause-row
returns-in-Chip-clause-row c = λ core same idle. rw c.in-Chip.is (c.chip.ensures.row core)

pub returns-in-CmdVersions-clause-row : goal.returns-in-CmdVersions-clause-row
returns-in-CmdVersions-clause-row c = λ core same idle.
    rw c.in-CmdVersions.is (ap (λ (number : ℕ). mask_told core (known number)) (named-read c.args.version c.in-CmdVersions.command (search rules)) ∙ c.cmd_versions.ensures.row core)
