-- Commands in a row, each asked of what the one before left.
use Rattle.std.specs.Prelude.{ℕ, false, List, [], ◌∷◌}
use Rattle.ec_types.specs.declared.reset.ResetCause.TheVariants.{Cold}
use Rattle.ec_model.specs.Commands.{Command}
use Rattle.ec_model.specs.Answer.{Outcome, Answered, Restarts}
use Rattle.ec_model.specs.Table.{Core}
use Rattle.ec_model.specs.Boot.{booted}
use Rattle.ec_model.specs.Handle.{row}

-- a command, its version, and its body
abbrev pub Asked : Type 0
Asked = Command × ℕ × List ℕ

-- the core behind a command's outcome: behind a restart, that of a boot
abbrev pub core_behind : Core → Outcome → Core
core_behind core (Answered after status body) = after
core_behind core Restarts = booted core.flash core.pin Cold false

-- the replies before others, each a status and a body: a restart has none
abbrev pub reply_before : Outcome → List (ℕ × List ℕ) → List (ℕ × List ℕ)
reply_before (Answered after status body) replies = (status, body) ∷ replies
reply_before Restarts replies = replies

-- the replies to commands on a bus with this limit
abbrev pub replies_within : ℕ → List Asked → Core → List (ℕ × List ℕ)
replies_within limit [] core = []
replies_within limit (asked ∷ more) core =
    let outcome = row core limit asked.0 asked.1 asked.2 in
    reply_before outcome (replies_within limit more (core_behind core outcome))

-- the replies to commands on LPC
abbrev pub replies : List Asked → Core → List (ℕ × List ℕ)
replies asked core = replies_within 256 asked core

-- the core behind commands
abbrev pub core_after : List Asked → Core → Core
core_after [] core = core
core_after (asked ∷ more) core = core_after more (core_behind core (row core 256 asked.0 asked.1 asked.2))
