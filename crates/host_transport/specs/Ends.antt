-- The ending that an answer tells.
use Rattle.std.specs.Prelude.{ℕ, List}
use Rattle.host_transport.specs.Once.{Ending, Said, Bad as BadEnding, Silent as SilentEnding, NoPower as NoPowerEnding}
use Rattle.host_transport.specs.declared.ending.Once.{Once}
use Rattle.host_transport.specs.declared.ending.Once.TheVariants.{Status, Bad, Silent, NoPower}

-- the ending, by the answer and the reply's body
abbrev pub ending_of : Once → List ℕ → Ending
ending_of (Status status) body = Said status body
ending_of Bad body = BadEnding
ending_of Silent body = SilentEnding
ending_of NoPower body = NoPowerEnding
