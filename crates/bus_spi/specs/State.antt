-- The state that the machine stands for.
use Rattle.std.specs.Prelude.{ℕ, ◌<◌, List, drop, length, ⊤}
use Rattle.ec_model.specs.Bus.{SpiState, Deselected, Receiving, Bad, Waiting, Replied}
use Rattle.bus_spi.specs.declared.phase.Phase.{Phase}
use Rattle.bus_spi.specs.declared.phase.Phase.TheVariants.{Deselected as DeselectedPhase, Receiving as ReceivingPhase, Bad as BadPhase, Waiting as WaitingPhase, Replied as RepliedPhase}

-- what came of a request, or what is left of the reply to send
abbrev pub spi_of : Phase → (received reply : List ℕ) → ℕ → SpiState
spi_of DeselectedPhase received reply next = Deselected
spi_of ReceivingPhase received reply next = Receiving received
spi_of BadPhase received reply next = Bad
spi_of WaitingPhase received reply next = Waiting received
spi_of RepliedPhase received reply next = Replied (drop next reply)

-- while a request comes, there is room for one more byte of it
abbrev pub HasRoom : Phase → List ℕ → Type 0
HasRoom ReceivingPhase received = length received < 544
HasRoom DeselectedPhase received = ⊤
HasRoom BadPhase received = ⊤
HasRoom WaitingPhase received = ⊤
HasRoom RepliedPhase received = ⊤
