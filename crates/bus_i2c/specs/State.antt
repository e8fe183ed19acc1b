-- The state that the machine stands for.
use Rattle.std.specs.Prelude.{ℕ, List, drop}
use Rattle.ec_model.specs.Bus.{I2cState, Idle, Writing, Asked, Reading}
use Rattle.bus_i2c.specs.declared.phase.Phase.{Phase}
use Rattle.bus_i2c.specs.declared.phase.Phase.TheVariants.{Idle as IdlePhase, Writing as WritingPhase, Asked as AskedPhase, Reading as ReadingPhase}

-- what was written, behind its first byte where it is a request, or what is left of the reply
abbrev pub i2c_of : Phase → (written reply : List ℕ) → ℕ → I2cState
i2c_of IdlePhase written reply next = Idle written
i2c_of WritingPhase written reply next = Writing written
i2c_of AskedPhase written reply next = Asked (drop 1 written)
i2c_of ReadingPhase written reply next = Reading (drop next reply)
