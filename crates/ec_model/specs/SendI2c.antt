-- One send on I2C.
use Rattle.std.specs.Prelude.{◌≡◌, ◌≢◌, ◌≤◌, ℕ, ◌+◌, Bool, ◌&&◌, nat_le, if◌then◌else◌, List, [], ◌∷◌, ◌++◌, length, take, replicate}
use Rattle.ec_model.specs.declared.event.Access.TheVariants.{I2cStartWrite, I2cStartRead, I2cRead, I2cStop}
use Rattle.ec_model.specs.HostCalls.{HostCall, Did}
use Rattle.ec_model.specs.Heard.{Heard, Bad, Silent, reads_in_row, i2c_writes, heard_with, heard_if}

-- the host's first two steps on I2C: all bytes were taken
pub record I2cAsked (packet : List ℕ) (calls : List HostCall) : Type 0 where
  pub made : calls ≡ Did I2cStartWrite 0 ∷ i2c_writes (0xDA ∷ packet) (replicate (1 + length packet) 0)

-- I2C: all bytes were written, whatever was answered
pub record I2cPut (packet : List ℕ) (calls : List HostCall) : Type 0 where
  pub gots : List ℕ
  pub each : length gots ≡ 1 + length packet
  pub made : calls ≡ Did I2cStartWrite 0 ∷ i2c_writes (0xDA ∷ packet) gots

-- I2C: the start was not taken
pub record I2cUnstarted (calls : List HostCall) : Type 0 where
  pub got : ℕ
  pub stopped : ℕ
  pub refused : got ≢ 0
  pub made : calls ≡ Did I2cStartWrite got ∷ Did I2cStop stopped ∷ []

-- I2C: some byte was not taken
pub record I2cUnwritten (packet : List ℕ) (calls : List HostCall) : Type 0 where
  pub taken : ℕ
  pub got : ℕ
  pub stopped : ℕ
  pub some : taken ≤ length packet
  pub refused : got ≢ 0
  pub made : calls ≡ Did I2cStartWrite 0 ∷ i2c_writes (take (taken + 1) (0xDA ∷ packet)) (replicate taken 0 ++ got ∷ []) ++ Did I2cStop stopped ∷ []

-- I2C: the start of the read was not taken
pub record I2cUnread (packet : List ℕ) (calls : List HostCall) : Type 0 where
  pub first : List HostCall
  pub got : ℕ
  pub stopped : ℕ
  pub asked : I2cAsked packet first
  pub refused : got ≢ 0
  pub made : calls ≡ first ++ Did I2cStartRead got ∷ Did I2cStop stopped ∷ []

-- whether a length on I2C is that of a packet
abbrev pub is_i2c_length : ℕ → Bool
is_i2c_length size = nat_le 8 size && nat_le size 128

-- I2C: a result byte, a length and as many bytes were read, where the length may be
pub record I2cServed (packet : List ℕ) (calls : List HostCall) (heard : Heard) : Type 0 where
  pub first : List HostCall
  pub outcome : ℕ
  pub size : ℕ
  pub bytes : List ℕ
  pub stopped : ℕ
  pub asked : I2cAsked packet first
  pub whole : length bytes ≡ (if is_i2c_length size then size else 0)
  pub made : calls ≡ first ++ Did I2cStartRead 0 ∷ Did I2cRead outcome ∷ Did I2cRead size ∷ reads_in_row I2cRead bytes ++ Did I2cStop stopped ∷ []
  pub heard_is : heard ≡ heard_if (is_i2c_length size) (heard_with outcome bytes)

-- one send on I2C
pub data I2cSend (packet : List ℕ) (calls : List HostCall) (heard : Heard) : Type 0 where
  I2cWasUnstarted : I2cUnstarted calls → heard ≡ Silent → I2cSend packet calls heard
  I2cWasUnwritten : I2cUnwritten packet calls → heard ≡ Bad → I2cSend packet calls heard
  I2cWasUnread : I2cUnread packet calls → heard ≡ Bad → I2cSend packet calls heard
  I2cWasServed : I2cServed packet calls heard → I2cSend packet calls heard
