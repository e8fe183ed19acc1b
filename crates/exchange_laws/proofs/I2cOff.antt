-- A send on I2C to a controller that is off hears nothing: the start is not taken.
use Rattle.std.proofs.Common.{◌≡◌, ap, ◌∙◌, subst, ℕ, ◌+◌, List, [], ◌∷◌, ◌++◌, length, replicate, append_assoc}
use Rattle.ec_model.specs.declared.event.Access.TheVariants.{I2cStartWrite, I2cStartRead, I2cRead, I2cStop}
use Rattle.ec_model.specs.HostCalls.{HostCall, Did}
use Rattle.ec_model.specs.Heard.{Heard, Silent, i2c_writes, reads_in_row}
use Rattle.ec_model.specs.SendI2c.{I2cAsked, I2cSend, I2cWasUnstarted, I2cWasUnwritten, I2cWasUnread, I2cWasServed}
use Rattle.ec_model.specs.Table.{Table, Off}
use Rattle.exchange_laws.specs.Calm.{CallsLead}
use Rattle.exchange_laws.proofs.OffLead.{off-did}

-- the first call of a send starts a write
off-start : (table : Table) (got : ℕ) (calls rest : List HostCall) (new : Table) → table.power ≡ Off → calls ≡ Did I2cStartWrite got ∷ rest → CallsLead table calls new → got ≡ 0xFF
off-start table got calls rest new off made lead = (off-did table I2cStartWrite got rest new off (subst (λ (xs : List HostCall). CallsLead table xs new) made lead)).0

-- a controller that is off takes no start
off-asked : (table : Table) (packet : List ℕ) (calls first rest : List HostCall) (new : Table) → table.power ≡ Off → I2cAsked packet first → calls ≡ first ++ rest → CallsLead table calls new → ⊥
off-asked table packet calls first rest new off asked made lead =
    let grouped : calls ≡ Did I2cStartWrite 0 ∷ (i2c_writes (0xDA ∷ packet) (replicate (1 + length packet) 0) ++ rest) = made ∙ ap (λ (xs : List HostCall). xs ++ rest) asked.made in
    let e = off-start table 0 calls _ new off grouped lead in
    cc

-- a send to a controller that is off hears nothing
pub i2c-off : (table : Table) (packet : List ℕ) (calls : List HostCall) (heard : Heard) (new : Table) → table.power ≡ Off → I2cSend packet calls heard → CallsLead table calls new → heard ≡ Silent
i2c-off table packet calls heard new off (I2cWasUnstarted unstarted silent) lead = silent
i2c-off table packet calls heard new off (I2cWasUnwritten unwritten bad) lead = absurd (let e = off-start table 0 calls _ new off unwritten.made lead in cc)
i2c-off table packet calls heard new off (I2cWasUnread unread bad) lead = absurd (off-asked table packet calls unread.first _ new off unread.asked unread.made lead)
i2c-off table packet calls heard new off (I2cWasServed served) lead =
    absurd (off-asked table packet calls served.first _ new off served.asked
    (served.made ∙ append_assoc served.first (Did I2cStartRead 0 ∷ Did I2cRead served.outcome ∷ Did I2cRead served.size ∷ reads_in_row I2cRead served.bytes) (Did I2cStop served.stopped ∷ [])) lead)
