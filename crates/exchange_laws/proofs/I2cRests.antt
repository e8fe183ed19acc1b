-- On I2C no request waits for a tick.
use Rattle.std.proofs.Common.{◌≡◌, refl, ◌∙◌, false, List, length}
use Rattle.std.specs.Prelude.{is_some}
use Rattle.ec_types.specs.declared.bus.BusKind.TheVariants.{I2c}
use Rattle.ec_model.specs.declared.event.Entry.{Entry}
use Rattle.ec_model.specs.Bus.{BusState, OnLpc, OnI2c, OnSpi, kind_of, due_at_tick}
use Rattle.ec_model.specs.Run.{IsRun}
use Rattle.ec_model.specs.Table.{Table, Power, Off, On, Valid, IsPowerValid}
use Rattle.ec_model.proofs.RunLaws.{run-valid, run-kind}
use Rattle.exchange_laws.specs.Resting.{is_waiting, Rests}

-- no request waits on a bus of this kind
none-at-tick : (bus : BusState) → kind_of bus ≡ I2c → is_some (due_at_tick bus) ≡ false
none-at-tick (OnLpc state) kind = absurd (cc)
none-at-tick (OnI2c state) kind = refl
none-at-tick (OnSpi state) kind = absurd (cc)

-- by the power of a valid table
none-by : (table : Table) (power : Power) → IsPowerValid (length table.flash) table.kind power → table.kind ≡ I2c → is_waiting power ≡ false
none-by table Off valid kind = refl
none-by table (On awake) valid kind = none-at-tick awake.bus (valid.bus_kind ∙ kind)

-- no request waits behind a run
pub i2c-rest : (old : Table) (entries : List Entry) (new : Table) → Valid old → old.kind ≡ I2c → IsRun old entries new → Rests new
i2c-rest old entries new valid kind run = none-by new new.power (run-valid old entries new valid run).power (run-kind old entries new valid run ∙ kind)
