-- How much of a wire's room a send takes.
use Rattle.std.specs.Prelude.{◌≡◌, ℕ, ◌+◌, Bool, true, List, length, IsTrue}
use Rattle.flash_dev.specs.Told.{Changes}
use Rattle.ec_types.specs.declared.bus.BusKind.{BusKind}
use Rattle.ec_types.specs.declared.bus.BusKind.TheVariants.{Lpc, I2c, Spi}
use Rattle.ec_model.specs.Heard.{Heard, Reply, Bad, Silent}
use Rattle.ec_model.specs.Table.{Table}
use Rattle.ec_model.specs.Upset.{IsUndisturbed}
use Rattle.ec_wire.specs.Calls.{WireView, Agrees}
use Rattle.exchange_laws.specs.Resting.{is_waiting}
use Rattle.host_framing.specs.Clean.{since}

-- the accesses and waits of an undisturbed send, by the lengths of the packet and of its response: those around the bytes of both
abbrev pub send_room : BusKind → ℕ → ℕ → ℕ
send_room Lpc request response = request + response + 5
send_room I2c request response = request + response + 6
send_room Spi request response = request + response + 5

-- on LPC, where a request waits: a wait and a look more
abbrev pub waiting_room : BusKind → Bool → ℕ
waiting_room Lpc true = 2
waiting_room other waiting = 0

-- the send heard a response, and took just the room of an undisturbed one
abbrev pub TakesRoom : List ℕ → Heard → Table → WireView → WireView → Type 0
TakesRoom packet (Reply response) told old new =
    new.spare + send_room old.bus (length packet) (length response) + waiting_room old.bus (is_waiting told.power) ≡ old.spare
TakesRoom packet Bad told old new = ⊥
TakesRoom packet Silent told old new = ⊥

-- from a table that is on, and with nothing that disturbed the call: just that much room was taken
abbrev pub TakesWhereCalm : List ℕ → Heard → WireView → WireView → Type 0
TakesWhereCalm packet heard old new =
    Changes (λ told left. Agrees old.bus old.on told → IsTrue old.on → IsUndisturbed (since old new) → TakesRoom packet heard told old new) old.table new.table
