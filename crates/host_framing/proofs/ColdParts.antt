-- The sending of a request that has no reply, put together from its parts.
use Rattle.std.proofs.Common.{◌≡◌, refl, sym, subst, ℕ, ◌+◌, true, false, List, [], ◌∷◌, ◌++◌, length, take, replicate, append_assoc}
use Rattle.ec_types.specs.declared.bus.BusKind.{BusKind}
use Rattle.ec_types.specs.declared.bus.BusKind.TheVariants.{Lpc, I2c, Spi}
use Rattle.ec_model.specs.declared.event.Access.TheVariants.{I2cStartWrite, I2cStartRead, I2cStop, SpiDeselect}
use Rattle.ec_model.specs.HostCalls.{HostCall, Did, Waited}
use Rattle.ec_model.specs.Heard.{i2c_writes}
use Rattle.ec_model.specs.Send.{ColdBy, LpcColdBlocked, LpcColdDone, I2cColdUnstarted, I2cColdUnwritten, I2cColdDone}
use Rattle.ec_wire.specs.Calls.{WireView, Made}
use Rattle.ec_wire.proofs.Growth.{made-then}
use Rattle.host_framing.specs.Parts.{LpcAsks, Quiets}
use Rattle.host_framing.specs.I2cParts.{IsRefused, IsCutShort}
use Rattle.host_framing.specs.SpiParts.{Asks}
use Rattle.host_framing.specs.ColdParts.{SendsCold, TalksCold}
use Rattle.host_framing.proofs.I2cParts.{asked_calls, asked-made}

-- calls that were made are those of entries that were added
cold-by : (bus : BusKind) (packet : List ℕ) (calls : List HostCall) (old new : WireView) → ColdBy bus packet calls → Made calls old new → SendsCold bus packet old new
cold-by bus packet calls old new sent made =
    record { added = made.added; grows = made.grows; sent = (made.grows.calls, subst (λ (xs : List HostCall). ColdBy bus packet xs) (sym made.calls_are) sent) }

-- LPC: the bus was busy to the end
pub lpc-blocked : (packet : List ℕ) (old new : WireView) → LpcAsks packet false old new → SendsCold Lpc packet old new
lpc-blocked packet old new asks = cold-by Lpc packet asks.calls old new (LpcColdBlocked asks.asked) asks.made

-- LPC: the packet was written, and a wait followed
pub lpc-done : (packet : List ℕ) (old first new : WireView) → LpcAsks packet true old first → Made (Waited ∷ []) first new → SendsCold Lpc packet old new
lpc-done packet old first new asks wait =
    cold-by Lpc packet (asks.calls ++ Waited ∷ []) old new (LpcColdDone (record { first = asks.calls; asked = asks.asked; made = refl })) (made-then _ _ _ _ _ asks.made wait)

-- I2C: a start that was not taken
pub talks-unstarted : (packet : List ℕ) (old new : WireView) → IsRefused I2cStartWrite old new → TalksCold packet old new
talks-unstarted packet old new start =
    record {
      calls = Did I2cStartWrite start.got ∷ [];
      ends = λ stopped. I2cColdUnstarted (record { got = start.got; stopped = stopped; refused = start.refused; made = refl });
      made = start.made;
    }

-- I2C: a byte that was not taken
pub talks-unwritten : (packet bytes : List ℕ) (old first new : WireView) → bytes ≡ packet → Made (Did I2cStartWrite 0 ∷ []) old first → IsCutShort bytes first new → TalksCold packet old new
talks-unwritten packet bytes old first new same start writes =
    let short = subst (λ (xs : List ℕ). IsCutShort xs first new) same writes in
    record {
      calls = Did I2cStartWrite 0 ∷ i2c_writes (take (short.taken + 1) (0xDA ∷ packet)) (replicate short.taken 0 ++ short.got ∷ []);
      ends = λ stopped. I2cColdUnwritten (record { taken = short.taken; got = short.got; stopped = stopped; some = short.some; refused = short.refused; made = refl });
      made = made-then _ _ _ _ _ start short.made;
    }

-- I2C: the packet was taken, and the start of a read followed
pub talks-done : (packet bytes : List ℕ) (got : ℕ) (old first second new : WireView) → bytes ≡ packet → Made (Did I2cStartWrite 0 ∷ []) old first → Made (i2c_writes (0xDA ∷ bytes) (replicate (1 + length bytes) 0)) first second → Made (Did I2cStartRead got ∷ []) second new →
    TalksCold packet old new
talks-done packet bytes got old first second new same start writes again =
    record {
      calls = asked_calls packet ++ Did I2cStartRead got ∷ [];
      ends = λ stopped. I2cColdDone (record {
        first = asked_calls packet;
        got = got;
        stopped = stopped;
        asked = record { made = refl };
        made = append_assoc (asked_calls packet) (Did I2cStartRead got ∷ []) (Did I2cStop stopped ∷ []);
      });
      made = made-then _ _ _ _ _ (asked-made packet bytes old first second same start writes) again;
    }

-- I2C: a stop behind them
pub i2c-stopped : (packet : List ℕ) (old first new : WireView) → TalksCold packet old first → Quiets I2c first new → SendsCold I2c packet old new
i2c-stopped packet old first new talks stop =
    cold-by I2c packet (talks.calls ++ Did I2cStop stop.quiet.1.got ∷ []) old new (talks.ends stop.quiet.1.got)
    (made-then _ _ _ _ _ talks.made (record { added = stop.added; grows = stop.grows; calls_are = stop.quiet.1.made }))

-- SPI: a wait and a deselect behind the packet
pub spi-deselected : (packet : List ℕ) (stopped : ℕ) (old first second new : WireView) → Asks packet old first → Made (Waited ∷ []) first second → Made (Did SpiDeselect stopped ∷ []) second new → SendsCold Spi packet old new
spi-deselected packet stopped old first second new asks wait stop =
    cold-by Spi packet (asks.calls ++ Waited ∷ Did SpiDeselect stopped ∷ []) old new (record { first = asks.calls; stopped = stopped; asked = asks.asked; made = refl })
    (made-then _ _ _ _ _ asks.made (made-then _ _ _ _ _ wait stop))
