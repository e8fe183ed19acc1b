-- Undisturbed calls of a wire on I2C.
use Rattle.std.proofs.Common.{◌≡◌, sym, ◌∙◌, subst, ℕ, ◌≤◌, true, List, length, arith}
use Rattle.ec_types.specs.declared.bus.BusKind.TheVariants.{I2c}
use Rattle.ec_model.specs.Upset.{IsUndisturbed}
use Rattle.ec_model.specs.HostCalls.{calls_of}
use Rattle.ec_model.specs.Run.{IsRun}
use Rattle.ec_model.specs.Table.{Table}
use Rattle.ec_model.specs.Heard.{Heard, Reply}
use Rattle.ec_model.specs.Syncable.{settled}
use Rattle.ec_wire.specs.Calls.{WireView, Agrees}
use Rattle.exchange_laws.specs.Served.{IsPlain, ServesPacket}
use Rattle.exchange_laws.proofs.I2cSend.{i2c-calm, i2c-quiet}
use Rattle.exchange_laws.proofs.I2cOff.{i2c-off}
use Rattle.exchange_laws.proofs.I2cRests.{i2c-rest}
use Rattle.exchange_laws.proofs.I2cCounts.{i2c-counts}
use Rattle.host_framing.specs.Parts.{Sends, Quiets}
use Rattle.host_framing.specs.Clean.{since, ServesWhereCalm, SettlesWhereCalm, CausedWhereCalm, RestsBehind}
use Rattle.host_framing.specs.Room.{TakesRoom, TakesWhereCalm}
use Rattle.host_framing.proofs.CleanLemmas.{changes-map, serves-calm, caused-calm, settles-calm}

-- an undisturbed stop
pub i2c-settles : (old new : WireView) → old.bus ≡ I2c → Quiets I2c old new → SettlesWhereCalm old new
i2c-settles old new kind quiets =
    settles-calm I2c old new kind quiets (λ told awake left valid on is lead. i2c-quiet told awake (calls_of quiets.added) left valid on is quiets.quiet.1 lead)

-- an undisturbed send to a controller that is on
pub i2c-serves : (packet : List ℕ) (heard : Heard) (old new : WireView) → old.bus ≡ I2c → IsPlain packet → length packet ≤ 128 → Sends I2c packet heard old new → ServesWhereCalm packet heard old new
i2c-serves packet heard old new kind plain short sends =
    serves-calm I2c packet heard old new kind sends (λ told awake left valid on is lead. i2c-calm told awake packet (calls_of sends.added) heard left valid on is plain short sends.sent.1 lead)

-- what an undisturbed send heard
pub i2c-caused : (packet : List ℕ) (heard : Heard) (old new : WireView) → old.bus ≡ I2c → IsPlain packet → length packet ≤ 128 → Sends I2c packet heard old new → CausedWhereCalm heard old new
i2c-caused packet heard old new kind plain short sends =
    caused-calm I2c packet heard old new kind sends (λ told awake left valid on is lead. i2c-calm told awake packet (calls_of sends.added) heard left valid on is plain short sends.sent.1 lead)
    (λ told left off lead. i2c-off told packet (calls_of sends.added) heard left off sends.sent.1 lead)

-- no request waits behind a send
pub i2c-rests : (packet : List ℕ) (heard : Heard) (old new : WireView) → old.bus ≡ I2c → Sends I2c packet heard old new → RestsBehind old new
i2c-rests packet heard old new kind sends =
    changes-map _ _ old.table new.table (λ (told left : Table) (run : IsRun told sends.added left) (agrees : Agrees old.bus old.on told).
    i2c-rest told sends.added left agrees.valid (agrees.kind_is ∙ kind) run) sends.grows.run

-- the room of a send that heard a reply
takes-reply : (packet response : List ℕ) (told : Table) (old new : WireView) → old.bus ≡ I2c → Sends I2c packet (Reply response) old new → TakesRoom packet (Reply response) told old new
takes-reply packet response told old new kind sends =
    let counted = i2c-counts packet (calls_of sends.added) response sends.sent.1 in
    rw kind (omega (arith, counted, sends.grows.room))

-- the room of a send that was served
takes-served : (packet : List ℕ) (heard : Heard) (told left : Table) (old new : WireView) → old.bus ≡ I2c → Sends I2c packet heard old new → (response : List ℕ) → heard ≡ Reply response → TakesRoom packet heard told old new
takes-served packet heard told left old new kind sends response same =
    subst (λ (h : Heard). TakesRoom packet h told old new) (sym same) (takes-reply packet response told old new kind (subst (λ (h : Heard). Sends I2c packet h old new) same sends))

-- an undisturbed send takes just its room
pub i2c-takes : (packet : List ℕ) (heard : Heard) (old new : WireView) → old.bus ≡ I2c → IsPlain packet → length packet ≤ 128 → Sends I2c packet heard old new → TakesWhereCalm packet heard old new
i2c-takes packet heard old new kind plain short sends =
    changes-map _ _ old.table new.table (λ (told left : Table) (serves : Agrees old.bus old.on told → old.on ≡ true → IsUndisturbed (since old new) → ServesPacket packet (settled told) heard left) (agrees : Agrees old.bus old.on told) (on : old.on ≡ true) (calm : IsUndisturbed (since old new)).
    takes-served packet heard told left old new kind sends _ (serves agrees on calm).heard_is) (i2c-serves packet heard old new kind plain short sends)
