-- Behind the sending of a request that has no reply no request waits, whatever the world does in it and whatever fails.
use Rattle.std.proofs.Common.{◌≡◌, refl, sym, ap, ◌∙◌, ℕ, true, List, [], ◌∷◌, ◌++◌, append_assoc}
use Rattle.ec_types.specs.declared.bus.BusKind.{BusKind}
use Rattle.ec_types.specs.declared.bus.BusKind.TheVariants.{Lpc, I2c, Spi}
use Rattle.ec_model.specs.declared.event.Access.TheVariants.{SpiDeselect}
use Rattle.ec_model.specs.declared.event.Entry.{Entry}
use Rattle.ec_model.specs.HostCalls.{HostCall, Did, Waited, calls_of}
use Rattle.ec_model.specs.Heard.{Silent}
use Rattle.ec_model.specs.SendLpc.{LpcWasBlocked}
use Rattle.ec_model.specs.Send.{LpcCold, LpcColdBlocked, LpcColdDone, ColdBy}
use Rattle.ec_model.specs.Run.{IsRun}
use Rattle.ec_model.specs.Table.{Table, Valid}
use Rattle.ec_wire.specs.Calls.{WireView, Agrees}
use Rattle.exchange_laws.specs.Resting.{Rests, ends_resting}
use Rattle.exchange_laws.proofs.LpcEnds.{lpc-ends}
use Rattle.exchange_laws.proofs.Rests.{ends-rest}
use Rattle.exchange_laws.proofs.I2cRests.{i2c-rest}
use Rattle.exchange_laws.proofs.SpiRests.{deselected-rests}
use Rattle.host_framing.specs.ColdParts.{SendsCold}
use Rattle.host_framing.specs.Clean.{RestsBehind}
use Rattle.host_framing.proofs.CleanLemmas.{changes-map}

-- calls that end with a wait
ends-waited : (calls : List HostCall) → ends_resting (calls ++ Waited ∷ []) ≡ true
ends-waited [] = refl
ends-waited (Did access byte ∷ calls) = ends-waited calls
ends-waited (Waited ∷ calls) = rw (ends-waited calls) refl

-- LPC: a wait ends it, or the bus was busy to the end of a poll
lpc-ended : (packet : List ℕ) (calls : List HostCall) → LpcCold packet calls → ends_resting calls ≡ true
lpc-ended packet calls (LpcColdBlocked blocked) = lpc-ends packet calls Silent (LpcWasBlocked blocked refl)
lpc-ended packet calls (LpcColdDone done) = ap (λ (xs : List HostCall). ends_resting xs) done.made ∙ ends-waited done.first

-- no request waits, by the bus
rests-by : (bus : BusKind) (packet : List ℕ) (told : Table) (entries : List Entry) (left : Table) → Valid told → told.kind ≡ bus → ColdBy bus packet (calls_of entries) → IsRun told entries left → Rests left
rests-by Lpc packet told entries left valid kind sent run = ends-rest told entries left valid (lpc-ended packet (calls_of entries) sent) run
rests-by I2c packet told entries left valid kind sent run = i2c-rest told entries left valid kind run
rests-by Spi packet told entries left valid kind sent run =
    let made = sent.made ∙ sym (append_assoc sent.first (Waited ∷ []) (Did SpiDeselect sent.stopped ∷ [])) in
    deselected-rests told entries left valid kind (record { before = sent.first ++ Waited ∷ []; stopped = sent.stopped; made = made }) run

-- the same on a wire
pub cold-rests : (packet : List ℕ) (old new : WireView) → SendsCold old.bus packet old new → RestsBehind old new
cold-rests packet old new sends =
    changes-map _ _ old.table new.table (λ (told left : Table) (run : IsRun told sends.added left) (agrees : Agrees old.bus old.on told).
    rests-by old.bus packet told sends.added left agrees.valid agrees.kind_is sends.sent.1 run) sends.grows.run
