-- The rounds of a sync on a wire.
use Rattle.std.proofs.Common.{◌≡◌, refl, sym, subst, ℕ, suc, ◌*◌, ◌||◌, Bool, false, List, [], ◌++◌, append-nil, Option, Some, None, Result, Ok, Err}
use Rattle.ec_types.specs.declared.bus.BusKind.{BusKind}
use Rattle.ec_model.specs.declared.event.Entry.{Entry}
use Rattle.ec_model.specs.HostCalls.{HostView, view_after}
use Rattle.ec_model.specs.Rounds.{round_room}
use Rattle.ec_wire.specs.Calls.{WireView, Grows}
use Rattle.ec_wire.proofs.Growth.{grows-then}
use Rattle.host_transport.specs.Asking.{host_view}
use Rattle.host_transport.proofs.WireParts.{part-at, part-as, parts-as}
use Rattle.sync_rules.specs.declared.ending.Plan.{Plan}
use Rattle.sync_rules.specs.declared.ending.Stop.{Stop}
use Rattle.sync_rules.specs.declared.ending.SyncEnd.{SyncEnd}
use Rattle.sync_rules.specs.declared.ending.SyncEnd.TheVariants.{Disturbed}
use Rattle.sync_rules.specs.Steps.{Plans, CarriesOut}
use Rattle.sync_rules.specs.Syncing.{SyncRound, end_told, RoundLeads, round_setting, SyncsUpTo}
use Rattle.sync_engine.specs.OnWire.{Does, RoundsOn, SyncsOn}
use Rattle.sync_engine.proofs.Loops.{GoesOn}

-- a round whose plan was carried out
pub round-done : (image : List ℕ) (plan : Plan) (floor : ℕ) (told : Result (Unit {0}) Stop) (old middle new : WireView) →
    Does (λ setting. Plans setting image) floor (Ok plan) old middle → Does (λ setting. CarriesOut setting image plan) floor told middle new → RoundsOn image floor plan.rewrites told old new
round-done image plan floor told old middle new plans carries =
    parts-as (λ setting view added. Plans setting image view added (Ok plan)) (λ setting view added. CarriesOut setting image plan view added told) (λ setting view added. SyncRound setting image view added plan.rewrites told) floor old middle new plans carries
    (λ added more one two. record { planning = added; rest = more; planned = Ok plan; parts = refl; plans = one; leads = two; wrote_is = refl })

-- a round that was stopped before
pub round-stopped : (image : List ℕ) (stop : Stop) (floor : ℕ) (old new : WireView) → Does (λ setting. Plans setting image) floor (Err stop) old new → RoundsOn image floor false (Err stop) old new
round-stopped image stop floor old new plans =
    part-as (λ setting view added. Plans setting image view added (Err stop)) (λ setting view added. SyncRound setting image view added false (Err stop)) floor old new plans
    (λ added one. record { planning = added; rest = []; planned = Err stop; parts = sym (append-nil added); plans = one; leads = (refl, refl); wrote_is = refl })

-- a round that was upset, and the rounds behind it
pub round-more : (left more : ℕ) (wrote writes again : Bool) (bus : BusKind) (image : List ℕ) (view : HostView) (step : List Entry) (told : Result (Unit {0}) Stop) → more ≡ suc left → again ≡ (wrote || writes) → None ≡ end_told told again →
    SyncRound (round_setting bus left) image view step writes told →
    (rest : List Entry) (end : SyncEnd) → SyncsUpTo left again bus image (view_after step view) rest end → SyncsUpTo more wrote bus image view (step ++ rest) end
round-more left more wrote writes again bus image view step told one same is round rest end behind =
    let leads : RoundLeads (end_told told again) (SyncsUpTo left again bus image (view_after step view) rest end) rest end =
    subst (λ (reached : Option SyncEnd). RoundLeads reached (SyncsUpTo left again bus image (view_after step view) rest end) rest end) is behind in
    let whole : SyncsUpTo (suc left) wrote bus image view (step ++ rest) end =
    (step, rest, writes, told, refl, round, subst (λ (b : Bool). RoundLeads (end_told told b) (SyncsUpTo left b bus image (view_after step view) rest end) rest end) same leads) in
    subst (λ (n : ℕ). SyncsUpTo n wrote bus image view (step ++ rest) end) (sym one) whole

-- the round that ends the sync
pub round-last : (left more : ℕ) (wrote writes : Bool) (bus : BusKind) (image : List ℕ) (view : HostView) (step : List Entry) (told : Result (Unit {0}) Stop) (end : SyncEnd) → more ≡ suc left → Some end ≡ end_told told (wrote || writes) →
    SyncRound (round_setting bus left) image view step writes told → SyncsUpTo more wrote bus image view step end
round-last left more wrote writes bus image view step told end one is round =
    let leads : RoundLeads (end_told told (wrote || writes)) (SyncsUpTo left (wrote || writes) bus image (view_after step view) [] end) [] end =
    subst (λ (reached : Option SyncEnd). RoundLeads reached (SyncsUpTo left (wrote || writes) bus image (view_after step view) [] end) [] end) is (refl, refl) in
    let whole : SyncsUpTo (suc left) wrote bus image view step end = (step, [], writes, told, sym (append-nil step), round, leads) in
    subst (λ (n : ℕ). SyncsUpTo n wrote bus image view step end) (sym one) whole

-- no round is left
pub round-none : (more : ℕ) (wrote : Bool) (bus : BusKind) (image : List ℕ) (view : HostView) → more ≡ 0 → SyncsUpTo more wrote bus image view [] Disturbed
round-none more wrote bus image view none =
    let whole : SyncsUpTo 0 wrote bus image view [] Disturbed = (refl, refl) in
    subst (λ (n : ℕ). SyncsUpTo n wrote bus image view [] Disturbed) (sym none) whole

-- a round on a wire, in the setting of the sync
pub round-at : (left floor : ℕ) (image : List ℕ) (writes : Bool) (told : Result (Unit {0}) Stop) (added : List Entry) (old middle new : WireView) → floor ≡ left * round_room → Grows added old middle →
    (round : RoundsOn image floor writes told middle new) → SyncRound (round_setting old.bus left) image (host_view middle) round.added writes told
round-at left floor image writes told added old middle new room grows round =
    subst (λ (n : ℕ). SyncRound (record { bus = old.bus; floor = n }) image (host_view middle) round.added writes told) room
    (part-at (λ setting view entries. SyncRound setting image view entries writes told) floor added old middle new grows round)

-- the setting of a sync
abbrev pub SyncsFrom : List ℕ → ℕ → Bool → BusKind → HostView → List Entry → SyncEnd → Type 0
SyncsFrom image left wrote bus = SyncsUpTo left wrote bus image

-- a sync whose last round ends it
pub ends-with : (image : List ℕ) (left : ℕ) (wrote : Bool) (end : SyncEnd) (added last : List Entry) (old middle new : WireView) → Grows added old middle → Grows last middle new →
    GoesOn (SyncsFrom image 3 false old.bus) (SyncsFrom image left wrote old.bus) (host_view old) (host_view middle) added →
    SyncsUpTo left wrote old.bus image (host_view middle) last end → SyncsOn image end old new
ends-with image left wrote end added last old middle new grows more goes is =
    record { added = added ++ last; grows = grows-then added last old middle new grows more; syncs = goes last end is }
