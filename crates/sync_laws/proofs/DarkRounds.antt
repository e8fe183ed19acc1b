-- A sync that ends without power leaves the controller off, and none ends for want of memory.
use Rattle.std.proofs.Common.{◌≡◌, refl, sym, ap, ◌∙◌, ℕ, zero, suc, Bool, false, ◌||◌, List, ◌++◌, append-nil, Option, Some, None, Result, Ok, Err}
use Rattle.ec_types.specs.declared.bus.BusKind.{BusKind}
use Rattle.ec_model.specs.declared.event.Entry.{Entry}
use Rattle.ec_model.specs.Asks.{Setting}
use Rattle.ec_model.specs.HostCalls.{HostView, on_after, view_after}
use Rattle.ec_wire.proofs.Appends.{on_after-append}
use Rattle.sync_rules.specs.declared.ending.Plan.{Plan}
use Rattle.sync_rules.specs.declared.ending.Stop.{Stop}
use Rattle.sync_rules.specs.declared.ending.Stop.TheVariants.{Lost, NoPower, Misfit, Locked}
use Rattle.sync_rules.specs.declared.ending.SyncEnd.{SyncEnd}
use Rattle.sync_rules.specs.declared.ending.SyncEnd.TheVariants.{NoPower as EndNoPower, NoMemory}
use Rattle.sync_rules.specs.Parts.{Leads}
use Rattle.sync_rules.specs.Steps.{CarriesOut, Plans}
use Rattle.sync_rules.specs.Syncing.{SyncRound, end_told, RoundLeads, round_setting, SyncsUpTo, Syncs}
use Rattle.sync_laws.proofs.DarkSteps.{plans-dark, carries-dark}

-- a stop is the same whatever would have been given
stop-power : (stop : Stop) → ◌≡◌ {A = Result (Unit {0}) Stop} (Err stop) (Err NoPower) → ◌≡◌ {A = Result Plan Stop} (Err stop) (Err NoPower)
stop-power NoPower same = refl
stop-power other same = absurd (cc)

-- a round
round-dark : (setting : Setting) (image : List ℕ) (view : HostView) (entries : List Entry) (wrote : Bool) (told : Result (Unit {0}) Stop) → SyncRound setting image view entries wrote told → told ≡ Err NoPower → on_after entries view.on ≡ false
round-dark setting image view entries wrote told round is = by round.planned round.plans round.leads
  where
    by : (planned : Result Plan Stop) → Plans setting image view round.planning planned → Leads planned (CarriesOut setting image) (view_after round.planning view) round.rest told → on_after entries view.on ≡ false
    by (Ok plan) plans leads =
        ap (λ (e : List Entry). on_after e view.on) round.parts ∙ on_after-append round.planning round.rest view.on ∙ carries-dark setting image plan (view_after round.planning view) round.rest told leads is
    by (Err stop) plans (none, same) =
        ap (λ (e : List Entry). on_after e view.on) (round.parts ∙ ap (λ (more : List Entry). round.planning ++ more) none ∙ append-nil round.planning)
        ∙ plans-dark setting image view round.planning (Err stop) plans (stop-power stop (sym same ∙ is))

-- which round ends a sync so
told-power : (told : Result (Unit {0}) Stop) (wrote : Bool) → end_told told wrote ≡ Some EndNoPower → told ≡ Err NoPower
told-power (Ok done) wrote same = absurd (cc)
told-power (Err Lost) wrote same = absurd (cc)
told-power (Err NoPower) wrote same = refl
told-power (Err (Misfit fit)) wrote same = absurd (cc)
told-power (Err (Locked flags)) wrote same = absurd (cc)

told-memory : (told : Result (Unit {0}) Stop) (wrote : Bool) → ¬ (end_told told wrote ≡ Some NoMemory)
told-memory (Ok done) wrote same = cc
told-memory (Err Lost) wrote same = cc
told-memory (Err NoPower) wrote same = cc
told-memory (Err (Misfit fit)) wrote same = cc
told-memory (Err (Locked flags)) wrote same = cc

rounds-dark : (left : ℕ) (wrote : Bool) (bus : BusKind) (image : List ℕ) (view : HostView) (entries : List Entry) → SyncsUpTo left wrote bus image view entries EndNoPower → on_after entries view.on ≡ false
rounds-dark zero wrote bus image view entries (none, same) = absurd (cc)
rounds-dark (suc left) wrote bus image view entries (first, rest, writes, told, parts, round, leads) =
    by (rounds-dark left (wrote || writes) bus image (view_after first view) rest) (end_told told (wrote || writes)) refl leads
  where
    by : (SyncsUpTo left (wrote || writes) bus image (view_after first view) rest EndNoPower → on_after rest (view_after first view).on ≡ false) → (reached : Option SyncEnd) → end_told told (wrote || writes) ≡ reached →
        RoundLeads reached (SyncsUpTo left (wrote || writes) bus image (view_after first view) rest EndNoPower) rest EndNoPower → on_after entries view.on ≡ false
    by behind None is more = ap (λ (e : List Entry). on_after e view.on) parts ∙ on_after-append first rest view.on ∙ behind more
    by behind (Some reached) is (none, same) =
        ap (λ (e : List Entry). on_after e view.on) (parts ∙ ap (λ (more : List Entry). first ++ more) none ∙ append-nil first)
        ∙ round-dark (round_setting bus left) image view first writes told round (told-power told (wrote || writes) (is ∙ ap Some (sym same)))

pub sync-dark : (bus : BusKind) (image : List ℕ) (view : HostView) (entries : List Entry) → Syncs bus image view entries EndNoPower → on_after entries view.on ≡ false
sync-dark bus image view entries syncs = rounds-dark 3 false bus image view entries syncs

rounds-memory : (left : ℕ) (wrote : Bool) (bus : BusKind) (image : List ℕ) (view : HostView) (entries : List Entry) → ¬ (SyncsUpTo left wrote bus image view entries NoMemory)
rounds-memory zero wrote bus image view entries (none, same) = cc
rounds-memory (suc left) wrote bus image view entries (first, rest, writes, told, parts, round, leads) =
    by (rounds-memory left (wrote || writes) bus image (view_after first view) rest) (end_told told (wrote || writes)) refl leads
  where
    by : ¬ (SyncsUpTo left (wrote || writes) bus image (view_after first view) rest NoMemory) → (reached : Option SyncEnd) → end_told told (wrote || writes) ≡ reached →
        RoundLeads reached (SyncsUpTo left (wrote || writes) bus image (view_after first view) rest NoMemory) rest NoMemory → ⊥
    by never None is more = never more
    by never (Some reached) is (none, same) = told-memory told (wrote || writes) (is ∙ ap Some (sym same))

pub sync-memory : (bus : BusKind) (image : List ℕ) (view : HostView) (entries : List Entry) → ¬ (Syncs bus image view entries NoMemory)
sync-memory bus image view entries = rounds-memory 3 false bus image view entries
