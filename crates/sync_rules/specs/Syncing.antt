-- A sync: at most three rounds, the first of which that is not upset ends it.
use Rattle.std.specs.Prelude.{◌≡◌, ℕ, zero, suc, ◌*◌, Bool, false, ◌||◌, List, [], ◌++◌, Option, Some, None, Result, Ok, Err}
use Rattle.ec_types.specs.declared.bus.BusKind.{BusKind}
use Rattle.ec_model.specs.declared.event.Entry.{Entry}
use Rattle.ec_model.specs.Asks.{Setting}
use Rattle.ec_model.specs.HostCalls.{HostView, view_after}
use Rattle.ec_model.specs.Rounds.{round_room}
use Rattle.sync_rules.specs.declared.ending.Plan.{Plan}
use Rattle.sync_rules.specs.declared.ending.Stop.{Stop}
use Rattle.sync_rules.specs.declared.ending.Stop.TheVariants.{Lost, NoPower, Misfit, Locked}
use Rattle.sync_rules.specs.declared.ending.SyncEnd.{SyncEnd}
use Rattle.sync_rules.specs.declared.ending.SyncEnd.TheVariants.{Done, BadImage, Locked as EndLocked, NoPower as EndNoPower, Disturbed}
use Rattle.sync_rules.specs.Parts.{Leads}
use Rattle.sync_rules.specs.Steps.{Plans, CarriesOut}

-- whether the writing of RW began
abbrev pub began_writing : Result Plan Stop → Bool
began_writing (Ok plan) = plan.rewrites
began_writing (Err stop) = false

-- one round, and whether it began to write RW
pub record SyncRound (setting : Setting) (image : List ℕ) (view : HostView) (entries : List Entry) (wrote : Bool) (told : Result (Unit {0}) Stop) : Type 0 where
  pub planning : List Entry
  pub rest : List Entry
  pub planned : Result Plan Stop
  pub parts : entries ≡ planning ++ rest
  pub plans : Plans setting image view planning planned
  pub leads : Leads planned (CarriesOut setting image) (view_after planning view) rest told
  pub wrote_is : wrote ≡ began_writing planned

-- how a sync ends behind a round. One that was upset leads to another
abbrev pub end_told : Result (Unit {0}) Stop → Bool → Option SyncEnd
end_told (Ok done) wrote = Some (Done wrote)
end_told (Err Lost) wrote = None
end_told (Err NoPower) wrote = Some EndNoPower
end_told (Err (Misfit fit)) wrote = Some (BadImage fit)
end_told (Err (Locked flags)) wrote = Some (EndLocked flags)

-- what follows a round
abbrev pub RoundLeads : Option SyncEnd → Type 0 → List Entry → SyncEnd → Type 0
RoundLeads None more rest end = more
RoundLeads (Some reached) more rest end = (rest ≡ []) × (end ≡ reached)

-- the setting of a round behind which so many may follow: each has its room
abbrev pub round_setting : BusKind → ℕ → Setting
round_setting bus left = record { bus = bus; floor = left * round_room }

-- at most so many rounds, where one before may have begun to write RW
abbrev pub SyncsUpTo : ℕ → Bool → BusKind → List ℕ → HostView → List Entry → SyncEnd → Type 0
SyncsUpTo zero wrote bus image view entries end = (entries ≡ []) × (end ≡ Disturbed)
SyncsUpTo (suc left) wrote bus image view entries end =
    (first rest : List Entry) × (writes : Bool) × (told : Result (Unit {0}) Stop) × (entries ≡ first ++ rest)
    × SyncRound (round_setting bus left) image view first writes told
    × RoundLeads (end_told told (wrote || writes)) (SyncsUpTo left (wrote || writes) bus image (view_after first view) rest end) rest end

-- a whole sync
abbrev pub Syncs : BusKind → List ℕ → HostView → List Entry → SyncEnd → Type 0
Syncs bus image view entries end = SyncsUpTo 3 false bus image view entries end
