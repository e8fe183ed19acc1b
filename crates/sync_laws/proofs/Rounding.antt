-- A round that nothing disturbs, by what is planned in it; and what is stored, by what is before RW.
use Rattle.std.proofs.Common.{◌≡◌, sym, ap, ◌∙◌, subst, ℕ, ◌+◌, ◌-◌, ◌/◌, ◌≤◌, Bool, true, List, length, take, drop, Result, Ok, arith, ◌&&◌}
use Rattle.std.proofs.lemmas.List.{drop-take}
use Rattle.ec_types.specs.declared.bus.BusKind.{BusKind}
use Rattle.ec_model.specs.declared.event.Entry.{Entry}
use Rattle.ec_model.specs.Asks.{Setting}
use Rattle.ec_model.specs.HostCalls.{HostView, calls_of, view_after}
use Rattle.ec_model.specs.ProtectRow.{can_lock}
use Rattle.ec_model.specs.Run.{IsRun}
use Rattle.ec_model.specs.Stored.{stored_in, stored}
use Rattle.ec_model.specs.Table.{Table, Core}
use Rattle.ec_model.proofs.RunLaws.{run-split}
use Rattle.ec_model.proofs.StoredLemmas.{stored_in-take}
use Rattle.command_laws.specs.Standing.{IsQuiet, IsOpen, IsAt, HasRoom}
use Rattle.command_laws.proofs.Parts.{quiet-both, calls-both}
use Rattle.sync_rules.specs.declared.ending.Plan.{Plan}
use Rattle.sync_rules.specs.declared.ending.Stop.{Stop}
use Rattle.sync_rules.specs.Parts.{Leads}
use Rattle.sync_rules.specs.Steps.{Plans, CarriesOut}
use Rattle.sync_rules.specs.Syncing.{began_writing, SyncRound}
use Rattle.sync_laws.specs.Calm.{Reaches, Opens}
use Rattle.sync_laws.proofs.Calmly.{behind-room}

-- what a round came to
pub record IsRoundDone (bus : BusKind) (after : Core) (room : ℕ) (writes : Bool) (entries : List Entry) (wrote : Bool) (told : Result (Unit {0}) Stop) (last : Table) : Type 0 where
  pub told_is : told ≡ Ok tt
  pub wrote_is : wrote ≡ writes
  pub at : IsAt bus after last
  pub takes : length (calls_of entries) ≤ room

-- a plan, and what carries it out
pub round-done : (setting : Setting) (image : List ℕ) (view : HostView) (core middle after : Core) (plan : Plan) (most more : ℕ) (table : Table) (entries : List Entry) (wrote : Bool) (told : Result (Unit {0}) Stop) (last : Table) →
    Opens setting (Plans setting image) core (Ok plan) middle most → Reaches setting (CarriesOut setting image plan) middle (Ok tt) after more → IsOpen setting.bus core table → HasRoom setting view (most + more) → IsQuiet entries → IsRun table entries last →
    SyncRound setting image view entries wrote told → IsRoundDone setting.bus after (most + more) plan.rewrites entries wrote told last
round-done setting image view core middle after plan most more table entries wrote told last begins carries from has quiet run round =
    let split = run-split table last round.planning round.rest (subst (λ (xs : List Entry). IsRun table xs last) round.parts run) in
    let quiets = quiet-both round.planning round.rest (subst (λ (xs : List Entry). IsQuiet xs) round.parts quiet) in
    let plans = begins view table round.planning round.planned split.0 from (record { on = has.on; enough = omega (arith, has.enough) }) quiets.0 split.1 round.plans in
    let leads = subst (λ (planned : Result Plan Stop). Leads planned (CarriesOut setting image) (view_after round.planning view) round.rest told) plans.told_is round.leads in
    let room = behind-room setting view round.planning most more quiets.0 plans.takes has in
    let out = carries (view_after round.planning view) split.0 round.rest told last plans.at room quiets.1 split.2 leads in
    record {
      told_is = out.told_is;
      wrote_is = round.wrote_is ∙ ap began_writing plans.told_is;
      at = out.at;
      takes = subst (λ (xs : List Entry). length (calls_of xs) ≤ most + more) (sym round.parts) (omega (arith, calls-both round.planning round.rest, plans.takes, out.takes));
    }

-- the stored protection lies before RW
pub stored-by : (one other : List ℕ) (at block : ℕ) → 1024 ≤ block → take (at + block) one ≡ take (at + block) other → stored_in (drop at one) ≡ stored_in (drop at other)
stored-by one other at block long same =
    sym (stored_in-take block (drop at one) long) ∙ ap stored_in (sym (drop-take at block one) ∙ ap (drop at) same ∙ drop-take at block other) ∙ stored_in-take block (drop at other) long

pub stored-before : (one other : List ℕ) → length one ≡ length other → 4096 ≤ length other / 2 → take (length other / 2) one ≡ take (length other / 2) other → stored one ≡ stored other
stored-before one other long least same =
    let half : length other / 2 - 4096 + 4096 ≡ length other / 2 = omega (arith, least) in
    ap (λ (n : ℕ). stored_in (drop (n / 2 - 4096) one)) long
    ∙ stored-by one other (length other / 2 - 4096) 4096 (omega arith) (subst (λ (n : ℕ). take n one ≡ take n other) (sym half) same)

-- so locks can be set as before
pub lock-before : (one other : Core) → one.pin ≡ other.pin → stored one.flash ≡ stored other.flash → can_lock other ≡ true → can_lock one ≡ true
lock-before one other pin same can = ap (λ (asserted : Bool). asserted && (stored one.flash).ro) pin ∙ ap (λ bits. other.pin && bits.ro) same ∙ can
