-- The looks at the hash, one behind the other.
use Rattle.std.proofs.Common.{◌≡◌, refl, sym, subst, ℕ, suc, Bool, List, [], ◌++◌, append-nil, Some, None, Result, Ok, Err}
use Rattle.ec_model.specs.declared.event.Entry.{Entry}
use Rattle.ec_model.specs.Asks.{Setting}
use Rattle.ec_model.specs.HostCalls.{HostView, view_after}
use Rattle.ec_wire.specs.Calls.{WireView}
use Rattle.ec_wire.proofs.Growth.{grows-nil}
use Rattle.host_transport.specs.Asking.{host_view, setting_of}
use Rattle.host_transport.proofs.WireParts.{part-as}
use Rattle.sync_rules.specs.declared.ending.Aim.{Aim}
use Rattle.sync_rules.specs.declared.ending.Stop.{Stop}
use Rattle.sync_rules.specs.declared.ending.Stop.TheVariants.{Lost}
use Rattle.sync_rules.specs.Steps.{Looks, LooksUpTo}
use Rattle.sync_engine.specs.OnWire.{Does}

-- a look that shows no finished hash, and the looks behind it
pub look-more : (left more : ℕ) (setting : Setting) (aim : Aim) (view : HostView) (look : List Entry) → more ≡ suc left → Looks setting aim view look (Ok None) →
    (rest : List Entry) (told : Result Bool Stop) → LooksUpTo left setting aim (view_after look view) rest told → LooksUpTo more setting aim view (look ++ rest) told
look-more left more setting aim view look one looked rest told behind =
    let whole : LooksUpTo (suc left) setting aim view (look ++ rest) told = record { opening = look; rest = rest; reached = Ok None; parts = refl; began = looked; leads = behind } in
    subst (λ (looks : ℕ). LooksUpTo looks setting aim view (look ++ rest) told) (sym one) whole

-- a look that shows one
pub look-last : (left more : ℕ) (aim : Aim) (same : Bool) (floor : ℕ) (old new : WireView) → more ≡ suc left → Does (λ setting. Looks setting aim) floor (Ok (Some same)) old new → Does (λ setting. LooksUpTo more setting aim) floor (Ok same) old new
look-last left more aim same floor old new one looked =
    part-as (λ setting view added. Looks setting aim view added (Ok (Some same))) (λ setting view added. LooksUpTo more setting aim view added (Ok same)) floor old new looked
    (λ added shown.
    let whole : LooksUpTo (suc left) (setting_of floor old) aim (host_view old) added (Ok same) = record { opening = added; rest = []; reached = Ok (Some same); parts = sym (append-nil added); began = shown; leads = (refl, refl) } in
    subst (λ (looks : ℕ). LooksUpTo looks (setting_of floor old) aim (host_view old) added (Ok same)) (sym one) whole)

-- a look that stops the round
pub look-stops : (left more : ℕ) (aim : Aim) (stop : Stop) (floor : ℕ) (old new : WireView) → more ≡ suc left → Does (λ setting. Looks setting aim) floor (Err stop) old new → Does (λ setting. LooksUpTo more setting aim) floor (Err stop) old new
look-stops left more aim stop floor old new one looked =
    part-as (λ setting view added. Looks setting aim view added (Err stop)) (λ setting view added. LooksUpTo more setting aim view added (Err stop)) floor old new looked
    (λ added shown.
    let whole : LooksUpTo (suc left) (setting_of floor old) aim (host_view old) added (Err stop) = record { opening = added; rest = []; reached = Err stop; parts = sym (append-nil added); began = shown; leads = (refl, refl) } in
    subst (λ (looks : ℕ). LooksUpTo looks (setting_of floor old) aim (host_view old) added (Err stop)) (sym one) whole)

-- no look is left
pub look-none : (more : ℕ) (aim : Aim) (floor : ℕ) (view : WireView) → more ≡ 0 → Does (λ setting. LooksUpTo more setting aim) floor (Err Lost) view view
look-none more aim floor view none = record {
  added = [];
  grows = grows-nil view;
  part =
      let whole : LooksUpTo 0 (setting_of floor view) aim (host_view view) [] (Err Lost) = (refl, refl) in
      subst (λ (looks : ℕ). LooksUpTo looks (setting_of floor view) aim (host_view view) [] (Err Lost)) (sym none) whole;
}
