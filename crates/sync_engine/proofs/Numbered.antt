-- The pieces that are written, one behind the other.
use Rattle.std.proofs.Common.{◌≡◌, refl, sym, subst, ℕ, suc, ◌+◌, ◌-◌, ◌*◌, ◌<◌, ◌≤◌, List, [], ◌++◌, append-nil, Result, Ok, Err, IsErr, IsErrAnd, arith}
use Rattle.ec_model.specs.declared.event.Entry.{Entry}
use Rattle.ec_model.specs.Asks.{Setting}
use Rattle.ec_model.specs.HostCalls.{HostView, view_after}
use Rattle.ec_wire.specs.Calls.{WireView}
use Rattle.ec_wire.proofs.Growth.{grows-nil}
use Rattle.host_transport.specs.Asking.{host_view, setting_of}
use Rattle.host_transport.proofs.WireParts.{part-as}
use Rattle.sync_rules.specs.declared.ending.Stop.{Stop}
use Rattle.sync_rules.specs.Steps.{piece, piece_length, WritesPiece, WritesFrom}
use Rattle.sync_engine.specs.OnWire.{Does}
use Rattle.sync_engine.proofs.Chains.{stopped}

-- the piece of this number
abbrev pub WritesNumber : ℕ → Setting → List ℕ → ℕ → HostView → List Entry → Result (Unit {0}) Stop → Type 0
WritesNumber number setting image size = WritesPiece setting size (piece image size (piece_length setting) (number * piece_length setting)) (number * piece_length setting)

-- a piece that was cut is that of its number
pub as-number : (number place : ℕ) (bytes image : List ℕ) (size most floor : ℕ) (told : Result (Unit {0}) Stop) (old new : WireView) →
    most ≡ piece_length (setting_of floor old) → bytes ≡ piece image size most place → place ≡ number * most →
    Does (λ setting. WritesPiece setting size bytes place) floor told old new → Does (λ setting. WritesNumber number setting image size) floor told old new
as-number number place bytes image size most floor told old new length_is cut there writes =
    part-as (λ setting view added. WritesPiece setting size bytes place view added told) (λ setting view added. WritesNumber number setting image size view added told) floor old new writes
    (λ added one.
    subst (λ (n : ℕ). WritesPiece (setting_of floor old) size (piece image size n (number * n)) (number * n) (host_view old) added told) length_is
    (subst (λ (n : ℕ). WritesPiece (setting_of floor old) size (piece image size most n) n (host_view old) added told) there
    (subst (λ (xs : List ℕ). WritesPiece (setting_of floor old) size xs place (host_view old) added told) cut one)))

-- a piece, and the pieces behind it
pub write-more : (left more number : ℕ) (setting : Setting) (image : List ℕ) (size : ℕ) (view : HostView) (step : List Entry) → more ≡ suc left → WritesNumber number setting image size view step (Ok tt) →
    (rest : List Entry) (told : Result (Unit {0}) Stop) → WritesFrom left (number + 1) setting image size (view_after step view) rest told → WritesFrom more number setting image size view (step ++ rest) told
write-more left more number setting image size view step one wrote rest told behind =
    let whole : WritesFrom (suc left) number setting image size view (step ++ rest) told = record { opening = step; rest = rest; reached = Ok tt; parts = refl; began = wrote; leads = behind } in
    subst (λ (n : ℕ). WritesFrom n number setting image size view (step ++ rest) told) (sym one) whole

-- a piece that stops the round
pub write-stops : (left more number : ℕ) (image : List ℕ) (size : ℕ) (stop : Stop) (floor : ℕ) (told : Result (Unit {0}) Stop) (old new : WireView) → more ≡ suc left → IsErr told × IsErrAnd told (λ other. other ≡ stop) →
    Does (λ setting. WritesNumber number setting image size) floor (Err stop) old new → Does (λ setting. WritesFrom more number setting image size) floor told old new
write-stops left more number image size stop floor told old new one is writes =
    part-as (λ setting view added. WritesNumber number setting image size view added (Err stop)) (λ setting view added. WritesFrom more number setting image size view added told) floor old new writes
    (λ added wrote.
    let whole : WritesFrom (suc left) number (setting_of floor old) image size (host_view old) added told = record { opening = added; rest = []; reached = Err stop; parts = sym (append-nil added); began = wrote; leads = (refl, stopped told stop is) } in
    subst (λ (n : ℕ). WritesFrom n number (setting_of floor old) image size (host_view old) added told) (sym one) whole)

-- no piece is left
pub write-none : (more number : ℕ) (image : List ℕ) (size floor : ℕ) (view : WireView) → more ≡ 0 → Does (λ setting. WritesFrom more number setting image size) floor (Ok tt) view view
write-none more number image size floor view none = record {
  added = [];
  grows = grows-nil view;
  part =
      let whole : WritesFrom 0 number (setting_of floor view) image size (host_view view) [] (Ok tt) = (refl, refl) in
      subst (λ (n : ℕ). WritesFrom n number (setting_of floor view) image size (host_view view) [] (Ok tt)) (sym none) whole;
}

-- how many are left before and behind one
pub one-left : (number count total : ℕ) → number < count → count ≡ total → total - number ≡ suc (total - (number + 1))
one-left number count total before same = omega (arith, before, same)

pub none-left : (number count total : ℕ) → count ≤ number → count ≡ total → total - number ≡ 0
none-left number count total behind same = omega (arith, behind, same)

pub all-left : (total : ℕ) → total - 0 ≡ total
all-left total = omega arith
