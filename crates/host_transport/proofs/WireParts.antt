-- Parts of a command on a wire, one behind the other.
use Rattle.std.proofs.Common.{◌≡◌, refl, ap, subst, ℕ, ◌-◌, Bool, List, ◌++◌, length, arith}
use Rattle.ec_types.specs.declared.bus.BusKind.{BusKind}
use Rattle.ec_model.specs.declared.event.Entry.{Entry}
use Rattle.ec_model.specs.HostCalls.{HostView, calls_of, on_after, view_after}
use Rattle.ec_model.specs.Asks.{Setting}
use Rattle.ec_wire.specs.Calls.{WireView, Grows}
use Rattle.ec_wire.proofs.Growth.{grows-then}
use Rattle.host_transport.specs.Asking.{OnWire, host_view, setting_of}

-- what the host sees
abbrev seen : Bool → ℕ → HostView
seen on spare = record { on = on; spare = spare }

same-view : (a c : Bool) (b d : ℕ) → a ≡ c → b ≡ d → seen a b ≡ seen c d
same-view a c b d p q = rw (p, q) refl

-- the host's view behind some entries
pub view-after : (added : List Entry) (old new : WireView) → Grows added old new → host_view new ≡ view_after added (host_view old)
view-after added old new grows = same-view new.on (on_after added old.on) new.spare (old.spare - length (calls_of added)) grows.on (omega (arith, grows.room))

-- the setting on a bus
abbrev set_on : BusKind → ℕ → Setting
set_on bus floor = record { bus = bus; floor = floor }

-- the setting stays the same behind some entries
pub same-setting : (floor : ℕ) (added : List Entry) (old new : WireView) → Grows added old new → setting_of floor new ≡ setting_of floor old
same-setting floor added old new grows = ap (λ (bus : BusKind). set_on bus floor) grows.bus

-- a part behind some entries, at the setting of the whole
pub part-at : (Part : Setting → HostView → List Entry → Type 0) (floor : ℕ) (added : List Entry) (old middle new : WireView) → Grows added old middle → (on : OnWire Part floor middle new) → Part (setting_of floor old) (host_view middle) on.added
part-at Part floor added old middle new grows on = subst (λ (setting : Setting). Part setting (host_view middle) on.added) (same-setting floor added old middle grows) on.part

-- the same, at what the host sees behind them
pub part-behind : (Part : Setting → HostView → List Entry → Type 0) (floor : ℕ) (added : List Entry) (old middle new : WireView) → Grows added old middle → (on : OnWire Part floor middle new) → Part (setting_of floor old) (view_after added (host_view old)) on.added
part-behind Part floor added old middle new grows on = subst (λ (view : HostView). Part (setting_of floor old) view on.added) (view-after added old middle grows) (part-at Part floor added old middle new grows on)

-- a part that is a whole
pub part-as : (Part Whole : Setting → HostView → List Entry → Type 0) (floor : ℕ) (old new : WireView) → OnWire Part floor old new →
    ((added : List Entry) → Part (setting_of floor old) (host_view old) added → Whole (setting_of floor old) (host_view old) added) → OnWire Whole floor old new
part-as Part Whole floor old new on is = record { added = on.added; grows = on.grows; part = is on.added on.part }

-- two parts that are a whole
pub parts-as : (First Second Whole : Setting → HostView → List Entry → Type 0) (floor : ℕ) (old middle new : WireView) → OnWire First floor old middle → OnWire Second floor middle new →
    ((added more : List Entry) → First (setting_of floor old) (host_view old) added → Second (setting_of floor old) (view_after added (host_view old)) more → Whole (setting_of floor old) (host_view old) (added ++ more)) →
    OnWire Whole floor old new
parts-as First Second Whole floor old middle new first second are = record {
  added = first.added ++ second.added;
  grows = grows-then first.added second.added old middle new first.grows second.grows;
  part = are first.added second.added first.part (part-behind Second floor first.added old middle new first.grows second);
}
