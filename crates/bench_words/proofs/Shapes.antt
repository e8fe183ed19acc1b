-- The lists of choices in which no option is named twice.
use Rattle.std.proofs.Common.{◌≡◌, Bool, List, [], ◌∷◌, Some, None, true, ap, sym, true≢false}
use Rattle.std.specs.Prelude.{flat_map, is_some}
use Rattle.ec_types.specs.declared.bus.BusKind.{BusKind}
use Rattle.ec_types.specs.declared.bus.BusKind.TheVariants.{Lpc}
use Rattle.bench_words.specs.declared.choice.Choice.{Choice}
use Rattle.bench_words.specs.declared.choice.Choice.TheVariants.{Bus, Pin}
use Rattle.bench_words.specs.Words.{buses, named_once, pins}

pub none≢some : {A : Type 0} (x : A) → None ≡ Some x → ⊥
none≢some x e = true≢false (ap (λ o. is_some o) (sym e))

-- they have at most two elements, of two options
module _ (P : List Choice → Type 0) (none : P [])
    (bus : (kind : BusKind) (joined : Bool) → P (Bus kind joined ∷ []))
    (pin : (on : Bool) (joined : Bool) → P (Pin on joined ∷ []))
    (bus_pin : (kind : BusKind) (joined : Bool) (on : Bool) (also : Bool) → P (Bus kind joined ∷ Pin on also ∷ []))
    (pin_bus : (on : Bool) (joined : Bool) (kind : BusKind) (also : Bool)
    → P (Pin on joined ∷ Bus kind also ∷ [])) where
  pub by_shape : (choices : List Choice) (b : BusKind) (p : Bool) → named_once Lpc (flat_map buses choices) ≡ Some b
      → named_once true (flat_map pins choices) ≡ Some p → P choices
  by_shape [] b p one_bus one_pin = none
  by_shape (Bus kind joined ∷ []) b p one_bus one_pin = bus kind joined
  by_shape (Pin on joined ∷ []) b p one_bus one_pin = pin on joined
  by_shape (Bus kind joined ∷ Bus other also ∷ rest) b p one_bus one_pin = absurd (none≢some b one_bus)
  by_shape (Pin on joined ∷ Pin other also ∷ rest) b p one_bus one_pin = absurd (none≢some p one_pin)
  by_shape (Bus kind joined ∷ Pin on also ∷ []) b p one_bus one_pin = bus_pin kind joined on also
  by_shape (Pin on joined ∷ Bus kind also ∷ []) b p one_bus one_pin = pin_bus on joined kind also
  by_shape (Bus kind joined ∷ Pin on also ∷ Bus other last ∷ rest) b p one_bus one_pin = absurd (none≢some b one_bus)
  by_shape (Bus kind joined ∷ Pin on also ∷ Pin other last ∷ rest) b p one_bus one_pin = absurd (none≢some p one_pin)
  by_shape (Pin on joined ∷ Bus kind also ∷ Bus other last ∷ rest) b p one_bus one_pin = absurd (none≢some b one_bus)
  by_shape (Pin on joined ∷ Bus kind also ∷ Pin other last ∷ rest) b p one_bus one_pin = absurd (none≢some p one_pin)
