use Rattle.std.proofs.Common.{◌≡◌, refl, ap, ℕ, true, false, List, [], slice_index, arith}
use Rattle.ec_types.specs.declared.bus.BusKind.TheVariants.{Lpc}
use Rattle.ec_model.specs.Heard.{Reply}
use Rattle.ec_model.specs.Send.{OneByte, Sends, cold_packet}
use Rattle.ec_examples.specs.Sends.{hello_request, changed_twice}
use Rattle.ec_examples.proofs.Exchanges.{twice_bytes, twice-sent}
use Rattle.ec_examples.proofs.sends.two_changed_bytes_over_lpc.Goals as goal

-- a HELLO is no COLD
apart : hello_request ≡ cold_packet → ⊥
apart same = different (ap (λ (bytes : List ℕ). slice_index bytes 1) same) where
  different : ◌≡◌ {A = ℕ} 0x18 0x25 → ⊥
  different bytes = omega (arith, bytes)

-- the whole of it is one transaction, with two changed bytes
twice : OneByte Lpc changed_twice → ⊥
twice bears = refuse (bears [] changed_twice [] refl (Sends hello_request (Reply twice_bytes) apart twice-sent)) where
  refuse : false ≡ true → ⊥
  refuse same = cc

pub returns-clause-heard : goal.returns-clause-heard
returns-clause-heard c = twice-sent

pub returns-clause-refused : goal.returns-clause-refused
returns-clause-refused c = twice
