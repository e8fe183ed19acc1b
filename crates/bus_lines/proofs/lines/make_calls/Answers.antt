use Rattle.std.proofs.Common.{refl, ap, ◌∙◌, ℕ, List, [], ◌∷◌, ◌++◌, codes}
use Rattle.ec_model.specs.declared.event.Access.TheVariants.{SpiSelect, SpiDeselect}
use Rattle.ec_model.specs.HostCalls.{Did}
use Rattle.ec_wire.proofs.Growth.{made-access}
use Rattle.bus_lines.proofs.lines.make_calls.Goals as goal

pub returns-in-SpiSelect-clause-does : goal.returns-in-SpiSelect-clause-does
returns-in-SpiSelect-clause-does g c =
    rw c.in-SpiSelect.is
    (record {
      calls = Did SpiSelect c.access.result ∷ [];
      is_line = (c.access.result, refl, c.append-in-SpiSelect.ensures ∙ ap (λ (text : List ℕ). text ++ codes "ok") c.requires.empty);
      made = made-access _ _ _ _ c.access.ensures.adds;
    })

pub returns-in-SpiDeselect-clause-does : goal.returns-in-SpiDeselect-clause-does
returns-in-SpiDeselect-clause-does g c =
    rw c.in-SpiDeselect.is
    (record {
      calls = Did SpiDeselect c.access-in-SpiDeselect.result ∷ [];
      is_line = (c.access-in-SpiDeselect.result, refl, c.append-in-SpiDeselect.ensures ∙ ap (λ (text : List ℕ). text ++ codes "ok") c.requires.empty);
      made = made-access _ _ _ _ c.access-in-SpiDeselect.ensures.adds;
    })
