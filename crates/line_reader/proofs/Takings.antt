-- What is taken in several calls.
use Rattle.std.proofs.Common.{ℕ, List, [], ◌++◌, Option, Some, None, refl, ap, ◌∙◌, append_assoc}
use Rattle.line_reader.specs.Taking.{Takes}

-- no bytes
pub Takes-nothing : (left : Option (List ℕ)) → Takes [] left left
Takes-nothing None = tt
Takes-nothing (Some left) = refl

-- bytes behind others
pub Takes-then : (first second : List ℕ) (old middle new : Option (List ℕ)) → Takes first old middle → Takes second middle new → Takes (first ++ second) old new
Takes-then first second None None None once again = tt
Takes-then first second None None (Some new) once again = again
Takes-then first second None (Some middle) new once again = absurd once
Takes-then first second (Some old) None new once again = absurd once
Takes-then first second (Some old) (Some middle) None once again = again
Takes-then first second (Some old) (Some middle) (Some new) once again = append_assoc first second new ∙ ap (λ (rest : List ℕ). first ++ rest) again ∙ once
