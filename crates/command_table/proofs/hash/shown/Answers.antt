use Rattle.std.proofs.Common.{◌∙◌, sym, ap, List, ℕ}
use Rattle.ec_model.specs.Bodies.{vboot_hash_say}
use Rattle.ec_model.specs.HashRow.{hash_bytes}
use Rattle.command_table.proofs.hash.shown.Goals as goal

pub returns-in-Done : goal.returns-in-Done
returns-in-Done c =
    ap (λ (bytes : List ℕ). vboot_hash_say 1 0 32 0 c.in-Done.at c.in-Done.size bytes) c.padded.ensures ∙ sym (ap hash_bytes c.in-Done.is)
