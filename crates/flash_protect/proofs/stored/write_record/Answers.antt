use Rattle.std.proofs.Common.{ℕ, ◌+◌, List, [], ◌∷◌, sym, ◌∙◌, subst}
use Rattle.flash_dev.specs.Operations.{Program}
use Rattle.ec_model.specs.Stored.{open_gate}
use Rattle.flash_dev.proofs.Beginning.{BegunTold, told-first, told-then, told-last}
use Rattle.flash_protect.proofs.stored.write_record.Goals as goal

pub returns-then-is_err-clause-ran : goal.returns-then-is_err-clause-ran
returns-then-is_err-clause-ran g c =
    subst (λ (bytes : List ℕ). BegunTold 1 (Program c.args.place bytes ∷ Program (c.args.place + 4) open_gate ∷ []) c.args.ctl.now.device c.program_free-word.new.ctl.device c.program_free-word.result)
    c.word.ensures
    (told-first (Program c.args.place c.word.result) (Program (c.args.place + 4) open_gate ∷ []) c.args.ctl.now.device c.program_free-word.new.ctl.device c.program_free-word.result
    (sym c.is_err.ensures.value ∙ c.if-is_err.true) c.program_free-word.ensures.change)

pub returns-clause-ran : goal.returns-clause-ran
returns-clause-ran g c =
    subst (λ (bytes : List ℕ). BegunTold 2 (Program c.args.place bytes ∷ Program (c.args.place + 4) open_gate ∷ []) c.args.ctl.now.device c.program_free.new.ctl.device c.program_free.result)
    c.word.ensures
    (told-then (Program c.args.place c.word.result) (Program (c.args.place + 4) open_gate ∷ []) c.args.ctl.now.device c.program_free-word.new.ctl.device c.program_free.new.ctl.device c.program_free-word.result 1 c.program_free.result
    (sym c.is_err.ensures.value ∙ c.if-is_err.false) c.program_free-word.ensures.change
    (told-last (Program (c.args.place + 4) open_gate) c.program_free-word.new.ctl.device c.program_free.new.ctl.device c.program_free.result c.program_free.ensures.change))
