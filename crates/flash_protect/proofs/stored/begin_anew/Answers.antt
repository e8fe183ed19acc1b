use Rattle.std.proofs.Common.{◌+◌, ◌/◌, ◌∷◌, sym, ◌∙◌}
use Rattle.flash_dev.specs.Operations.{Program, Erase}
use Rattle.ec_model.specs.Stored.{mark2_bytes}
use Rattle.ec_model.specs.ProtectRow.{record_operations}
use Rattle.flash_dev.proofs.Beginning.{told-first, told-then, told-more}
use Rattle.flash_protect.proofs.stored.begin_anew.Goals as goal

pub returns-then-is_err-clause-ran : goal.returns-then-is_err-clause-ran
returns-then-is_err-clause-ran g c =
    told-first (Erase (c.args.at / 4096)) (Program c.args.at mark2_bytes ∷ record_operations (c.args.at + 8) c.args.bits) c.args.ctl.now.device c.erase_free-erased.new.ctl.device c.erase_free-erased.result
    (sym c.is_err.ensures.value ∙ c.if-is_err.true) c.erase_free-erased.ensures.change

pub returns-then-is_err-2-clause-ran : goal.returns-then-is_err-2-clause-ran
returns-then-is_err-2-clause-ran g c =
    told-then (Erase (c.args.at / 4096)) (Program c.args.at mark2_bytes ∷ record_operations (c.args.at + 8) c.args.bits) c.args.ctl.now.device c.erase_free-erased.new.ctl.device c.program_free-marked.new.ctl.device
    c.erase_free-erased.result 1 c.program_free-marked.result (sym c.is_err.ensures.value ∙ c.if-is_err.false) c.erase_free-erased.ensures.change
    (told-first (Program c.args.at mark2_bytes) (record_operations (c.args.at + 8) c.args.bits) c.erase_free-erased.new.ctl.device c.program_free-marked.new.ctl.device c.program_free-marked.result
    (sym c.is_err-2.ensures.value ∙ c.if-is_err-2.true) c.program_free-marked.ensures.change)

pub returns-clause-ran : goal.returns-clause-ran
returns-clause-ran g c =
    told-more c.write_record-begun.result.0 (Erase (c.args.at / 4096)) (Program c.args.at mark2_bytes) (record_operations (c.args.at + 8) c.args.bits) c.args.ctl.now.device c.erase_free-erased.new.ctl.device c.program_free-marked.new.ctl.device c.write_record-begun.new.ctl.device
    c.erase_free-erased.result c.program_free-marked.result c.write_record-begun.result.1 (sym c.is_err.ensures.value ∙ c.if-is_err.false) (sym c.is_err-2.ensures.value ∙ c.if-is_err-2.false)
    c.erase_free-erased.ensures.change c.program_free-marked.ensures.change c.write_record-begun.ensures.ran
