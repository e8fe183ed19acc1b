use Rattle.std.proofs.Common.{rules, ◌≡◌, ap, sym, ◌∙◌, refl, true, Bool}
use Rattle.std.specs.Prelude.{IsTrue}
use Rattle.flash_dev.specs.Ranges.{is_flash_size}
use Rattle.ec_types.specs.declared.bus.BusKind.{BusKind}
use Rattle.bench_words.proofs.ReaderLemmas.{spell_once}
use Rattle.ecbench.specs.Endings.{RunsTo, KeepsRo, GuardsRun}
use Rattle.ecbench.proofs.Whole.{runs-none, guarded-none, ends-by, where-spelled, nothing-at-all}
use Rattle.ecbench.proofs.run.run.Goals as goal

pub returns-in-Err-NoMemory-clause-run : goal.returns-in-Err-NoMemory-clause-run
returns-in-Err-NoMemory-clause-run g c = λ path bus pin spelled.
    rw (c.refused-in-Err-NoMemory.ensures.flash, c.refused-in-Err-NoMemory.ensures.journal) (runs-none bus pin (g.F.FlashDev.seen c.args.flash).held)

pub returns-in-Err-NoMemory-clause-guarded : goal.returns-in-Err-NoMemory-clause-guarded
returns-in-Err-NoMemory-clause-guarded g c = λ path bus pin spelled.
    rw (c.refused-in-Err-NoMemory.ensures.journal) (guarded-none bus pin (g.F.FlashDev.seen c.args.flash).held)

pub returns-in_default-clause-ends : goal.returns-in_default-clause-ends
returns-in_default-clause-ends g c =
    let read = c.in-Ok.read in
    rw (c.refused-in_default.ensures.exit, c.refused-in_default.ensures.journal)
    ((read.flash.now, read.bus, read.pin, c.in-Ok.ensures.ok), search rules, nothing-at-all (g.S.Source.left c.args.source.now) (g.K.Sink.written c.args.sink.now))

pub returns-in_default-clause-run : goal.returns-in_default-clause-run
returns-in_default-clause-run g c = λ path bus pin spelled.
    rw (c.refused-in_default.ensures.flash, c.refused-in_default.ensures.journal) (runs-none bus pin (g.F.FlashDev.seen c.args.flash).held)

pub returns-in_default-clause-guarded : goal.returns-in_default-clause-guarded
returns-in_default-clause-guarded g c = λ path bus pin spelled.
    rw (c.refused-in_default.ensures.journal) (guarded-none bus pin (g.F.FlashDev.seen c.args.flash).held)

pub returns-clause-ends : goal.returns-clause-ends
returns-clause-ends g c =
    let allowed : is_flash_size (g.F.FlashDev.seen c.args.flash).extent ≡ true = ap is_flash_size (sym c.size.ensures) ∙ c.in-Some.ensures.allowed.0 refl in
    let read = c.in-Ok.read in
    ends-by _ c.carry_by.result.exit c.args.words.now (g.F.FlashDev.seen c.args.flash) (g.F.FlashDev.seen c.carry_by.result.flash) read.flash.now read.bus read.pin _ _ _ _ _ c.in-Ok.ensures.ok allowed c.carry_by.ensures.carries.ends

pub returns-clause-run : goal.returns-clause-run
returns-clause-run g c =
    let read = c.in-Ok.read in
    let came = g.F.FlashDev.seen c.args.flash in
    let back = g.F.FlashDev.seen c.carry_by.result.flash in
    where-spelled c.args.words.now (λ (bus : BusKind) (pin : Bool). RunsTo bus pin c.carry_by.result.journal.entries came.held back.held) read.flash.now read.bus read.pin
    (spell_once c.args.words.now) c.in-Ok.ensures.ok c.carry_by.ensures.carries.runs

pub returns-clause-guard : goal.returns-clause-guard
returns-clause-guard g c =
    let read = c.in-Ok.read in
    let came = g.F.FlashDev.seen c.args.flash in
    let back = g.F.FlashDev.seen c.carry_by.result.flash in
    where-spelled c.args.words.now (λ (bus : BusKind) (pin : Bool). IsTrue pin → KeepsRo c.carry_by.result.journal.entries came.held back.held) read.flash.now read.bus read.pin
    (spell_once c.args.words.now) c.in-Ok.ensures.ok c.carry_by.ensures.carries.keeps

pub returns-clause-guarded : goal.returns-clause-guarded
returns-clause-guarded g c =
    let read = c.in-Ok.read in
    let came = g.F.FlashDev.seen c.args.flash in
    where-spelled c.args.words.now (λ (bus : BusKind) (pin : Bool). GuardsRun bus pin c.carry_by.result.journal.entries came.held) read.flash.now read.bus read.pin
    (spell_once c.args.words.now) c.in-Ok.ensures.ok c.carry_by.ensures.carries.guards
