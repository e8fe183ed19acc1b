use Rattle.std.proofs.Common.{◌∙◌, sym}
use Rattle.flash_protect.proofs.StoringLemmas.{place-found, place-none}
use Rattle.flash_protect.proofs.block.place.Goals as goal

pub returns-then-next-lt-SLOT_COUNT-clause-place : goal.returns-then-next-lt-SLOT_COUNT-clause-place
returns-then-next-lt-SLOT_COUNT-clause-place c =
    place-found c.args.at c.next-next.result c.args.bytes.now (sym c.begins_with_mark.ensures ∙ c.if-not-begins_with_mark.false) c.next-next.ensures c.if-next-lt-SLOT_COUNT.true

pub returns-else-next-lt-SLOT_COUNT-clause-place : goal.returns-else-next-lt-SLOT_COUNT-clause-place
returns-else-next-lt-SLOT_COUNT-clause-place c =
    place-none c.args.at c.next-next.result c.args.bytes.now (sym c.begins_with_mark.ensures ∙ c.if-not-begins_with_mark.false) c.next-next.ensures c.if-next-lt-SLOT_COUNT.false
