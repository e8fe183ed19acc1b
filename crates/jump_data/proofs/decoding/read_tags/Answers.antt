use Rattle.std.proofs.Common.{◌∙◌, sym, ap, ℕ, List, length, Some}
use Rattle.std.specs.List.{list_all}
use Rattle.jump_data.specs.Spelling.{is_switch, kept_tags}
use Rattle.jump_data.proofs.Walking.{none-in-front}
use Rattle.jump_data.proofs.Reading.{are-kept, first_protect, tagged-same}
use Rattle.jump_data.proofs.decoding.read_tags.Goals as goal

pub returns-in_err-content-clause-accepted : goal.returns-in_err-content-clause-accepted
returns-in_err-content-clause-accepted c = λ protect hash saved four switches kept fits same.
    absurd (none-in-front c.args.tags.now (kept_tags protect hash saved) (λ empty. cc)
    (λ tag rest is spelled. let some = c.in_err-content.ensures.accepted tag rest is spelled in cc) (are-kept protect hash saved four kept) same)

pub returns-in_err-protect-clause-accepted : goal.returns-in_err-protect-clause-accepted
returns-in_err-protect-clause-accepted c = λ protect hash saved four switches kept fits same.
    let parts = first_protect c.in_ok-content.field-0-0 c.in_ok-content.content.now c.in_ok-content.behind.now protect hash saved c.in_ok-content.ensures.is four (sym c.in_ok-content.ensures.spelled ∙ same) in
    let found = c.in_err-protect.ensures.accepted (ap length parts.0 ∙ four) (ap (list_all is_switch) parts.0 ∙ switches) in
    absurd cc

pub returns-in_err-hash-clause-accepted : goal.returns-in_err-hash-clause-accepted
returns-in_err-hash-clause-accepted c = λ protect hash saved four switches kept fits same.
    let parts = first_protect c.in_ok-content.field-0-0 c.in_ok-content.content.now c.in_ok-content.behind.now protect hash saved c.in_ok-content.ensures.is four (sym c.in_ok-content.ensures.spelled ∙ same) in
    let found = c.in_err-hash.ensures.accepted hash saved kept fits parts.1 in
    absurd cc

pub returns-clause-accepted : goal.returns-clause-accepted
returns-clause-accepted c = λ protect hash saved four switches kept fits same.
    let parts = first_protect c.in_ok-content.field-0-0 c.in_ok-content.content.now c.in_ok-content.behind.now protect hash saved c.in_ok-content.ensures.is four (sym c.in_ok-content.ensures.spelled ∙ same) in
    let protected = c.in_ok-protect.ensures.accepted (ap length parts.0 ∙ four) (ap (list_all is_switch) parts.0 ∙ switches) in
    tagged-same c.args.layout c.args.flags c.in_ok-protect.protect protect c.in_ok-hash.hash hash c.in_ok-hash.saved saved
    (protected ∙ ap (λ (bytes : List ℕ). Some bytes) parts.0) (c.in_ok-hash.ensures.accepted hash saved kept fits parts.1)
