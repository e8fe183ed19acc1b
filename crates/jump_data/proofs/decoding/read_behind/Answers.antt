use Rattle.std.proofs.Common.{◌∙◌, sym, []}
use Rattle.jump_data.specs.Spelling.{behind_protection}
use Rattle.jump_data.proofs.Walking.{none-in-front}
use Rattle.jump_data.proofs.Reading.{are-behind, some-behind, first, is_saved, is_hash, last_saved, is-saved_tag}
use Rattle.jump_data.proofs.decoding.read_behind.Goals as goal

pub returns-in_err-number-clause-accepted : goal.returns-in_err-number-clause-accepted
returns-in_err-number-clause-accepted c = λ hash saved kept fits same.
    absurd (none-in-front c.args.tags.now (behind_protection hash saved) (λ empty. some-behind hash saved (sym empty ∙ same))
    (λ tag rest is spelled. let some = c.in_err-number.ensures.accepted tag rest is spelled in cc) (are-behind hash saved kept) same)

pub returns-in_err-saved_of-clause-accepted : goal.returns-in_err-saved_of-clause-accepted
returns-in_err-saved_of-clause-accepted c = λ hash saved kept fits same.
    let front = first c.in_ok-number.number c.in_ok-number.content.now c.in_ok-number.behind.now hash saved c.in_ok-number.ensures.is kept (sym c.in_ok-number.ensures.spelled ∙ same) in
    let parts = is_saved c.in_ok-number.number c.in_ok-number.content.now c.in_ok-number.behind.now hash saved front c.if-number-eq-SAVED.true in
    let found = c.in_err-saved_of.ensures saved fits parts.0 in
    absurd cc

pub returns-then-number-eq-SAVED-clause-accepted : goal.returns-then-number-eq-SAVED-clause-accepted
returns-then-number-eq-SAVED-clause-accepted c = λ hash saved kept fits same.
    let front = first c.in_ok-number.number c.in_ok-number.content.now c.in_ok-number.behind.now hash saved c.in_ok-number.ensures.is kept (sym c.in_ok-number.ensures.spelled ∙ same) in
    let parts = is_saved c.in_ok-number.number c.in_ok-number.content.now c.in_ok-number.behind.now hash saved front c.if-number-eq-SAVED.true in
    let found = c.in_ok-saved_of.ensures saved fits parts.0 in
    let none = parts.1 in
    cc

pub returns-in_err-hash-clause-accepted : goal.returns-in_err-hash-clause-accepted
returns-in_err-hash-clause-accepted c = λ hash saved kept fits same.
    let front = first c.in_ok-number.number c.in_ok-number.content.now c.in_ok-number.behind.now hash saved c.in_ok-number.ensures.is kept (sym c.in_ok-number.ensures.spelled ∙ same) in
    let parts = is_hash c.in_ok-number.number c.in_ok-number.content.now c.in_ok-number.behind.now hash saved front c.if-number-eq-SAVED.false in
    let found = c.in_err-hash.ensures.accepted parts.kept parts.is parts.content_is in
    absurd cc

pub returns-in_err-content-clause-accepted : goal.returns-in_err-content-clause-accepted
returns-in_err-content-clause-accepted c = λ hash saved kept fits same.
    let front = first c.in_ok-number.number c.in_ok-number.content.now c.in_ok-number.behind.now hash saved c.in_ok-number.ensures.is kept (sym c.in_ok-number.ensures.spelled ∙ same) in
    let parts = is_hash c.in_ok-number.number c.in_ok-number.content.now c.in_ok-number.behind.now hash saved front c.if-number-eq-SAVED.false in
    let some = c.in_err-content.ensures.accepted _ [] (is-saved_tag saved) parts.behind_is in
    absurd cc

pub returns-in_err-saved_of-2-clause-accepted : goal.returns-in_err-saved_of-2-clause-accepted
returns-in_err-saved_of-2-clause-accepted c = λ hash saved kept fits same.
    let front = first c.in_ok-number.number c.in_ok-number.content.now c.in_ok-number.behind.now hash saved c.in_ok-number.ensures.is kept (sym c.in_ok-number.ensures.spelled ∙ same) in
    let parts = is_hash c.in_ok-number.number c.in_ok-number.content.now c.in_ok-number.behind.now hash saved front c.if-number-eq-SAVED.false in
    let content = last_saved c.in_ok-content.field-0-0 c.in_ok-content.content.now c.in_ok-content.field-0-2.now saved c.in_ok-content.ensures.is (sym c.in_ok-content.ensures.spelled ∙ parts.behind_is) in
    let found = c.in_err-saved_of-2.ensures saved fits content in
    absurd cc

pub returns-clause-accepted : goal.returns-clause-accepted
returns-clause-accepted c = λ hash saved kept fits same.
    let front = first c.in_ok-number.number c.in_ok-number.content.now c.in_ok-number.behind.now hash saved c.in_ok-number.ensures.is kept (sym c.in_ok-number.ensures.spelled ∙ same) in
    let parts = is_hash c.in_ok-number.number c.in_ok-number.content.now c.in_ok-number.behind.now hash saved front c.if-number-eq-SAVED.false in
    let hashed = c.in_ok-hash.ensures.accepted parts.kept parts.is parts.content_is in
    let content = last_saved c.in_ok-content.field-0-0 c.in_ok-content.content.now c.in_ok-content.field-0-2.now saved c.in_ok-content.ensures.is (sym c.in_ok-content.ensures.spelled ∙ parts.behind_is) in
    let found = c.in_ok-saved_of-2.ensures saved fits content in
    let some = parts.some in
    cc
