use Rattle.std.proofs.Common.{◌≡◌, sym, ap, ◌∙◌, ℕ, suc, ◌+◌, ◌-◌, Bool, true, false, not, List, [], ◌∷◌, ◌++◌, append_assoc, arith, Some}
use Rattle.ec_model.specs.declared.event.Access.TheVariants.{SpiByte}
use Rattle.ec_model.specs.Heard.{poll_end}
use Rattle.ec_model.specs.SendSpi.{is_spi_waiting}
use Rattle.ec_wire.proofs.Growth.{made-then, made-as}
use Rattle.host_framing.proofs.PollLemmas.{poll-busy, poll-ready}
use Rattle.host_framing.proofs.SpiParts.{spaced-more, last-of, waiting, not-waiting, last-ends}
use Rattle.host_framing.proofs.spi.poll.Goals as goal

pub returns-then-answer-clause-polls : goal.returns-then-answer-clause-polls
returns-then-answer-clause-polls g c =
    let so_far = c.loop-turn.invariant in
    let last = c.loop-turn.answer in
    let ended : is_spi_waiting last ≡ false = not-waiting last c.if-answer.true in
    let left : 5 - c.loop-turn._turn ≡ suc (4 - c.loop-turn._turn) = omega arith in
    record {
      answers = so_far.front ++ last ∷ [];
      last_is = last-of so_far.front last;
      polled = so_far.rest (last ∷ []) ∙ ap (λ (n : ℕ). poll_end is_spi_waiting n (last ∷ [])) left ∙ poll-ready is_spi_waiting _ last ended ∙ ap (λ (test : Bool). Some (not test)) (sym ended);
      made = so_far.made;
    }

pub loop-turn-preserved : goal.loop-turn-preserved
loop-turn-preserved g c =
    let so_far = c.loop-turn.invariant in
    let last = c.loop-turn.answer in
    let next = c.did-answer-in-loop-turn.result in
    let waits : is_spi_waiting last ≡ true = waiting last c.if-answer.false in
    let left : 5 - c.loop-turn._turn ≡ suc (5 - (c.loop-turn._turn + 1)) = omega arith in
    record {
      room = omega arith;
      front = so_far.front ++ last ∷ [];
      rest = λ more. ap (λ (bytes : List ℕ). poll_end is_spi_waiting 5 bytes) (append_assoc so_far.front (last ∷ []) more) ∙ so_far.rest (last ∷ more) ∙ ap (λ (n : ℕ). poll_end is_spi_waiting n (last ∷ more)) left ∙ poll-busy is_spi_waiting _ last more waits;
      made = made-as _ _ _ _ (sym (spaced-more (SpiByte 0) so_far.front last next)) (made-then _ _ _ _ _ so_far.made (made-then _ _ _ _ _ c.waited.ensures.made c.did-answer-in-loop-turn.ensures.made));
    }

pub returns-clause-polls : goal.returns-clause-polls
returns-clause-polls g c =
    let so_far = c.loop-turn.invariant in
    let last = c.loop-turn.answer in
    let over : 5 - c.loop-turn._turn ≡ 1 = omega arith in
    record {
      answers = so_far.front ++ last ∷ [];
      last_is = last-of so_far.front last;
      polled = so_far.rest (last ∷ []) ∙ ap (λ (n : ℕ). poll_end is_spi_waiting n (last ∷ [])) over ∙ last-ends last;
      made = so_far.made;
    }
