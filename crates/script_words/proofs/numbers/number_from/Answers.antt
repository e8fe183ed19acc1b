use Rattle.std.proofs.Common.{◌∙◌, sym, arith}
use Rattle.script_words.proofs.NumberLaws.{digit_too_large, digit_read, digit_tested, digits_read}
use Rattle.script_words.proofs.numbers.number_from.Goals as goal

pub returns-in_err-checked_mul : goal.returns-in_err-checked_mul
returns-in_err-checked_mul c =
    let before = c.loop-byte.invariant in
    let digit = c.in_ok-digit.ensures.value.1 in
    c.from_residual-in_err-checked_mul.ensures
    ∙ sym (digit_too_large c.args.base c.args.digits.now c.loop-byte.byte-index c.loop-byte.number c.in_ok-digit.digit (omega arith) c.loop-byte-test.true before.value (rw c.from.ensures at digit) (omega (arith, c.in_err-checked_mul.ensures)))

pub returns-in_err-number : goal.returns-in_err-number
returns-in_err-number c =
    let before = c.loop-byte.invariant in
    let digit = c.in_ok-digit.ensures.value.1 in
    let product = c.in_ok-checked_mul.ensures in
    c.from_residual-in_err-number.ensures
    ∙ sym (digit_too_large c.args.base c.args.digits.now c.loop-byte.byte-index c.loop-byte.number c.in_ok-digit.digit (omega arith) c.loop-byte-test.true before.value (rw c.from.ensures at digit) (omega (arith, c.in_err-number.ensures, product.1)))

pub loop-byte-preserved : goal.loop-byte-preserved
loop-byte-preserved c =
    let before = c.loop-byte.invariant in
    let digit = c.in_ok-digit.ensures.value in
    let sum = c.in_ok-number.ensures in
    let product = c.in_ok-checked_mul.ensures in
    record {
      digits = digit_tested _ c.args.digits.now c.loop-byte.byte-index c.loop-byte-test.true before.digits (rw c.from.ensures at digit.0);
      value = sum.1 ∙ rw product.1 (digit_read c.args.base c.args.digits.now c.loop-byte.byte-index c.loop-byte.number c.in_ok-digit.digit c.loop-byte-test.true before.value (rw c.from.ensures at digit.1));
      below = rw sum.1 sum.0;
    }

pub returns : goal.returns
returns c =
    let before = c.loop-byte.invariant in
    digits_read c.args.base c.args.digits.now c.loop-byte.byte-index c.loop-byte.number (sym c.is_empty.ensures ∙ c.if-is_empty.false) c.loop-byte-test.false before.digits before.value before.below
