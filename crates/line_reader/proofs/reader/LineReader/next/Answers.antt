use Rattle.std.proofs.Common.{◌∙◌, sym, arith, length}
use Rattle.std.proofs.lemmas.Bool.{eqb-true, eqb-false}
use Rattle.std.proofs.lemmas.Result.{err_from_is_err_and}
use Rattle.line_reader.proofs.Reading.{still_ahead, reading-byte, failed-reads, feed-reads, long-reads, end-reads, full-reads}
use Rattle.line_reader.proofs.reader.LineReader.next.Goals as goal

pub returns-in_err-next_byte-clause-reads : goal.returns-in_err-next_byte-clause-reads
returns-in_err-next_byte-clause-reads g c =
    let answer = err_from_is_err_and c.from_residual.result c.from_residual.ensures.1 in
    rw answer.1 (failed-reads _ _ _ _ _ _ _ c.loop-self.invariant.reading _ _ _ c.next_byte.ensures.within.read _ _ c.in_err-next_byte.ensures.finds)

pub returns-in_err-next_byte-clause-patient : goal.returns-in_err-next_byte-clause-patient
returns-in_err-next_byte-clause-patient g c feed = c.next_byte.ensures.patient (still_ahead _ _ _ _ _ _ _ c.loop-self.invariant.reading feed) ∙ c.loop-self.invariant.patient feed

pub returns-in-Byte-eq10-clause-reads : goal.returns-in-Byte-eq10-clause-reads
returns-in-Byte-eq10-clause-reads g c =
    let finds = rw c.in-Byte-eq10.is at c.in_ok-next_byte.ensures.finds in
    rw c.end_line.ensures.answer
    (feed-reads _ _ _ _ _ _ _ c.loop-self.invariant.reading _ _ _ c.next_byte.ensures.within.read c.in-Byte-eq10.field-0 c.end_line.new.line.items c.in-Byte-eq10.field-0-test finds c.end_line.ensures.stripped)

pub returns-in-Byte-eq10-clause-patient : goal.returns-in-Byte-eq10-clause-patient
returns-in-Byte-eq10-clause-patient g c feed = c.next_byte.ensures.patient (still_ahead _ _ _ _ _ _ _ c.loop-self.invariant.reading feed) ∙ c.loop-self.invariant.patient feed

pub returns-then-is_full-clause-reads : goal.returns-then-is_full-clause-reads
returns-then-is_full-clause-reads g c =
    let finds = rw c.in-Byte.is at c.in_ok-next_byte.ensures.finds in
    long-reads _ _ _ _ _ _ _ c.loop-self.invariant.reading _ _ _ c.next_byte.ensures.within.read c.in-Byte.byte _ finds c.in-Byte.byte-test.1 (omega (arith, eqb-true (length c.loop-self.self-inside.line.items) 16385 (sym c.if-is_full.ensures.value)))

pub returns-then-is_full-clause-patient : goal.returns-then-is_full-clause-patient
returns-then-is_full-clause-patient g c feed = c.next_byte.ensures.patient (still_ahead _ _ _ _ _ _ _ c.loop-self.invariant.reading feed) ∙ c.loop-self.invariant.patient feed

pub loop-self-preserved : goal.loop-self-preserved
loop-self-preserved g c =
    let finds = rw c.in-Byte.is at c.in_ok-next_byte.ensures.finds in
    record {
      reading = rw c.push.ensures.items (reading-byte _ _ _ _ _ _ _ c.loop-self.invariant.reading _ _ _ c.next_byte.ensures.within.read c.in-Byte.byte finds c.in-Byte.byte-test.1 (omega (arith, c.loop-self.invariant.reading.fits, eqb-false (length c.loop-self.self-inside.line.items) 16385 (sym c.if-is_full.ensures.value))));
      patient = λ feed. c.next_byte.ensures.patient (still_ahead _ _ _ _ _ _ _ c.loop-self.invariant.reading feed) ∙ c.loop-self.invariant.patient feed;
      later = omega (arith, c.loop-self.invariant.later, c.next_byte.ensures.cause.later);
    }

pub returns-in-End-clause-reads : goal.returns-in-End-clause-reads
returns-in-End-clause-reads g c =
    let finds = rw c.in-End.is at c.in_ok-next_byte.ensures.finds in
    rw (c.last_line.ensures, c.as_slice.ensures.value) (end-reads _ _ _ _ _ _ _ c.loop-self.invariant.reading _ _ _ c.next_byte.ensures.within.read finds)

pub returns-in-End-clause-patient : goal.returns-in-End-clause-patient
returns-in-End-clause-patient g c feed = c.next_byte.ensures.patient (still_ahead _ _ _ _ _ _ _ c.loop-self.invariant.reading feed) ∙ c.loop-self.invariant.patient feed

pub returns-in-Full-clause-reads : goal.returns-in-Full-clause-reads
returns-in-Full-clause-reads g c =
    let finds = rw c.in-Full.is at c.in_ok-next_byte.ensures.finds in
    rw (c.cut_line.ensures, c.as_slice-in-Full.ensures.value) (full-reads _ _ _ _ _ _ _ c.loop-self.invariant.reading _ _ _ c.next_byte.ensures.within.read _ finds)

pub returns-in-Full-clause-patient : goal.returns-in-Full-clause-patient
returns-in-Full-clause-patient g c feed = c.next_byte.ensures.patient (still_ahead _ _ _ _ _ _ _ c.loop-self.invariant.reading feed) ∙ c.loop-self.invariant.patient feed
