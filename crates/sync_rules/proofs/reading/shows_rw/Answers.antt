use Rattle.std.proofs.Common.{arith}
use Rattle.sync_rules.proofs.Fields.{current-read, copy-told}
use Rattle.sync_rules.proofs.reading.shows_rw.Goals as goal

pub returns : goal.returns
returns c =
    let say = c.from_bytes.result in
    let e = c.runs_rw.ensures in
    record {
      told = copy-told c.args.body.now say.current c.runs_rw.result (omega (arith, c.if-body-ne100.false))
          (current-read c.args.body.now say.ro say.rw say.reserved say.current e.ro e.rw e.reserved (omega arith) c.from_bytes.ensures.spelled) e.runs;
    }
