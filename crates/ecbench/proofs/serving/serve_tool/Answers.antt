use Rattle.std.proofs.Common.{rules, ◌≡◌, Ok}
use Rattle.ecbench.specs.Lines.{Asks, deed_of}
use Rattle.ecbench.proofs.Adding.{tool-done, tool-stopped, as-exit}
use Rattle.ecbench.proofs.ReadLemmas.{tool-checked}
use Rattle.ecbench.proofs.serving.serve_tool.Goals as goal

pub parse_checked-requires : goal.parse_checked-requires
parse_checked-requires g c = tool-checked c.args.line.now c.requires

pub returns-in_err-run-clause-serves : goal.returns-in_err-run-clause-serves
returns-in_err-run-clause-serves g c = λ around last.
    let wants : deed_of c.args.line.now ≡ Ok (Asks c.in-Ok.tool) = search rules in
    as-exit around c.from_residual-in_err-run.result c.in_err-run.field-0.0 c.args.number last c.args.line.now _ _ _ _ c.from_residual-in_err-run.ensures
    (tool-stopped around c.in_err-run.field-0.0 c.args.number last c.args.line.now c.in-Ok.tool _ _ _ _ _ wants c.in-Ok.ensures.within c.in_ok-begin.ensures.agrees c.in_ok-begin.ensures.begins c.in_err-run.ensures.runs)

pub returns-clause-serves : goal.returns-clause-serves
returns-clause-serves g c = λ around last.
    let wants : deed_of c.args.line.now ≡ Ok (Asks c.in-Ok.tool) = search rules in
    let (text, carries, said) = c.in_ok-run.ensures.runs in
    tool-done around c.args.number last c.args.line.now text c.in-Ok.tool _ _ _ _ _ wants c.in-Ok.ensures.within c.in_ok-begin.ensures.agrees c.in_ok-begin.ensures.begins carries said
