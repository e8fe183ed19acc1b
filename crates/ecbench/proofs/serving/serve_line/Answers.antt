use Rattle.std.proofs.Common.{◌≡◌, ap, sym, ◌∙◌, Ok, Result}
use Rattle.ec_model.specs.declared.event.WorldEvent.TheVariants as world
use Rattle.script_words.specs.declared.fault.Fault.{Fault}
use Rattle.script_words.specs.Faults.{by_kind}
use Rattle.script_lines.specs.declared.line.Line.{Line}
use Rattle.script_lines.specs.declared.line.Line.TheVariants as line
use Rattle.script_lines.specs.Lines.{line_of}
use Rattle.ecbench.proofs.Adding.{event-serves, calls-serves, arm-serves, cut-serves, sync-named, drill-serves, trace-serves}
use Rattle.ecbench.proofs.ReadLemmas.{deed-read}
use Rattle.ecbench.proofs.serving.serve_line.Goals as goal

pub returns-in-Ok-Pin-clause-serves : goal.returns-in-Ok-Pin-clause-serves
returns-in-Ok-Pin-clause-serves g c =
    let read = line.Pin c.in-Ok-Pin.on in
    let is : line_of c.args.line.now ≡ Ok read = sym c.parse.ensures.line ∙ ap (λ (outcome : Result Line Fault). by_kind outcome) c.in-Ok-Pin.is ∙ ap (λ (found : Line). Ok found) c.in-Ok-Pin.field-0-is in
    event-serves _ c.serve_event.result c.args.place.number _ c.args.line.now (world.Pin c.in-Ok-Pin.on) _ _ _ _ (deed-read c.args.line.now read is) c.serve_event.ensures.serves

pub returns-in-Ok-Power-clause-serves : goal.returns-in-Ok-Power-clause-serves
returns-in-Ok-Power-clause-serves g c =
    let read = line.Power c.in-Ok-Power.on in
    let is : line_of c.args.line.now ≡ Ok read = sym c.parse.ensures.line ∙ ap (λ (outcome : Result Line Fault). by_kind outcome) c.in-Ok-Power.is ∙ ap (λ (found : Line). Ok found) c.in-Ok-Power.field-0-is in
    event-serves _ c.serve_event-in-Ok-Power.result c.args.place.number _ c.args.line.now (world.Power c.in-Ok-Power.on) _ _ _ _ (deed-read c.args.line.now read is) c.serve_event-in-Ok-Power.ensures.serves

pub returns-in-Ok-Reset-clause-serves : goal.returns-in-Ok-Reset-clause-serves
returns-in-Ok-Reset-clause-serves g c =
    let read = line.Reset c.in-Ok-Reset.cause in
    let is : line_of c.args.line.now ≡ Ok read = sym c.parse.ensures.line ∙ ap (λ (outcome : Result Line Fault). by_kind outcome) c.in-Ok-Reset.is ∙ ap (λ (found : Line). Ok found) c.in-Ok-Reset.field-0-is in
    event-serves _ c.serve_event-in-Ok-Reset.result c.args.place.number _ c.args.line.now (world.Reset c.in-Ok-Reset.cause) _ _ _ _ (deed-read c.args.line.now read is) c.serve_event-in-Ok-Reset.ensures.serves

pub returns-in-Ok-Bus-clause-serves : goal.returns-in-Ok-Bus-clause-serves
returns-in-Ok-Bus-clause-serves g c =
    let read = line.Bus c.in-Ok-Bus.calls in
    let is : line_of c.args.line.now ≡ Ok read = sym c.parse.ensures.line ∙ ap (λ (outcome : Result Line Fault). by_kind outcome) c.in-Ok-Bus.is ∙ ap (λ (found : Line). Ok found) c.in-Ok-Bus.field-0-is in
    calls-serves _ c.serve_calls.result c.args.place.number _ c.args.line.now c.in-Ok-Bus.calls _ _ _ _ (deed-read c.args.line.now read is) c.serve_calls.ensures.serves

pub returns-in-Ok-At-clause-serves : goal.returns-in-Ok-At-clause-serves
returns-in-Ok-At-clause-serves g c =
    let read = line.At c.in-Ok-At.call c.in-Ok-At.event in
    let is : line_of c.args.line.now ≡ Ok read = sym c.parse.ensures.line ∙ ap (λ (outcome : Result Line Fault). by_kind outcome) c.in-Ok-At.is ∙ ap (λ (found : Line). Ok found) c.in-Ok-At.field-0-is in
    arm-serves _ c.serve_at.result c.args.place.number _ c.args.line.now c.in-Ok-At.call c.in-Ok-At.event _ _ _ _ (deed-read c.args.line.now read is) c.serve_at.ensures.serves

pub returns-in-Ok-Cut-clause-serves : goal.returns-in-Ok-Cut-clause-serves
returns-in-Ok-Cut-clause-serves g c =
    let read = line.Cut c.in-Ok-Cut.operation c.in-Ok-Cut.torn in
    let is : line_of c.args.line.now ≡ Ok read = sym c.parse.ensures.line ∙ ap (λ (outcome : Result Line Fault). by_kind outcome) c.in-Ok-Cut.is ∙ ap (λ (found : Line). Ok found) c.in-Ok-Cut.field-0-is in
    cut-serves _ c.serve_cut.result c.args.place.number _ c.args.line.now c.in-Ok-Cut.operation c.in-Ok-Cut.torn _ _ _ _ (deed-read c.args.line.now read is) c.serve_cut.ensures.serves

pub returns-in-Ok-Trace-clause-serves : goal.returns-in-Ok-Trace-clause-serves
returns-in-Ok-Trace-clause-serves g c =
    let is : line_of c.args.line.now ≡ Ok line.Trace = sym c.parse.ensures.line ∙ ap (λ (outcome : Result Line Fault). by_kind outcome) c.in-Ok-Trace.is ∙ ap (λ (found : Line). Ok found) c.in-Ok-Trace.field-0-is in
    trace-serves _ c.serve_trace.result c.args.place.number _ c.args.line.now _ _ _ _ (deed-read c.args.line.now line.Trace is) c.serve_trace.ensures.serves

pub returns-in-Ok-Sync-clause-serves : goal.returns-in-Ok-Sync-clause-serves
returns-in-Ok-Sync-clause-serves g c =
    let read = line.Sync c.in-Ok-Sync.name in
    let is : line_of c.args.line.now ≡ Ok read = sym c.parse.ensures.line ∙ ap (λ (outcome : Result Line Fault). by_kind outcome) c.in-Ok-Sync.is ∙ ap (λ (found : Line). Ok found) c.in-Ok-Sync.field-0-is in
    sync-named c.serve_sync.result _ c.args.place.number _ c.args.line.now _ c.in-Ok-Sync.name _ _ _ _ c.as_bytes.ensures (deed-read c.args.line.now read is) c.serve_sync.ensures.serves

pub returns-in-Ok-Drill-clause-serves : goal.returns-in-Ok-Drill-clause-serves
returns-in-Ok-Drill-clause-serves g c =
    let read = line.Drill c.in-Ok-Drill.x c.in-Ok-Drill.rounds in
    let is : line_of c.args.line.now ≡ Ok read = sym c.parse.ensures.line ∙ ap (λ (outcome : Result Line Fault). by_kind outcome) c.in-Ok-Drill.is ∙ ap (λ (found : Line). Ok found) c.in-Ok-Drill.field-0-is in
    drill-serves c.serve_drill.result _ c.args.place.number _ c.args.line.now c.in-Ok-Drill.x c.in-Ok-Drill.rounds _ _ _ _ (deed-read c.args.line.now read is) c.serve_drill.ensures.serves
