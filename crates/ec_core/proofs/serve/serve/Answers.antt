use Rattle.ec_types.specs.Tables.{packet_limit}
use Rattle.ec_model.specs.Handle.{asked}
use Rattle.ec_boot.specs.declared.awake.Awake.TheVariants.{Ro, Rw}
use Rattle.command_table.specs.Serving.{Finds}
use Rattle.ec_core.proofs.ServeLemmas.{limits}
use Rattle.ec_core.proofs.KeptLemmas.{kept-answered, finished-short, finished-up, finished-anew, finished-down}
use Rattle.ec_core.proofs.serve.serve.Goals as goal

pub returns-then-is_done : goal.returns-then-is_done
returns-then-is_done g c = λ event old_bus answer taken.
    let said = c.serve_held-next.new.reply in
    let done = c.is_done.ensures c.if-is_done.true in
    kept-answered {F = g.row.F.Denot} g.B.Bus.bus event answer old_bus (g.B.Bus.state c.args.bus.now) (g.B.Bus.state c.respond.new.bus) c.serve_held-next.result said.hurt said.status said.body c.waiting.result.now c.args.held.now c.serve_held-next.new.held
    (g.met.B.Bus.own c.args.bus.now) c.waiting.ensures.waiting c.respond.ensures done.0 done.1 (rw c.kind.ensures at c.serve_held-next.ensures) taken

pub go_on-requires-clause-short : goal.go_on-requires-clause-short
go_on-requires-clause-short g c =
    let asked_by : Finds = λ core. asked core c.waiting.result.now in
    let said = c.serve_held-next.new.reply in
    let told = c.finish.new.reply in
    finished-short {F = g.row.F.Denot} c.serve_held-next.result (packet_limit g.B.Bus.bus) asked_by said.hurt told.hurt said.status told.status said.body told.body c.args.held.now c.in-Some-Up.on c.in-Ro.on
    (rw (c.kind.ensures, ← c.in-Some-Up.ensures.value, c.in-Some-Up.field-0-is) at c.serve_held-next.ensures)
    (λ from served. c.in-Ro.ensures.row (packet_limit g.B.Bus.bus) asked_by from (limits g.B.Bus.bus).least served)

pub returns-in-Ro : goal.returns-in-Ro
returns-in-Ro g c = λ event old_bus answer taken.
    let asked_by : Finds = λ core. asked core c.waiting.result.now in
    let said = c.serve_held-next.new.reply in
    let told = c.finish.new.reply in
    rw (c.put.ensures.held, c.put.ensures.hurt, c.put.ensures.restarted, c.go_on.ensures.held, c.go_on.ensures.hurt, c.go_on.ensures.restarted)
    (finished-up {F = g.row.F.Denot} g.B.Bus.bus event answer old_bus (g.B.Bus.state c.args.bus.now) (g.B.Bus.state c.go_on.new.bus) c.serve_held-next.result said.hurt told.hurt said.status told.status said.body told.body c.waiting.result.now c.args.held.now
    c.in-Some-Up.on (Ro c.in-Ro.on) (g.met.B.Bus.own c.args.bus.now) c.waiting.ensures.waiting c.go_on.ensures.bus (rw (c.kind.ensures, ← c.in-Some-Up.ensures.value, c.in-Some-Up.field-0-is) at c.serve_held-next.ensures)
    (λ from served. c.in-Ro.ensures.row (packet_limit g.B.Bus.bus) asked_by from (limits g.B.Bus.bus).least served) taken)

pub go_on-requires-in-Rw-clause-short : goal.go_on-requires-in-Rw-clause-short
go_on-requires-in-Rw-clause-short g c =
    let asked_by : Finds = λ core. asked core c.waiting.result.now in
    let said = c.serve_held-next.new.reply in
    let told = c.finish.new.reply in
    finished-short {F = g.row.F.Denot} c.serve_held-next.result (packet_limit g.B.Bus.bus) asked_by said.hurt told.hurt said.status told.status said.body told.body c.args.held.now c.in-Some-Up.on c.in-Rw.on
    (rw (c.kind.ensures, ← c.in-Some-Up.ensures.value, c.in-Some-Up.field-0-is) at c.serve_held-next.ensures)
    (λ from served. c.in-Rw.ensures.row (packet_limit g.B.Bus.bus) asked_by from (limits g.B.Bus.bus).least served)

pub returns-in-Rw : goal.returns-in-Rw
returns-in-Rw g c = λ event old_bus answer taken.
    let asked_by : Finds = λ core. asked core c.waiting.result.now in
    let said = c.serve_held-next.new.reply in
    let told = c.finish.new.reply in
    rw (c.put-in-Rw.ensures.held, c.put-in-Rw.ensures.hurt, c.put-in-Rw.ensures.restarted, c.go_on-in-Rw.ensures.held, c.go_on-in-Rw.ensures.hurt, c.go_on-in-Rw.ensures.restarted)
    (finished-up {F = g.row.F.Denot} g.B.Bus.bus event answer old_bus (g.B.Bus.state c.args.bus.now) (g.B.Bus.state c.go_on-in-Rw.new.bus) c.serve_held-next.result said.hurt told.hurt said.status told.status said.body told.body c.waiting.result.now c.args.held.now
    c.in-Some-Up.on (Rw c.in-Rw.on) (g.met.B.Bus.own c.args.bus.now) c.waiting.ensures.waiting c.go_on-in-Rw.ensures.bus (rw (c.kind.ensures, ← c.in-Some-Up.ensures.value, c.in-Some-Up.field-0-is) at c.serve_held-next.ensures)
    (λ from served. c.in-Rw.ensures.row (packet_limit g.B.Bus.bus) asked_by from (limits g.B.Bus.bus).least served) taken)

pub returns-in-Reset : goal.returns-in-Reset
returns-in-Reset g c = λ event old_bus answer taken.
    let asked_by : Finds = λ core. asked core c.waiting.result.now in
    let said = c.serve_held-next.new.reply in
    let told = c.finish.new.reply in
    rw (c.put-in-Reset.ensures.held, c.put-in-Reset.ensures.hurt, c.put-in-Reset.ensures.restarted, c.start_anew.ensures.held, c.start_anew.ensures.hurt, c.start_anew.ensures.restarted)
    (finished-anew {F = g.row.F.Denot} g.B.Bus.bus event answer old_bus (g.B.Bus.state c.args.bus.now) (g.B.Bus.state c.start_anew.new.bus) c.serve_held-next.result said.hurt told.hurt said.status told.status said.body told.body c.waiting.result.now c.args.held.now
    c.in-Some-Up.on c.in-Reset.on (g.met.B.Bus.own c.args.bus.now) c.waiting.ensures.waiting c.start_anew.ensures.bus (rw (c.kind.ensures, ← c.in-Some-Up.ensures.value, c.in-Some-Up.field-0-is) at c.serve_held-next.ensures)
    (λ from served. c.in-Reset.ensures.row (packet_limit g.B.Bus.bus) asked_by from (limits g.B.Bus.bus).least served) taken)

pub returns-in-Off : goal.returns-in-Off
returns-in-Off g c = λ event old_bus answer taken.
    let asked_by : Finds = λ core. asked core c.waiting.result.now in
    let said = c.serve_held-next.new.reply in
    rw (c.put-in-Off.ensures.held, c.put-in-Off.ensures.hurt, c.put-in-Off.ensures.restarted)
    (finished-down {F = g.row.F.Denot} g.B.Bus.bus event answer old_bus (g.B.Bus.state c.args.bus.now) c.serve_held-next.result said.hurt c.finish.new.reply.hurt said.status said.body c.waiting.result.now c.args.held.now
    c.in-Some-Up.on c.in-Off.off c.pin-pin.result (g.met.B.Bus.own c.args.bus.now) c.waiting.ensures.waiting c.pin-pin.ensures (rw (c.kind.ensures, ← c.in-Some-Up.ensures.value, c.in-Some-Up.field-0-is) at c.serve_held-next.ensures)
    (λ from served. c.in-Off.ensures.row (packet_limit g.B.Bus.bus) asked_by from (limits g.B.Bus.bus).least served) taken)
