use Rattle.std.proofs.Common.{rules}
use Rattle.ec_packet.specs.Read.{request_view}
use Rattle.ec_model.specs.Handle.{admitted}
use Rattle.ec_boot.specs.States.{RunView}
use Rattle.ec_boot.specs.Either.{run_of}
use Rattle.command_table.specs.Serving.{Finds}
use Rattle.command_table.proofs.AfterLemmas.{served-idle}
use Rattle.command_table.proofs.GuardLemmas.{served-pin, served-guard}
use Rattle.command_table.proofs.table.answer.Goals as goal

pub finish-requires : goal.finish-requires
finish-requires g c =
    served-idle c.serve-next.result c.limit_of.result (λ core. admitted core (request_view c.args.request.now)) c.serve-next.new.reply.hurt c.serve-next.new.reply.status c.serve-next.new.reply.body (run_of c.args.state) (run_of c.serve-next.new.state)
    c.serve-next.ensures

pub returns-clause-row : goal.returns-clause-row
returns-clause-row g c =
    rw (← c.limit_of.ensures.limit)
    (c.finish.ensures.row c.limit_of.result (λ core. admitted core (request_view c.args.request.now)) (run_of c.args.state) (search rules) c.serve-next.ensures)

pub returns-clause-guard : goal.returns-clause-guard
returns-clause-guard g c =
    let finds : Finds = λ core. admitted core (request_view c.args.request.now) in
    let said = c.serve-next.new.reply in
    let old : RunView = run_of c.args.state in
    let new : RunView = run_of c.serve-next.new.state in
    c.finish.ensures.guard old (served-pin c.serve-next.result c.limit_of.result finds said.hurt said.status said.body old new c.serve-next.ensures)
    (served-guard c.geometry-size.result c.serve-next.result c.limit_of.result (request_view c.args.request.now) said.hurt said.status said.body old new
    c.geometry-size.ensures.allowed (rw c.geometry-size.ensures.size c.geometry-size.ensures.whole) c.serve-next.ensures)
