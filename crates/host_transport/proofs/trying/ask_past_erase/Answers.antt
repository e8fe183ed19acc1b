use Rattle.std.proofs.Common.{◌≡◌, true, false, drop}
use Rattle.ec_model.specs.Asks.{has_status}
use Rattle.host_transport.specs.Asking.{got_of}
use Rattle.host_transport.proofs.TryLaws.{past-told, past-again, room-with}
use Rattle.host_transport.proofs.trying.ask_past_erase.Goals as goal

pub returns-then-not-has_status-clause-asks : goal.returns-then-not-has_status-clause-asks
returns-then-not-has_status-clause-asks g c =
    let body = drop 8 c.ask-told.new.reply in
    let same = c.has_status.ensures body in
    let other : has_status 16 (got_of c.ask-told.result body) ≡ false = cc in
    past-told _ _ _ _ _ _ c.ask-told.ensures.asks other

pub ask_when_idle-requires-clause-room : goal.ask_when_idle-requires-clause-room
ask_when_idle-requires-clause-room g c =
    let body = drop 8 c.ask-told.new.reply in
    let same = c.has_status.ensures body in
    let busy : has_status 16 (got_of c.ask-told.result body) ≡ true = cc in
    room-with _ 16 c.ask-told.result body _ busy c.ask-told.ensures.leaves

pub returns-clause-asks : goal.returns-clause-asks
returns-clause-asks g c =
    let body = drop 8 c.ask-told.new.reply in
    let same = c.has_status.ensures body in
    let busy : has_status 16 (got_of c.ask-told.result body) ≡ true = cc in
    past-again _ _ _ _ _ _ _ _ c.ask-told.ensures.asks busy c.ask_when_idle.ensures.asks
