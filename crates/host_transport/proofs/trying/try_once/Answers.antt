use Rattle.std.proofs.Common.{◌≡◌, true, false, drop}
use Rattle.ec_model.specs.Asks.{has_status}
use Rattle.host_transport.specs.Asking.{got_of}
use Rattle.host_transport.proofs.TryLaws.{try-told, try-resent, room-with, meant-leaves}
use Rattle.host_transport.proofs.trying.try_once.Goals as goal

pub returns-then-not-has_status-clause-tries : goal.returns-then-not-has_status-clause-tries
returns-then-not-has_status-clause-tries g c =
    let body = drop 8 c.ask_past_erase-told.new.reply in
    let same = c.has_status.ensures body in
    let other : has_status 8 (got_of c.ask_past_erase-told.result body) ≡ false = cc in
    try-told _ _ _ _ _ _ _ c.ask_past_erase-told.ensures.asks other (c.meant.ensures.end body)

pub ask_when_idle-last-requires-clause-room : goal.ask_when_idle-last-requires-clause-room
ask_when_idle-last-requires-clause-room g c =
    let body = drop 8 c.ask_past_erase-told.new.reply in
    let same = c.has_status.ensures body in
    let going : has_status 8 (got_of c.ask_past_erase-told.result body) ≡ true = cc in
    room-with _ 8 c.ask_past_erase-told.result body _ going c.ask_past_erase-told.ensures.leaves

pub returns-clause-tries : goal.returns-clause-tries
returns-clause-tries g c =
    let body = drop 8 c.ask_past_erase-told.new.reply in
    let same = c.has_status.ensures body in
    let going : has_status 8 (got_of c.ask_past_erase-told.result body) ≡ true = cc in
    try-resent _ _ _ _ _ _ _ _ _ c.ask_past_erase-told.ensures.asks going c.ask_when_idle-last.ensures.asks (c.meant-2.ensures.end (drop 8 c.ask_when_idle-last.new.reply))

pub returns-clause-leaves : goal.returns-clause-leaves
returns-clause-leaves g c = meant-leaves _ true c.ask_when_idle-last.result _ _ c.meant-2.ensures.end c.meant-2.ensures.success c.ask_when_idle-last.ensures.leaves
