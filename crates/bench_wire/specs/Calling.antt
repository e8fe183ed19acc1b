-- One call of the host's, behind the events that are due.
use Rattle.std.specs.Prelude.{ℕ, if◌then◌else◌, Option, None, unwrap_or, ⊤}
use Rattle.ec_model.specs.declared.event.Event.{Event}
use Rattle.ec_model.specs.declared.event.Event.TheVariants.{Access as AccessEvent, Tick}
use Rattle.ec_model.specs.HostCalls.{with_byte}
use Rattle.ec_model.specs.Upset.{access_byte}
use Rattle.ec_model.specs.Played.{brings_byte}
use Rattle.ec_wire.specs.Calls.{WireView, AccessAdds, WaitAdds}

-- an event as it arrives: a changed byte takes the place of one that is sent
abbrev pub arriving : Event → Option ℕ → Event
arriving (AccessEvent access) changed =
    AccessEvent (if brings_byte access then with_byte access (unwrap_or changed (access_byte access)) else access)
arriving other changed = other

-- what is seen of an event in place of the answer: a changed byte, but where it took the place of the byte that was sent
abbrev pub seen_instead : Event → Option ℕ → Option ℕ
seen_instead (AccessEvent access) changed = if brings_byte access then None else changed
seen_instead other changed = None

-- what an event of the host's adds, of which this byte was seen; an event of the world is none of them
abbrev pub CallAdds : Event → ℕ → WireView → WireView → Type 0
CallAdds (AccessEvent access) seen old new = AccessAdds access seen old new
CallAdds Tick seen old new = WaitAdds old new
CallAdds other seen old new = ⊤
