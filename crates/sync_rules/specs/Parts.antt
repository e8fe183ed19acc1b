-- A sync is told as a chain of parts. Each adds entries, and gives a value, or says why its round stops.
use Rattle.std.specs.Prelude.{◌≡◌, ℕ, ◌+◌, Bool, true, false, ◌==◌, nat_lt, if◌then◌else◌, List, [], ◌++◌, replicate, IsTrue, Result, Ok, Err}
use Rattle.ec_model.specs.declared.event.Entry.{Entry}
use Rattle.ec_model.specs.Asks.{Setting, send_room}
use Rattle.ec_model.specs.HostCalls.{HostView, Waited, calls_of, are_calls, view_after}
use Rattle.ec_model.specs.Packet.{RequestView}
use Rattle.ec_model.specs.Send.{Quiet}
use Rattle.ec_model.specs.Tries.{Said, Answered, SaidNoPower, SaidUpset, SaidShort, Tries}
use Rattle.command_laws.specs.Restarting.{RestartEnd, Sent, NoPower as EndNoPower, Upset, Short, Restarts}
use Rattle.sync_rules.specs.declared.ending.Stop.{Stop}
use Rattle.sync_rules.specs.declared.ending.Stop.TheVariants.{Lost, NoPower}

-- a part, by what the host sees before it, the entries that it adds, and what it gives or why the round stops
abbrev pub Part : Type 0 → Type 1
Part A = HostView → List Entry → Result A Stop → Type 0

-- nothing is done
abbrev pub Gives : {A : Type 0} → Result A Stop → HostView → List Entry → Result A Stop → Type 0
Gives given view entries told = (entries ≡ []) × (told ≡ given)

-- what follows a part, where the round goes on behind it
abbrev pub Leads : {A B : Type 0} → Result A Stop → (A → HostView → List Entry → Result B Stop → Type 0) → HostView → List Entry → Result B Stop → Type 0
Leads (Ok value) next view entries told = next value view entries told
Leads (Err stop) next view entries told = Gives (Err stop) view entries told

-- one part, and another behind it
pub record Then {A B : Type 0} (first : HostView → List Entry → Result A Stop → Type 0) (next : A → HostView → List Entry → Result B Stop → Type 0) (view : HostView) (entries : List Entry) (told : Result B Stop) : Type 0 where
  pub opening : List Entry
  pub rest : List Entry
  pub reached : Result A Stop
  pub parts : entries ≡ opening ++ rest
  pub began : first view opening reached
  pub leads : Leads reached next (view_after opening view) rest told

-- one part or another
abbrev pub When : {A : Type 0} → Bool → (HostView → List Entry → Result A Stop → Type 0) → (HostView → List Entry → Result A Stop → Type 0) → HostView → List Entry → Result A Stop → Type 0
When true first second view entries told = first view entries told
When false first second view entries told = second view entries told

-- a part that there has to be room for, above the floor
abbrev pub WhereRoom : {A : Type 0} → Setting → (HostView → List Entry → Result A Stop → Type 0) → HostView → List Entry → Result A Stop → Type 0
WhereRoom setting part view entries told = When (nat_lt view.spare (setting.floor + send_room)) (Gives (Err Lost)) part view entries told

-- the bus is brought to rest
abbrev pub Quiets : Setting → HostView → List Entry → Result (Unit {0}) Stop → Type 0
Quiets setting view entries told = Quiet setting.bus entries × (told ≡ Ok tt)

abbrev pub Rests : Setting → HostView → List Entry → Result (Unit {0}) Stop → Type 0
Rests setting = WhereRoom setting (Quiets setting)

-- so many waits
pub record Pauses (count : ℕ) (view : HostView) (entries : List Entry) (told : Result (Unit {0}) Stop) : Type 0 where
  pub calls : IsTrue (are_calls entries)
  pub waited : calls_of entries ≡ replicate count Waited
  pub told_is : told ≡ Ok tt

abbrev pub Waits : ℕ → Setting → HostView → List Entry → Result (Unit {0}) Stop → Type 0
Waits count setting = WhereRoom setting (Pauses count)

-- a command, and what is made of what was said
pub record Commands {A : Type 0} (setting : Setting) (request : RequestView) (want : ℕ) (meant : Said → Result A Stop) (view : HostView) (entries : List Entry) (told : Result A Stop) : Type 0 where
  pub said : Said
  pub asked : Tries setting request want view entries said
  pub told_is : told ≡ meant said

-- a command that has to succeed: what its reply's body gives
abbrev pub on_success : {A : Type 0} → (List ℕ → Result A Stop) → Said → Result A Stop
on_success told (Answered status body) = if status == 0 then told body else Err Lost
on_success told SaidNoPower = Err NoPower
on_success told SaidUpset = Err Lost
on_success told SaidShort = Err Lost

-- what is made of a restart
abbrev pub cold_told : RestartEnd → Result (Unit {0}) Stop
cold_told Sent = Ok tt
cold_told EndNoPower = Err NoPower
cold_told Upset = Err Lost
cold_told Short = Err Lost

-- a restart of the controller
pub record Colds (setting : Setting) (view : HostView) (entries : List Entry) (told : Result (Unit {0}) Stop) : Type 0 where
  pub end : RestartEnd
  pub restarted : Restarts setting view entries end
  pub told_is : told ≡ cold_told end
