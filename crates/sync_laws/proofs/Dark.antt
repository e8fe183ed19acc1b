-- A part that stops for want of power leaves the controller off.
use Rattle.std.proofs.Common.{◌≡◌, refl, sym, ap, ◌∙◌, ℕ, Bool, true, false, nat_lt, ◌+◌, ◌==◌, if◌then◌else◌, List, ◌++◌, append-nil, Result, Ok, Err}
use Rattle.ec_model.specs.declared.event.Entry.{Entry}
use Rattle.ec_model.specs.Asks.{Setting}
use Rattle.ec_model.specs.HostCalls.{HostView, on_after, view_after}
use Rattle.ec_model.specs.Packet.{RequestView}
use Rattle.ec_model.specs.Tries.{Said, Answered, SaidNoPower, SaidUpset, SaidShort}
use Rattle.ec_wire.proofs.Appends.{on_after-append}
use Rattle.command_laws.specs.Restarting.{RestartEnd, Sent, NoPower as EndNoPower, Upset, Short}
use Rattle.command_laws.proofs.PowerLost.{tries-dark, restarts-dark}
use Rattle.sync_rules.specs.declared.ending.Stop.{Stop}
use Rattle.sync_rules.specs.declared.ending.Stop.TheVariants.{Lost, NoPower}
use Rattle.sync_rules.specs.Parts.{Gives, Leads, Then, When, WhereRoom, Quiets, Rests, Pauses, Waits, Commands, on_success, Colds, cold_told}

-- where it stops for want of power, the controller is off behind it
abbrev pub LeavesDark : {A : Type 0} → (HostView → List Entry → Result A Stop → Type 0) → Type 0
LeavesDark {A} part = (view : HostView) (entries : List Entry) (told : Result A Stop) → part view entries told → told ≡ Err NoPower → on_after entries view.on ≡ false

-- a stop is the same whatever would have been given
same-stop : {A B : Type 0} → (stop : Stop) → ◌≡◌ {A = Result B Stop} (Err stop) (Err NoPower) → ◌≡◌ {A = Result A Stop} (Err stop) (Err NoPower)
same-stop Lost same = absurd (cc)
same-stop NoPower same = refl
same-stop other same = absurd (cc)

pub gives-dark : {A : Type 0} → (given : Result A Stop) → ¬ (given ≡ Err NoPower) → LeavesDark (Gives given)
gives-dark given never view entries told (none, same) is = absurd (never (sym same ∙ is))

pub then-dark : {A B : Type 0} → (first : HostView → List Entry → Result A Stop → Type 0) (next : A → HostView → List Entry → Result B Stop → Type 0) →
    LeavesDark first → ((value : A) → LeavesDark (next value)) → LeavesDark (Then first next)
then-dark {A} {B} first next one two view entries told both is = by both.reached both.began both.leads
  where
    by : (reached : Result A Stop) → first view both.opening reached → Leads reached next (view_after both.opening view) both.rest told → on_after entries view.on ≡ false
    by (Ok value) began leads =
        ap (λ (e : List Entry). on_after e view.on) both.parts ∙ on_after-append both.opening both.rest view.on ∙ two value (view_after both.opening view) both.rest told leads is
    by (Err stop) began (none, same) =
        ap (λ (e : List Entry). on_after e view.on) (both.parts ∙ ap (λ (more : List Entry). both.opening ++ more) none ∙ append-nil both.opening)
        ∙ one view both.opening (Err stop) began (same-stop stop (sym same ∙ is))

pub when-dark : {A : Type 0} → (test : Bool) (first second : HostView → List Entry → Result A Stop → Type 0) → LeavesDark first → LeavesDark second → LeavesDark (When test first second)
when-dark true first second one two view entries told part is = one view entries told part is
when-dark false first second one two view entries told part is = two view entries told part is

pub room-dark : {A : Type 0} → (setting : Setting) (part : HostView → List Entry → Result A Stop → Type 0) → LeavesDark part → LeavesDark (WhereRoom setting part)
room-dark setting part one view entries told does is =
    when-dark (nat_lt view.spare (setting.floor + 1500)) (Gives (Err Lost)) part (gives-dark (Err Lost) (λ same. cc)) one view entries told does is

pub rests-dark : (setting : Setting) → LeavesDark (Rests setting)
rests-dark setting = room-dark setting (Quiets setting) (λ view entries told (quiet, same) is. absurd (let never : ◌≡◌ {A = Result (Unit {0}) Stop} (Ok tt) (Err NoPower) = sym same ∙ is in cc))

pub waits-dark : (count : ℕ) (setting : Setting) → LeavesDark (Waits count setting)
waits-dark count setting = room-dark setting (Pauses count) (λ view entries told paused is. absurd (let never : ◌≡◌ {A = Result (Unit {0}) Stop} (Ok tt) (Err NoPower) = sym paused.told_is ∙ is in cc))

pub commands-dark : {A : Type 0} → (setting : Setting) (request : RequestView) (want : ℕ) (meant : Said → Result A Stop) → ((said : Said) → meant said ≡ Err NoPower → said ≡ SaidNoPower) → LeavesDark (Commands setting request want meant)
commands-dark setting request want meant only view entries told command is =
    tries-dark setting request want view entries command.said (only command.said (sym command.told_is ∙ is)) command.asked

-- a command that has to succeed, whose body never tells that there is no power
by-test : {A : Type 0} → (test : Bool) (told : Result A Stop) → ¬ (told ≡ Err NoPower) → ¬ ((if test then told else Err Lost) ≡ Err NoPower)
by-test true told never same = never same
by-test false told never same = cc

only-power : {A : Type 0} → (told : List ℕ → Result A Stop) → ((body : List ℕ) → ¬ (told body ≡ Err NoPower)) → (said : Said) → on_success told said ≡ Err NoPower → said ≡ SaidNoPower
only-power told never (Answered status body) same = absurd (by-test (status == 0) (told body) (never body) same)
only-power told never SaidNoPower same = refl
only-power told never SaidUpset same = absurd (cc)
only-power told never SaidShort same = absurd (cc)

pub success-dark : {A : Type 0} → (setting : Setting) (request : RequestView) (want : ℕ) (told : List ℕ → Result A Stop) → ((body : List ℕ) → ¬ (told body ≡ Err NoPower)) → LeavesDark (Commands setting request want (on_success told))
success-dark setting request want told never = commands-dark setting request want (on_success told) (only-power told never)

cold-power : (end : RestartEnd) → cold_told end ≡ Err NoPower → end ≡ EndNoPower
cold-power Sent same = absurd (cc)
cold-power EndNoPower same = refl
cold-power Upset same = absurd (cc)
cold-power Short same = absurd (cc)

pub colds-dark : (setting : Setting) → LeavesDark (Colds setting)
colds-dark setting view entries told colds is = restarts-dark setting view entries colds.end (cold-power colds.end (sym colds.told_is ∙ is)) colds.restarted
