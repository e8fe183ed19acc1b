-- One command on a wire, and what its reply gives.
use Rattle.std.proofs.Common.{◌≡◌, ◌∙◌, refl, ap, subst, ℕ, ◌==◌, if◌then◌else◌, List, drop, Result, Err}
use Rattle.ec_model.specs.Packet.{RequestView}
use Rattle.ec_model.specs.Tries.{Said, Tries}
use Rattle.ec_packet.specs.Read.{request_of}
use Rattle.ec_wire.specs.Calls.{WireView}
use Rattle.command_laws.specs.Restarting.{RestartEnd, Restarts}
use Rattle.host_transport.specs.Restarting.{RestartsOn}
use Rattle.host_transport.specs.Trying.{said_of, TriesOn}
use Rattle.host_transport.specs.declared.ending.Said.{Said as SaidOf}
use Rattle.host_transport.specs.declared.ending.Said.TheVariants.{Ok, Status, NoPower, Upset, Short}
use Rattle.host_transport.proofs.WireParts.{part-as}
use Rattle.sync_rules.specs.declared.ending.Stop.{Stop}
use Rattle.sync_rules.specs.declared.ending.Stop.TheVariants.{Lost}
use Rattle.sync_rules.specs.Parts.{Commands, on_success, Colds, cold_told}
use Rattle.sync_rules.specs.Replies.{confirmed}
use Rattle.sync_engine.specs.OnWire.{Does}

-- a command, by what was said
pub commands : {A : Type 0} → (request : RequestView) (want : ℕ) (meant : Said → Result A Stop) (said : Said) (floor : ℕ) (told : Result A Stop) (old new : WireView) →
    TriesOn floor request want said old new → told ≡ meant said → Does (λ setting. Commands setting request want meant) floor told old new
commands request want meant said floor told old new tries is =
    part-as (λ setting view added. Tries setting request want view added said) (λ setting view added. Commands setting request want meant view added told) floor old new tries
    (λ added asked. record { said = said; asked = asked; told_is = is })

-- what a success gives, by what is made of its body
success-same : {A : Type 0} → (given : Result A Stop) (meant : List ℕ → Result A Stop) (said : SaidOf) (body : List ℕ) → given ≡ meant body →
    on_success (λ any. given) (said_of said body) ≡ on_success meant (said_of said body)
success-same given meant Ok body is = is
success-same given meant (Status status) body is = ap (λ (told : Result _ Stop). if status == 0 then told else Err Lost) is
success-same given meant NoPower body is = refl
success-same given meant Upset body is = refl
success-same given meant Short body is = refl

-- a command that has to succeed, by what is made of its reply's body
pub learns : {A : Type 0} → (number version : ℕ) (sent spelled body : List ℕ) (want floor : ℕ) (meant : List ℕ → Result A Stop) (said : SaidOf) (reply : List ℕ) (told given : Result A Stop) (old new : WireView) →
    sent ≡ spelled → TriesOn floor (request_of number version sent) want (said_of said (drop 8 reply)) old new →
    body ≡ drop 8 reply → given ≡ meant body → told ≡ on_success (λ any. given) (said_of said (drop 8 reply)) →
    Does (λ setting. Commands setting (request_of number version spelled) want (on_success meant)) floor told old new
learns number version sent spelled body want floor meant said reply told given old new same tries shown is gave =
    commands (request_of number version spelled) want (on_success meant) (said_of said (drop 8 reply)) floor told old new
    (subst (λ (bytes : List ℕ). TriesOn floor (request_of number version bytes) want (said_of said (drop 8 reply)) old new) same tries)
    (gave ∙ success-same given meant said (drop 8 reply) (is ∙ ap meant shown))

-- a command that has to succeed, and whose reply says no more
pub confirms : (number version : ℕ) (sent spelled : List ℕ) (want floor : ℕ) (said : SaidOf) (body : List ℕ) (told : Result (Unit {0}) Stop) (old new : WireView) →
    sent ≡ spelled → TriesOn floor (request_of number version sent) want (said_of said body) old new → told ≡ on_success confirmed (said_of said body) →
    Does (λ setting. Commands setting (request_of number version spelled) want (on_success confirmed)) floor told old new
confirms number version sent spelled want floor said body told old new same tries is =
    commands (request_of number version spelled) want (on_success confirmed) (said_of said body) floor told old new
    (subst (λ (bytes : List ℕ). TriesOn floor (request_of number version bytes) want (said_of said body) old new) same tries) is

-- a restart
pub colds : (end : RestartEnd) (told : Result (Unit {0}) Stop) (floor : ℕ) (old new : WireView) →
    RestartsOn floor end old new → told ≡ cold_told end → Does Colds floor told old new
colds end told floor old new restarts is =
    part-as (λ setting view added. Restarts setting view added end) (λ setting view added. Colds setting view added told) floor old new restarts
    (λ added restarted. record { end = end; restarted = restarted; told_is = is })
