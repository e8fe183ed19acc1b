-- One command of the host, tried again where the bus or a pending erase came between.
use Rattle.std.specs.Prelude.{◌≡◌, ℕ, zero, suc, Bool, false, ◌&&◌, ◌||◌, ◌==◌, if◌then◌else◌, List, [], ◌∷◌, ◌++◌, MatchBool}
use Rattle.std.specs.List.{list_any}
use Rattle.ec_model.specs.declared.event.Entry.{Entry}
use Rattle.ec_model.specs.Packet.{RequestView}
use Rattle.ec_model.specs.HostCalls.{HostView, view_after}
use Rattle.ec_model.specs.Asks.{Setting, Got, NoPower, Short, NoReply, Status, got, Asks, has_status}
use Rattle.ec_model.specs.Polls.{AsksWhenIdle}

-- RESEND_RESPONSE
abbrev pub resend_request : RequestView
resend_request = record { command = 0x00DB; version = 0; body = [] }

-- more is done behind an ask that ended with this status, and nothing behind any other
abbrev pub OnStatus : ℕ → Got → Type 0 → List Entry → Got → Type 0
OnStatus status got more rest end = MatchBool (has_status status got) more ((rest ≡ []) × (end ≡ got))

-- a request, asked once more where it was told that an erase is pending
pub record AsksPastErase (setting : Setting) (request : RequestView) (want : ℕ) (view : HostView) (entries : List Entry) (end : Got) : Type 0 where
  pub first : List Entry
  pub rest : List Entry
  pub told : Got
  pub parts : entries ≡ first ++ rest
  pub asked : Asks setting request want view first told
  pub again : OnStatus 16 told (AsksWhenIdle setting request want (view_after first view) rest end) rest end

-- whether a status leaves open if the request was carried out
abbrev pub is_unclean : ℕ → Bool
is_unclean status = list_any (λ open_status. status == open_status) (3 ∷ 7 ∷ 8 ∷ 12 ∷ 13 ∷ 16 ∷ [])

-- the answer of a command
pub data Said : Type 0 where
  Answered : ℕ → List ℕ → Said
  SaidNoPower : Said
  SaidUpset : Said
  SaidShort : Said

-- what a try means for its command: the answer, or that it is to be tried again, after a status 3 or not
pub data TryEnd : Type 0 where
  Final : Said → TryEnd
  Again : Bool → TryEnd

-- what a try means. The saved status that is asked for may be that there is none, which says nothing
abbrev pub try_end : Bool → Got → TryEnd
try_end resent NoPower = Final SaidNoPower
try_end resent Short = Final SaidShort
try_end resent NoReply = Again false
try_end resent (Status status body) =
    if is_unclean status || (resent && (status == 9)) then Again (status == 3) else Final (Answered status body)

-- what is said when no try is left
abbrev pub said_last : Bool → Said
said_last three = if three then Answered 3 [] else SaidUpset

-- the tries go on behind one that says nothing, and end with any other
abbrev pub TryLeads : TryEnd → (Bool → Type 0) → List Entry → Said → Type 0
TryLeads (Final reached) more rest said = (rest ≡ []) × (said ≡ reached)
TryLeads (Again three) more rest said = more three

-- one try: a request that goes on in the background is asked for its saved status
pub record TriesOnce (setting : Setting) (request : RequestView) (want : ℕ) (view : HostView) (entries : List Entry) (end : TryEnd) : Type 0 where
  pub first : List Entry
  pub rest : List Entry
  pub told : Got
  pub last : Got
  pub parts : entries ≡ first ++ rest
  pub asked : AsksPastErase setting request want view first told
  pub resent : OnStatus 8 told (AsksWhenIdle setting resend_request 0 (view_after first view) rest last) rest last
  pub end_is : end ≡ try_end (has_status 8 told) last

-- at most so many tries, where one before may have ended in status 3
abbrev pub TriesUpTo : ℕ → Bool → Setting → RequestView → ℕ → HostView → List Entry → Said → Type 0
TriesUpTo zero three setting request want view entries said = (entries ≡ []) × (said ≡ said_last three)
TriesUpTo (suc tries) three setting request want view entries said =
    (first rest : List Entry) × (end : TryEnd) × (entries ≡ first ++ rest) × TriesOnce setting request want view first end
    × TryLeads end (λ another. TriesUpTo tries (three || another) setting request want (view_after first view) rest said) rest said

-- a whole command: at most three tries
abbrev pub Tries : Setting → RequestView → ℕ → HostView → List Entry → Said → Type 0
Tries setting request want view entries said = TriesUpTo 3 false setting request want view entries said
