-- A command, one try at a time.
use Rattle.std.proofs.Common.{◌≡◌, refl, sym, subst, ℕ, suc, ◌+◌, ◌<◌, Bool, false, ◌||◌, List, [], ◌++◌, append-nil, append_assoc}
use Rattle.ec_model.specs.declared.event.Entry.{Entry}
use Rattle.ec_model.specs.Packet.{RequestView}
use Rattle.ec_model.specs.HostCalls.{HostView}
use Rattle.ec_model.specs.Asks.{Setting}
use Rattle.ec_model.specs.Tries.{Said, said_last, Final, Again, TriesOnce, TriesUpTo}
use Rattle.ec_wire.specs.Calls.{WireView, Grows}
use Rattle.ec_wire.proofs.Growth.{grows-then}
use Rattle.host_transport.specs.Asking.{host_view, setting_of}
use Rattle.host_transport.specs.Trying.{TriesOnceOn, TriesOn, SaidLeaves}
use Rattle.host_transport.specs.declared.ending.Said.{Said as SaidOf}
use Rattle.host_transport.specs.declared.ending.Said.TheVariants.{Ok as OkSaid, Status as StatusSaid, NoPower as OffSaid, Upset as UpsetSaid, Short as ShortSaid}
use Rattle.host_transport.proofs.WireParts.{view-after, part-at}

-- a command that ended for want of power: the controller is off
pub said-off : (floor : ℕ) (said : SaidOf) (view : WireView) → SaidLeaves floor said view → said ≡ OffSaid → view.on ≡ false
said-off floor OkSaid view leaves is = absurd (cc)
said-off floor (StatusSaid status) view leaves is = absurd (cc)
said-off floor OffSaid view leaves is = leaves
said-off floor UpsetSaid view leaves is = absurd (cc)
said-off floor ShortSaid view leaves is = absurd (cc)

-- a command that ended for want of room: there is too little
pub said-short : (floor : ℕ) (said : SaidOf) (view : WireView) → SaidLeaves floor said view → said ≡ ShortSaid → view.spare < floor + 1500
said-short floor OkSaid view leaves is = absurd (cc)
said-short floor (StatusSaid status) view leaves is = absurd (cc)
said-short floor OffSaid view leaves is = absurd (cc)
said-short floor UpsetSaid view leaves is = absurd (cc)
said-short floor ShortSaid view leaves is = leaves

-- a command stands where it goes on: what is tried from there, so often at most, ends the whole command
abbrev pub GoesOn : ℕ → ℕ → Bool → Setting → RequestView → ℕ → HostView → HostView → List Entry → Type 0
GoesOn total left three setting request want start view added = (more : List Entry) (said : Said) → TriesUpTo left three setting request want view more said → TriesUpTo total false setting request want start (added ++ more) said

-- the tries that are left, by another spelling of their number
goes-as : (total left more : ℕ) (three : Bool) (setting : Setting) (request : RequestView) (want : ℕ) (start view : HostView) (added : List Entry) → more ≡ left → GoesOn total more three setting request want start view added → GoesOn total left three setting request want start view added
goes-as total left more three setting request want start view added same goes = subst (λ (n : ℕ). GoesOn total n three setting request want start view added) same goes

-- one more try
pub tries-go : (total left more : ℕ) (three another : Bool) (floor : ℕ) (request : RequestView) (want : ℕ) (added : List Entry) (old middle new : WireView) → more ≡ suc left → Grows added old middle → GoesOn total more three (setting_of floor old) request want (host_view old) (host_view middle) added →
    (try : TriesOnceOn floor request want (Again another) middle new) → GoesOn total left (three || another) (setting_of floor old) request want (host_view old) (host_view new) (added ++ try.added)
tries-go total left more three another floor request want added old middle new one grows goes try rest said tries =
    let on = goes-as total (suc left) more three (setting_of floor old) request want (host_view old) (host_view middle) added one goes in
    let behind = subst (λ (view : HostView). TriesUpTo left (three || another) (setting_of floor old) request want view rest said) (view-after try.added middle new try.grows) tries in
    let here = part-at (λ setting view entries. TriesOnce setting request want view entries (Again another)) floor added old middle new grows try in
    let whole : TriesUpTo (suc left) three (setting_of floor old) request want (host_view middle) (try.added ++ rest) said = (try.added, rest, Again another, refl, here, behind) in
    subst (λ (entries : List Entry). TriesUpTo total false (setting_of floor old) request want (host_view old) entries said) (sym (append_assoc added try.added rest)) (on (try.added ++ rest) said whole)

-- the last try
pub tries-end : (left more : ℕ) (three : Bool) (floor : ℕ) (request : RequestView) (want : ℕ) (said : Said) (added : List Entry) (old middle new : WireView) → more ≡ suc left → Grows added old middle → GoesOn 3 more three (setting_of floor old) request want (host_view old) (host_view middle) added →
    TriesOnceOn floor request want (Final said) middle new → TriesOn floor request want said old new
tries-end left more three floor request want said added old middle new one grows goes try =
    let on = goes-as 3 (suc left) more three (setting_of floor old) request want (host_view old) (host_view middle) added one goes in
    let here = part-at (λ setting view entries. TriesOnce setting request want view entries (Final said)) floor added old middle new grows try in
    let whole : TriesUpTo (suc left) three (setting_of floor old) request want (host_view middle) try.added said = (try.added, [], Final said, sym (append-nil try.added), here, (refl, refl)) in
    record { added = added ++ try.added; grows = grows-then added try.added old middle new grows try.grows; part = on try.added said whole }

-- no try is left
pub tries-out : (more : ℕ) (three : Bool) (floor : ℕ) (request : RequestView) (want : ℕ) (said : Said) (added : List Entry) (old new : WireView) → more ≡ 0 → Grows added old new → GoesOn 3 more three (setting_of floor old) request want (host_view old) (host_view new) added → said ≡ said_last three →
    TriesOn floor request want said old new
tries-out more three floor request want said added old new none grows goes last =
    let on = goes-as 3 0 more three (setting_of floor old) request want (host_view old) (host_view new) added none goes in
    let whole : TriesUpTo 0 three (setting_of floor old) request want (host_view new) [] said = (refl, last) in
    record { added = added; grows = grows; part = subst (λ (entries : List Entry). TriesUpTo 3 false (setting_of floor old) request want (host_view old) entries said) (append-nil added) (on [] said whole) }
