-- Each send on LPC ends with a wait that only reads follow.
use Rattle.std.proofs.Common.{◌≡◌, refl, sym, ap, ◌∙◌, ℕ, ◌+◌, Bool, true, false, ◌||◌, if◌then◌else◌, List, [], ◌∷◌, ◌++◌, append-nil, append_assoc, Some, None}
use Rattle.std.specs.List.{list_all}
use Rattle.ec_model.specs.declared.event.Access.TheVariants.{PortIn}
use Rattle.ec_model.specs.Bus.{is_busy}
use Rattle.ec_model.specs.HostCalls.{HostCall, Did, Waited}
use Rattle.ec_model.specs.Heard.{Heard, poll_end, waited_reads, spaced_reads, port_reads}
use Rattle.ec_model.specs.SendLpc.{status_in, LpcSend, LpcWasBlocked, LpcWasUnserved, LpcWasServed}
use Rattle.exchange_laws.specs.Resting.{is_port_read, ends_resting}

-- the second of two tests holds
or-right : (a b : Bool) → b ≡ true → (a || b) ≡ true
or-right true b same = refl
or-right false b same = same

-- the first of two tests holds
or-left : (a b : Bool) → a ≡ true → (a || b) ≡ true
or-left true b same = refl
or-left false b same = cc

-- calls behind others
ends-append : (calls more : List HostCall) → ends_resting more ≡ true → ends_resting (calls ++ more) ≡ true
ends-append [] more ends = ends
ends-append (Did access byte ∷ calls) more ends = ends-append calls more ends
ends-append (Waited ∷ calls) more ends = or-left (ends_resting (calls ++ more)) (list_all is_port_read (calls ++ more)) (ends-append calls more ends)

-- reads of ports in a row
reads-all : (port : ℕ) (bytes : List ℕ) → list_all is_port_read (port_reads port bytes) ≡ true
reads-all port [] = refl
reads-all port (byte ∷ bytes) = reads-all (port + 1) bytes

-- a poll that only reads follow
waited-ends : (next : ℕ) (bytes : List ℕ) (tail : List HostCall) → list_all is_port_read tail ≡ true → ends_resting (waited_reads status_in (next ∷ bytes) ++ tail) ≡ true
waited-ends next [] tail all = or-right (ends_resting (Did status_in next ∷ tail)) (list_all is_port_read (Did status_in next ∷ tail)) all
waited-ends next (other ∷ bytes) tail all = or-left (ends_resting (Did status_in next ∷ (waited_reads status_in (other ∷ bytes) ++ tail))) _ (waited-ends other bytes tail all)

-- the same of a poll as it ended
polled-ends : (statuses : List ℕ) (ready : Bool) (tail : List HostCall) → poll_end is_busy 4 statuses ≡ Some ready → list_all is_port_read tail ≡ true → ends_resting (waited_reads status_in statuses ++ tail) ≡ true
polled-ends [] ready tail polled all = absurd (cc)
polled-ends (next ∷ bytes) ready tail polled all = waited-ends next bytes tail all

-- a poll of a bus that stays busy
blocked-ends : (statuses : List ℕ) → poll_end is_busy 5 statuses ≡ Some false → ends_resting (spaced_reads status_in statuses) ≡ true
blocked-ends [] polled = absurd (cc)
blocked-ends (byte ∷ []) polled = absurd (one (is_busy byte) polled) where
  one : (test : Bool) → (if test then None else Some true) ≡ Some false → ⊥
  one true same = cc
  one false same = cc
blocked-ends (byte ∷ next ∷ bytes) polled = ap (λ (calls : List HostCall). ends_resting calls) (sym (append-nil (waited_reads status_in (next ∷ bytes)))) ∙ waited-ends next bytes [] refl

-- a send, however it ended
pub lpc-ends : (packet : List ℕ) (calls : List HostCall) (heard : Heard) → LpcSend packet calls heard → ends_resting calls ≡ true
lpc-ends packet calls heard (LpcWasBlocked blocked silent) = ap (λ (xs : List HostCall). ends_resting xs) blocked.made ∙ blocked-ends blocked.statuses blocked.busy
lpc-ends packet calls heard (LpcWasUnserved unserved silent) =
    ap (λ (xs : List HostCall). ends_resting xs) (unserved.made ∙ ap (λ (xs : List HostCall). unserved.first ++ xs) (sym (append-nil (waited_reads status_in unserved.statuses))))
    ∙ ends-append unserved.first (waited_reads status_in unserved.statuses ++ []) (polled-ends unserved.statuses false [] unserved.busy refl)
lpc-ends packet calls heard (LpcWasServed served) =
    let tail = Did (PortIn 0x200) served.outcome ∷ port_reads 0x800 served.bytes in
    ap (λ (xs : List HostCall). ends_resting xs) (served.made ∙ append_assoc served.first (waited_reads status_in served.statuses) tail)
    ∙ ends-append served.first (waited_reads status_in served.statuses ++ tail) (polled-ends served.statuses true tail served.idle (reads-all 0x800 served.bytes))
