-- What a hash stands for, behind an operation elsewhere and behind a tick.
use Rattle.std.proofs.Common.{◌≡◌, refl, sym, ap, ◌∙◌, subst, ℕ, zero, suc, ◌+◌, ◌-◌, ◌≤◌, ◌⊎◌, inl, inr, Bool, true, false, nat_le, min, List, [], ◌∷◌, ◌++◌, take, drop, slice_range, arith, append_assoc, Option, Some, None}
use Rattle.std.proofs.lemmas.Bool.Decides.{leb_tells, nat_tests}
use Rattle.std.proofs.lemmas.List.{drop-drop}
use Rattle.std.specs.Prelude.{IfSome}
use Rattle.flash_dev.specs.Flash.{Torn}
use Rattle.sha2.specs.Sha256.{sha256}
use Rattle.sha2.specs.Hashers.{Holds256}
use Rattle.ec_model.specs.declared.live.HashView.{HashView}
use Rattle.ec_model.specs.declared.live.HashView.TheVariants.{Idle, Busy, Done}
use Rattle.ec_model.specs.Hash.{is_hash_over}
use Rattle.ec_model.specs.Ranges.{Range, overlaps, part}
use Rattle.ec_model.specs.Table.{ticks_of}
use Rattle.ec_model.proofs.StoredLemmas.{take-drop-take}
use Rattle.vboot_hash.specs.Hashing.{HashState, IsHashing, covered, StandsBy, Stands, IsTicked, IsTickedFrom}

-- ranges that do not overlap: one ends where the other begins, or before
beside : (first second : Range) → overlaps first second ≡ false → (second.at + second.size ≤ first.at) ⊎ (first.at + first.size ≤ second.at)
beside first second apart = grind (arith, leb_tells)

-- a part of what is behind a place
drop-part : (place at size : ℕ) (bytes : List ℕ) → place ≤ at → take size (drop (at - place) (drop place bytes)) ≡ take size (drop at bytes)
drop-part place at size bytes behind =
    let same : place + (at - place) ≡ at = omega arith in
    ap (take size) (drop-drop (at - place) place bytes ∙ ap (λ (n : ℕ). drop n bytes) same)

-- the bytes of a range, without its end
part-take : (at size : ℕ) (bytes : List ℕ) → part (record { at = at; size = size }) bytes ≡ take size (drop at bytes)
part-take at size bytes = let same : at + size - at ≡ size = omega arith in ap (λ (n : ℕ). take n (drop at bytes)) same

-- what lies beside a range that an operation touched is as it was
part-beside : (torn_at torn_size at size : ℕ) (before after : List ℕ) → (at + size ≤ torn_at) ⊎ (torn_at + torn_size ≤ at) → Torn torn_at torn_size before after
    → part (record { at = at; size = size }) after ≡ part (record { at = at; size = size }) before
part-beside torn_at torn_size at size before after apart differ = part-take at size after ∙ by apart ∙ sym (part-take at size before) where
  by : (at + size ≤ torn_at) ⊎ (torn_at + torn_size ≤ at) → take size (drop at after) ≡ take size (drop at before)
  by (inl below) =
      sym (take-drop-take size at torn_at after below) ∙ ap (λ (bytes : List ℕ). take size (drop at bytes)) differ.before ∙ take-drop-take size at torn_at before below
  by (inr behind) =
      sym (drop-part (torn_at + torn_size) at size after behind) ∙ ap (λ (bytes : List ℕ). take size (drop (at - (torn_at + torn_size)) bytes)) differ.after
      ∙ drop-part (torn_at + torn_size) at size before behind

-- a range within one that lies beside another lies beside it, too
within : (torn_at torn_size at size less : ℕ) → less ≤ size → (at + size ≤ torn_at) ⊎ (torn_at + torn_size ≤ at) → (at + less ≤ torn_at) ⊎ (torn_at + torn_size ≤ at)
within torn_at torn_size at size less few (inl below) = inl (omega (arith, few, below))
within torn_at torn_size at size less few (inr behind) = inr behind

-- no more was covered than there is
covered-most : (size left : ℕ) → 1 ≤ size → 1 ≤ left → covered size left ≤ size
covered-most size left some to_come = omega (arith, some, to_come)

-- a hash that an operation does not touch stands for the flash behind it
pub stands-beside : (at size : ℕ) (shown : HashView) (hash : HashState) (nonce before after : List ℕ) → is_hash_over (record { at = at; size = size }) shown ≡ false → IsHashing shown hash.nonce
    → Torn at size before after → StandsBy shown hash nonce before → StandsBy shown hash nonce after
stands-beside at size Idle hash nonce before after apart is torn stands = tt
stands-beside at size (Busy place count left) hash nonce before after apart is torn stands =
    let side = within at size place count (covered count left) (covered-most count left is.0 is.2) (beside (record { at = at; size = size }) (record { at = place; size = count }) apart) in
    (stands.0, subst (λ (bytes : List ℕ). Holds256 hash.running (nonce ++ bytes)) (sym (part-beside at size place (covered count left) before after side torn)) stands.1)
stands-beside at size (Done place count digest) hash nonce before after apart is torn stands =
    let side = beside (record { at = at; size = size }) (record { at = place; size = count }) apart in
    stands ∙ ap (λ (bytes : List ℕ). sha256 (nonce ++ bytes)) (sym (part-beside at size place count before after side torn))

-- none are the first of none
take-nil : (n : ℕ) → ◌≡◌ {A = List ℕ} (take n []) []
take-nil zero = refl
take-nil (suc n) = refl

-- the first bytes, and then more
take-more : (first more : ℕ) (bytes : List ℕ) → take first bytes ++ take more (drop first bytes) ≡ take (first + more) bytes
take-more zero more bytes = ap (λ (n : ℕ). take n bytes) (zero-more more) where
  zero-more : (n : ℕ) → n ≡ 0 + n
  zero-more n = omega arith
take-more (suc first) more [] = take-nil more ∙ sym (take-nil (suc first + more))
take-more (suc first) more (x ∷ bytes) =
    let next : suc (first + more) ≡ suc first + more = omega arith in
    ap (λ (rest : List ℕ). x ∷ rest) (take-more first more bytes) ∙ ap (λ (n : ℕ). take n (x ∷ bytes)) next

-- the bytes that were covered, and the next ones
part-more : (at first more : ℕ) (bytes : List ℕ) → part (record { at = at; size = first }) bytes ++ slice_range bytes (at + first) (at + first + more) ≡ part (record { at = at; size = first + more }) bytes
part-more at first more bytes =
    let count : at + first + more - (at + first) ≡ more = omega arith in
    ap (λ (front : List ℕ). front ++ slice_range bytes (at + first) (at + first + more)) (part-take at first bytes)
    ∙ ap (λ (n : ℕ). take first (drop at bytes) ++ take n (drop (at + first) bytes)) count
    ∙ ap (λ (rest : List ℕ). take first (drop at bytes) ++ take more rest) (sym (drop-drop first at bytes))
    ∙ take-more first more (drop at bytes) ∙ sym (part-take at (first + more) bytes)

-- one tick: the message that the running digest holds, and the hash that it leaves
pub stands-ticked : (at size left more : ℕ) (old middle new : HashState) (nonce flash bytes : List ℕ) → 1 ≤ size → 1 ≤ left → left ≤ ticks_of size → more ≡ min 1024 (size - covered size left)
    → bytes ≡ slice_range flash (at + covered size left) (at + covered size left + more)
    → middle.nonce ≡ old.nonce → ((message : List ℕ) → Holds256 old.running message → Holds256 middle.running (message ++ bytes))
    → IsTicked at size left middle new
    → ((message : List ℕ) → Holds256 middle.running message → nat_le left 1 ≡ true → new.shown ≡ Done at size (sha256 message))
    → (nat_le left 1 ≡ false → new.running ≡ middle.running)
    → StandsBy (Busy at size left) old nonce flash → Stands new nonce flash
stands-ticked at size left more old middle new nonce flash bytes some to_come few more_is bytes_are same_nonce updated ticked done same stands = by (nat_le left 1) refl where
  message : List ℕ
  message = nonce ++ part (record { at = at; size = covered size left }) flash

  now : Holds256 middle.running (message ++ bytes)
  now = updated message stands.1

  joined : (total : ℕ) → covered size left + more ≡ total → message ++ bytes ≡ nonce ++ part (record { at = at; size = total }) flash
  joined total sum =
      ap (λ (rest : List ℕ). message ++ rest) bytes_are
      ∙ append_assoc nonce (part (record { at = at; size = covered size left }) flash) (slice_range flash (at + covered size left) (at + covered size left + more))
      ∙ ap (λ (rest : List ℕ). nonce ++ rest) (part-more at (covered size left) more flash)
      ∙ ap (λ (n : ℕ). nonce ++ part (record { at = at; size = n }) flash) sum

  by : (last : Bool) → nat_le left 1 ≡ last → Stands new nonce flash
  by true is =
      let whole : covered size left + more ≡ size = grind (arith, nat_tests, is, more_is, some, to_come, few) in
      subst (λ (shown : HashView). StandsBy shown new nonce flash) (sym (done (message ++ bytes) now is)) (ap sha256 (joined size whole))
  by false is =
      let next : covered size left + more ≡ covered size (left - 1) = grind (arith, nat_tests, is, more_is, some, to_come, few) in
      let behind = ticked.more is in
      subst (λ (shown : HashView). StandsBy shown new nonce flash) (sym behind.0) (
        behind.1 ∙ same_nonce ∙ stands.0,
        rw (same is) (subst (λ (m : List ℕ). Holds256 middle.running m) (joined (covered size (left - 1)) next) now),
      )

-- the same, of what a tick read where the flash tells its bytes
pub tick-stands : (told : Option (List ℕ)) (at size left done count : ℕ) (old middle new : HashState) (bytes : List ℕ) → old.shown ≡ Busy at size left → IsHashing old.shown old.nonce → done ≡ covered size left → count ≡ min 1024 (size - done)
    → IfSome told (λ flash. bytes ≡ slice_range flash (at + done) (at + done + count)) → middle.shown ≡ old.shown → middle.nonce ≡ old.nonce
    → ((message : List ℕ) → Holds256 old.running message → Holds256 middle.running (message ++ bytes)) → IsTickedFrom middle.shown middle new
    → ((message : List ℕ) → Holds256 middle.running message → nat_le left 1 ≡ true → new.shown ≡ Done at size (sha256 message))
    → (nat_le left 1 ≡ false → new.running ≡ middle.running) → (nonce : List ℕ) → IfSome told (λ flash. Stands old nonce flash → Stands new nonce flash)
tick-stands None at size left done count old middle new bytes busy is done_is count_is read shown same updated ticked finished kept nonce = tt
tick-stands (Some flash) at size left done count old middle new bytes busy is done_is count_is read shown same updated ticked finished kept nonce = λ stands.
    let hashing = subst (λ (h : HashView). IsHashing h old.nonce) busy is in
    stands-ticked at size left count old middle new nonce flash bytes hashing.0 hashing.2 hashing.3 (subst (λ (n : ℕ). count ≡ min 1024 (size - n)) done_is count_is)
    (subst (λ (n : ℕ). bytes ≡ slice_range flash (at + n) (at + n + count)) done_is read) same updated
    (subst (λ (h : HashView). IsTickedFrom h middle new) (shown ∙ busy) ticked) finished kept
    (subst (λ (h : HashView). StandsBy h old nonce flash) busy stands)
