-- A cut of power that falls in an operation, by the bytes that are put at the front of its range.
use Rattle.std.proofs.Common.{◌≡◌, refl, sym, ap, ◌∙◌, subst, ℕ, ◌+◌, ◌-◌, ◌≤◌, List, [], ◌∷◌, length, take, drop, arith, inl, inr, Option, Some, None, Result, Ok, Err}
use Rattle.std.specs.Prelude.{OnOk, OnErr}
use Rattle.std.proofs.lemmas.List.{length-take, drop-drop}
use Rattle.flash_dev.specs.Flash.{overwritten, Torn}
use Rattle.flash_dev.specs.Counts.{Rose, raised_by, refused_after}
use Rattle.flash_dev.specs.Told.{Changes}
use Rattle.flash_dev.specs.Ranges.{Range}
use Rattle.flash_dev.specs.Operations.{Operation, operation_range}
use Rattle.flash_dev.specs.Cuts.{Falls, CutFalls, cut_at, cut_after}
use Rattle.flash_dev.specs.Device.{IsChange}
use Rattle.flash_dev.specs.Poking.{IsPoked}
use Rattle.flash_dev.specs.CutFlash.{CutState, cut_device}
use Rattle.flash_dev.specs.declared.hurt.Hurt.TheVariants.{Cut}
use Rattle.flash_dev.specs.declared.device.DevErr.TheVariants.{PowerLost}

-- a range that may hold any bytes, as the front of a longer one
torn-wider : (at few many : ℕ) (f g : List ℕ) → few ≤ many → Torn at few f g → Torn at many f g
torn-wider at few many f g less torn =
    let e : at + many ≡ at + few + (many - few) = omega (arith, less) in
    record {
      same_length = torn.same_length;
      before = torn.before;
      after = ap (λ (n : ℕ). drop n g) e ∙ sym (drop-drop (many - few) (at + few) g) ∙ ap (drop (many - few)) torn.after
          ∙ drop-drop (many - few) (at + few) f ∙ ap (λ (n : ℕ). drop n f) (sym e);
    }

wider-told : (at few many : ℕ) (o p : Option (List ℕ)) → few ≤ many → Changes (Torn at few) o p → Changes (Torn at many) o p
wider-told at few many None None less torn = tt
wider-told at few many None (Some g) less torn = torn
wider-told at few many (Some f) None less torn = torn
wider-told at few many (Some f) (Some g) less torn = torn-wider at few many f g less torn

-- the cut falls in an operation, whose first bytes are torn, or the flash was faulty
falls-told : {T E : Type 0} (Faulty : Type 0) (operation : Operation) (torn : List ℕ) (o p : Option (List ℕ)) (answer : Result T E)
    → OnOk answer (Changes (λ before after. after ≡ overwritten (operation_range operation).at (take (operation_range operation).size torn) before) o p)
    → OnErr answer Faulty → Changes (Torn (operation_range operation).at (operation_range operation).size) o p
    → Changes (CutFalls Faulty (Some (record { left = 1; torn = torn })) 1 Cut (operation ∷ [])) o p
falls-told Faulty operation torn None None answer put failed outside = tt
falls-told Faulty operation torn None (Some g) answer put failed outside = outside
falls-told Faulty operation torn (Some f) None answer put failed outside = outside
falls-told Faulty operation torn (Some f) (Some g) (Ok x) put failed outside =
    (omega arith, λ falls. (refl, record { stopped = operation; is_there = refl; leaves = inl put }))
falls-told Faulty operation torn (Some f) (Some g) (Err error) put failed outside =
    (omega arith, λ falls. (refl, record { stopped = operation; is_there = refl; leaves = inr failed }))

-- one cut more, which left what was armed, or could not
abbrev pub CountsCut : {T E : Type 0} → Result T E → CutState → CutState → Type 0
CountsCut (Ok x) old new = (new.clean ≡ raised_by 1 old.clean) × (new.failed ≡ old.failed)
CountsCut (Err error) old new = (new.clean ≡ old.clean) × (new.failed ≡ raised_by 1 old.failed)

cuts-rose : {T E : Type 0} (answer : Result T E) (old new : CutState) → CountsCut answer old new → old.inner.cuts ≤ new.inner.cuts
    → Rose (cut_device old).cuts (cut_device new).cuts
cuts-rose (Ok x) old new counts later = omega (arith, counts.0, counts.1, later)
cuts-rose (Err error) old new counts later = omega (arith, counts.0, counts.1, later)

cut-begun : {T E : Type 0} (answer : Result T E) (old new : CutState) → CountsCut answer old new → new.inner.begun ≡ old.inner.begun
    → (cut_device new).begun ≡ raised_by 1 (cut_device old).begun
cut-begun (Ok x) old new counts same = omega (arith, counts.0, counts.1, same)
cut-begun (Err error) old new counts same = omega (arith, counts.0, counts.1, same)

cut-refused : {T E : Type 0} (answer : Result T E) (old new : CutState) → CountsCut answer old new → new.inner.refusals ≡ refused_after answer old.inner.refusals
    → (cut_device new).refusals ≡ raised_by 1 (cut_device old).refusals
cut-refused (Ok x) old new counts same = omega (arith, counts.0, same)
cut-refused (Err error) old new counts same = omega (arith, counts.0, same)

-- the armed cut falls in an operation
pub cut-change : {T U E : Type 0} (operation : Operation) (at size : ℕ) (old new : CutState) (answer : Result U E) → operation_range operation ≡ record { at = at; size = size }
    → old.left ≡ 1 → new.left ≡ 0 → IsPoked at (take size old.torn) old.inner new.inner answer → CountsCut answer old new
    → old.clean + old.failed ≤ new.clean + new.failed → IsChange {T = T} operation (cut_device old) (cut_device new) (Err PowerLost)
cut-change {T} operation at size old new answer range due spent put counts later =
    let there : Range = operation_range operation in
    let poked : IsPoked there.at (take there.size old.torn) old.inner new.inner answer =
    subst (λ (r : Range). IsPoked r.at (take r.size old.torn) old.inner new.inner answer) (sym range) put in
    let wide = wider-told there.at (length (take there.size old.torn)) there.size old.inner.held new.inner.held (omega (arith, length-take there.size old.torn)) poked.outside in
    let fell = falls-told (Rose old.inner.faults new.inner.faults) operation old.torn old.inner.held new.inner.held answer poked.done poked.faults.failed wide in
    record {
      done = tt;
      outside = wide;
      falls = subst (λ (n : ℕ). Changes (CutFalls (Rose old.inner.faults new.inner.faults) (cut_at n old.torn) 1 Cut (operation ∷ [])) old.inner.held new.inner.held) (sym due) fell;
      lost = λ lost. inl (subst (λ (n : ℕ). Falls (cut_at n old.torn) 1) (sym due) (omega arith, refl));
      extent = poked.extent;
      causes = record {
        faults_later = poked.faults.later;
        cuts_later = omega (arith, later, poked.cuts);
        failed = λ failed. cc;
        lost = λ lost. cuts-rose answer old new counts poked.cuts;
      };
      own_cuts = poked.cuts;
      refusals = cut-refused answer old new counts poked.refusals;
      begun = cut-begun answer old new counts poked.begun;
      armed = ap (λ (n : ℕ). cut_at n new.torn) spent ∙ sym (ap (λ (n : ℕ). cut_after 1 (cut_at n old.torn)) due);
      wear = inl poked.wear;
      fetched = poked.fetched;
    }
