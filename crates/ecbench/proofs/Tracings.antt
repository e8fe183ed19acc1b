-- Entries that are counted one by one.
use Rattle.std.proofs.Common.{◌≡◌, ap, ◌∙◌, ℕ, ◌+◌, ◌≤◌, Bool, true, false, cond, List, [], ◌∷◌, length, drop, get_or, Some, arith}
use Rattle.std.specs.Prelude.{count_by, slice_get}
use Rattle.std.proofs.lemmas.List.{drop_all}
use Rattle.std.proofs.lemmas.List.Sums.{sum_by-drop_more}
use Rattle.std.proofs.lemmas.Option.{get_or_from_slice_get, slice_get_within}
use Rattle.ec_model.specs.declared.event.Entry.{Entry}
use Rattle.ecbench.specs.declared.tracing.Counts.{Counts}
use Rattle.ecbench.specs.Tracing.{AreCounted, is_access, is_tick, counts_text, trace_text}

-- how many were counted, and how many are still to be
pub record CountsOn (test : Entry → Bool) (entries : List Entry) (since i counted : ℕ) : Type 0 where
  pub few : counted ≤ i
  pub all : count_by test (drop since entries) ≡ counted + count_by test (drop i entries)

-- none was counted
pub counts-none : (test : Entry → Bool) (entries : List Entry) (since : ℕ) → CountsOn test entries since since 0
counts-none test entries since = record { few = omega arith; all = omega arith }

-- one more was counted
pub counts-more : (test : Entry → Bool) (entries : List Entry) (since i counted now : ℕ) (entry : Entry) → slice_get entries i ≡ Some entry → now ≡ counted + count_by test (entry ∷ []) → count_by test (entry ∷ []) ≤ 1 → CountsOn test entries since i counted → CountsOn test entries since (i + 1) now
counts-more test entries since i counted now entry there now_is one counts =
    let value : Entry → ℕ = λ e. cond (test e) 1 0 in
    let more : count_by test (drop i entries) ≡ value (get_or entries i entry) + count_by test (drop (i + 1) entries) = sum_by-drop_more value entries i entry (slice_get_within entries i entry there) in
    let same : value (get_or entries i entry) ≡ value entry = ap value (get_or_from_slice_get entries i entry entry there) in
    record { few = omega (arith, counts.few, now_is, one); all = omega (arith, counts.all, more, same, now_is) }

-- all were counted
pub counts-all : (test : Entry → Bool) (entries : List Entry) (since i counted : ℕ) → length entries ≤ i → CountsOn test entries since i counted → counted ≡ count_by test (drop since entries)
counts-all test entries since i counted end counts =
    let none : count_by test (drop i entries) ≡ 0 = ap (count_by test) (drop_all i entries end) in
    omega (arith, counts.all, none)

-- a test passes at most one entry
pub one-at-most : (test : Entry → Bool) (entry : Entry) → count_by test (entry ∷ []) ≤ 1
one-at-most test entry = by (test entry) where
  by : (b : Bool) → 0 + cond b 1 0 ≤ 1
  by true = omega arith
  by false = omega arith

-- the text of entries that were counted
pub counted-text : (counts : Counts) (entries : List Entry) → AreCounted counts entries → counts_text counts.accesses counts.ticks counts.world_events ≡ trace_text entries
counted-text counts entries counted =
    ap (λ (n : ℕ). counts_text n counts.ticks counts.world_events) counted.accesses
    ∙ ap (λ (n : ℕ). counts_text (count_by is_access entries) n counts.world_events) counted.ticks
    ∙ ap (λ (n : ℕ). counts_text (count_by is_access entries) (count_by is_tick entries) n) counted.world
