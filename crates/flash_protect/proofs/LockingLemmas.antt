-- Locks that are set over others.
use Rattle.std.proofs.Common.{◌≡◌, refl, sym, ap, ◌∙◌, ℕ, ◌+◌, ◌-◌, ◌/◌, ◌≤◌, Bool, true, false, if◌then◌else◌, List, ◌++◌, drop, length, replicate, arith}
use Rattle.std.proofs.Math.Seq.{drop-append_seam}
use Rattle.std.proofs.lemmas.List.{drop-drop, length-replicate}
use Rattle.flash_ctl.specs.Locks.{no_locks, with_locked}
use Rattle.flash_protect.specs.Locking.{locks_of}

-- what is behind the first locks
behind : (n m : ℕ) (locks : List Bool) → m ≤ n → drop (0 + n) (replicate m true ++ drop (0 + m) locks) ≡ drop (0 + n) locks
behind n m locks within =
    let front : List Bool = replicate m true in
    let long : length front ≡ m = length-replicate {A = Bool} m true in
    let place : 0 + n ≡ length front + (n - m) = omega (arith, within, long) in
    let split : 0 + n ≡ 0 + m + (n - m) = omega (arith, within) in
    ap (λ (k : ℕ). drop k (front ++ drop (0 + m) locks)) place
    ∙ sym (drop-drop (n - m) (length front) (front ++ drop (0 + m) locks))
    ∙ ap (drop (n - m)) (drop-append_seam front (drop (0 + m) locks))
    ∙ drop-drop (n - m) (0 + m) locks ∙ ap (λ (k : ℕ). drop k locks) (sym split)

-- more locks in place of fewer
locked-again : (n m : ℕ) (locks : List Bool) → m ≤ n → with_locked 0 n (with_locked 0 m locks) ≡ with_locked 0 n locks
locked-again n m locks within = ap (λ (rest : List Bool). replicate n true ++ rest) (behind n m locks within)

-- all locks, over those of some protection
pub all-over : (size : ℕ) (ro all : Bool) → with_locked 0 (size / 4096) (locks_of size ro all) ≡ with_locked 0 (size / 4096) no_locks
all-over size false false = refl
all-over size true false = locked-again (size / 4096) (size / 2 / 4096) no_locks (omega arith)
all-over size ro true = locked-again (size / 4096) (size / 4096) no_locks (omega arith)

-- the locks of some protection, by its flags
pub flags-give : (size : ℕ) (ro all : Bool) → all ≡ true → locks_of size ro all ≡ with_locked 0 (size / 4096) no_locks
flags-give size ro all set = ap (λ (b : Bool). if b then with_locked 0 (size / 4096) no_locks else (if ro then with_locked 0 (size / 2 / 4096) no_locks else no_locks)) set
