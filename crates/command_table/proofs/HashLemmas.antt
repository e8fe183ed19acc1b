-- What VBOOT_HASH leaves, where it starts a hash.
use Rattle.std.proofs.Common.{◌≡◌, refl, sym, ap, ◌∙◌, ℕ, ◌≤◌, ◌<◌, ◌^◌, Bool, false, not, ◌||◌, ◌==◌, nat_lt, if◌then◌else◌, List, [], length, take, ◌++◌, arith, Option, Some, None}
use Rattle.std.specs.Prelude.{option_map, IfSome}
use Rattle.std.proofs.lemmas.Bool.Decides.{nat_tests}
use Rattle.ec_types.specs.LittleEndian.{u32_at, u32_bytes}
use Rattle.ec_types.proofs.LittleEndianLaws.{u32_at-u32_bytes}
use Rattle.flash_dev.specs.Told.{Changes}
use Rattle.flash_dev.specs.declared.hurt.Hurt.{Hurt}
use Rattle.ec_model.specs.declared.live.HashView.TheVariants.{Busy}
use Rattle.ec_model.specs.Ranges.{Range}
use Rattle.ec_model.specs.Table.{Core, ticks_of}
use Rattle.ec_model.specs.HashRow.{hash_range, hash_asked, hash_bytes, hash_start_row}
use Rattle.ec_model.specs.Answer.{Answered, refused}
use Rattle.ec_params.specs.declared.hash.VbootHashAsk.{VbootHashAsk}
use Rattle.ec_boot.specs.States.{RunView, core_at, told_core}
use Rattle.command_table.specs.Asks.{hash_body}
use Rattle.command_table.specs.Hashed.{range_pair}
use Rattle.command_table.specs.Leaves.{Leaves, KeepsDevice}
use Rattle.command_table.proofs.RowLemmas.{answered-told}

-- a START that is well formed
pub record IsFormed (ask : VbootHashAsk) : Type 0 where
  pub sha256 : ask.hash_type ≡ 0
  pub short : ask.nonce_size ≤ 64
  pub offset : ask.offset < 2 ^ 32
  pub size : ask.size < 2 ^ 32

-- the place and the size of the request are read back
offset-is : (ask : VbootHashAsk) → ask.offset < 2 ^ 32 → u32_at 4 (hash_body ask) ≡ ask.offset
offset-is ask fits = u32_at-u32_bytes ask.offset (u32_bytes ask.size ++ ask.nonce) fits

size-is : (ask : VbootHashAsk) → ask.size < 2 ^ 32 → u32_at 8 (hash_body ask) ≡ ask.size
size-is ask fits = u32_at-u32_bytes ask.size ask.nonce fits

allowed : (hash_type nonce_size : ℕ) → hash_type ≡ 0 → nonce_size ≤ 64 → (not (hash_type == 0) || nat_lt 64 nonce_size) ≡ false
allowed hash_type nonce_size sha256 short = grind (arith, nat_tests)

-- such a START, by the range that it names
start-is : (core : Core) (ask : VbootHashAsk) → IsFormed ask →
    hash_start_row core (hash_body ask) ≡ hash_asked (hash_range (length core.flash) ask.offset ask.size) (take ask.nonce_size ask.nonce) core
start-is core ask formed =
    let nonce : List ℕ = take ask.nonce_size ask.nonce in
    let size : ℕ = length core.flash in
    let body : List ℕ = hash_body ask in
    ap (λ (wrong : Bool). if wrong then refused core 3 else hash_asked (hash_range size (u32_at 4 body) (u32_at 8 body)) nonce core) (allowed ask.hash_type ask.nonce_size formed.sha256 formed.short)
    ∙ ap (λ (at : ℕ). hash_asked (hash_range size at (u32_at 8 body)) nonce core) (offset-is ask formed.offset)
    ∙ ap (λ (count : ℕ). hash_asked (hash_range size ask.offset count) nonce core) (size-is ask formed.size)

-- the range behind a pair
abbrev pair_range : ℕ × ℕ → Range
pair_range pair = record { at = pair.0; size = pair.1 }

range-of : (range : Option Range) (at size : ℕ) → Some (at, size) ≡ option_map range_pair range → range ≡ Some (record { at = at; size = size })
range-of None at size same = cc
range-of (Some range) at size same = ap (λ (o : Option (ℕ × ℕ)). option_map pair_range o) (sym same)

none-of : (range : Option Range) → None ≡ option_map range_pair range → range ≡ None
none-of None same = refl
none-of (Some range) same = cc

abbrev StartLeaves : VbootHashAsk → Hurt → ℕ → List ℕ → RunView → RunView → Type 0
StartLeaves ask hurt status body old new =
    Changes (λ before after. Leaves hurt (hash_start_row before (hash_body ask)) false [] old.device new.device before after status body) (told_core old) (told_core new)

-- a hash that is started is shown as busy
pub started-told : (n : ℕ) (ask : VbootHashAsk) (old new : RunView) (at size : ℕ) (hurt : Hurt) (status : ℕ) (body : List ℕ) → IfSome old.device.held (λ f. length f ≡ n) → KeepsDevice hurt old new → IsFormed ask →
    Some (at, size) ≡ option_map range_pair (hash_range n ask.offset ask.size) →
    new ≡ record old { live = record old.live { hash = Busy at size (ticks_of size) }; nonce = take ask.nonce_size ask.nonce } →
    status ≡ 0 → body ≡ hash_bytes new.live.hash → StartLeaves ask hurt status body old new
started-told n ask old new at size hurt status body sized keeps formed named new_is status_is body_is =
    let nonce : List ℕ = take ask.nonce_size ask.nonce in
    let shown : body ≡ hash_bytes (Busy at size (ticks_of size)) = body_is ∙ ap (λ (run : RunView). hash_bytes run.live.hash) new_is in
    answered-told (λ core. hash_start_row core (hash_body ask)) n old new hurt status body sized keeps
    (λ flash whole.
    start-is (core_at old flash) ask formed
    ∙ ap (λ (count : ℕ). hash_asked (hash_range count ask.offset ask.size) nonce (core_at old flash)) whole
    ∙ ap (λ (r : Option Range). hash_asked r nonce (core_at old flash)) (range-of (hash_range n ask.offset ask.size) at size named)
    ∙ ap (λ (run : RunView). Answered (core_at run flash) 0 (hash_bytes (Busy at size (ticks_of size)))) (sym new_is)
    ∙ ap (λ (v : ℕ). Answered (core_at new flash) v (hash_bytes (Busy at size (ticks_of size)))) (sym status_is)
    ∙ ap (Answered (core_at new flash) status) (sym shown))

-- a START that names no range
pub unnamed-told : (n : ℕ) (ask : VbootHashAsk) (run : RunView) (hurt : Hurt) (status : ℕ) (body : List ℕ) → IfSome run.device.held (λ f. length f ≡ n) → KeepsDevice hurt run run → IsFormed ask →
    None ≡ option_map range_pair (hash_range n ask.offset ask.size) → status ≡ 3 → body ≡ [] → StartLeaves ask hurt status body run run
unnamed-told n ask run hurt status body sized keeps formed named status_is body_is =
    let nonce : List ℕ = take ask.nonce_size ask.nonce in
    answered-told (λ core. hash_start_row core (hash_body ask)) n run run hurt status body sized keeps
    (λ flash whole.
    start-is (core_at run flash) ask formed
    ∙ ap (λ (count : ℕ). hash_asked (hash_range count ask.offset ask.size) nonce (core_at run flash)) whole
    ∙ ap (λ (r : Option Range). hash_asked r nonce (core_at run flash)) (none-of (hash_range n ask.offset ask.size) named)
    ∙ ap (λ (v : ℕ). Answered (core_at run flash) v []) (sym status_is) ∙ ap (Answered (core_at run flash) status) (sym body_is))
