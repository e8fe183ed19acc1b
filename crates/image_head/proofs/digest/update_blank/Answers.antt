use Rattle.std.proofs.Common.{◌≡◌, sym, subst, ℕ, ◌*◌, ◌+◌, ◌%◌, List, ◌++◌, replicate, take, arith, append-nil}
use Rattle.std.proofs.lemmas.List.{take-replicate}
use Rattle.sha2.specs.Hashers.{Holds256}
use Rattle.image_head.proofs.Blank.{blank-more}
use Rattle.image_head.proofs.digest.update_blank.Goals as goal

pub loop-turn-init : goal.loop-turn-init
loop-turn-init c = λ message holds. subst (λ (m : List ℕ). Holds256 c.args.hasher.now m) (sym (append-nil message)) holds

pub loop-turn-preserved : goal.loop-turn-preserved
loop-turn-preserved c = λ message holds.
    let now = c.update.ensures (message ++ replicate (64 * c.loop-turn._turn) 0xFF) (c.loop-turn.invariant message holds) in
    subst (λ (m : List ℕ). Holds256 c.update.new.self m) (blank-more message (64 * c.loop-turn._turn) 64 (64 * (c.loop-turn._turn + 1)) 0xFF (omega arith)) now

pub returns : goal.returns
returns c = λ message holds.
    let sum : 64 * c.loop-turn._turn + c.args.count % 64 ≡ c.args.count = omega arith in
    let front : List ℕ = message ++ replicate (64 * c.loop-turn._turn) 0xFF in
    let now : Holds256 c.update-2.new.self (front ++ take (c.args.count % 64) (replicate 64 0xFF)) = c.update-2.ensures front (c.loop-turn.invariant message holds) in
    let rest : take (c.args.count % 64) (replicate 64 0xFF) ≡ replicate (c.args.count % 64) 0xFF = take-replicate (c.args.count % 64) 64 0xFF (omega arith) in
    let cut : Holds256 c.update-2.new.self (front ++ replicate (c.args.count % 64) 0xFF) = subst (λ (m : List ℕ). Holds256 c.update-2.new.self (front ++ m)) rest now in
    subst (λ (m : List ℕ). Holds256 c.update-2.new.self m) (blank-more message (64 * c.loop-turn._turn) (c.args.count % 64) c.args.count 0xFF sum) cut
