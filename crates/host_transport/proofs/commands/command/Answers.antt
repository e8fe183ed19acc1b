use Rattle.std.proofs.Common.{◌≡◌, ◌∙◌, ap, sym, ℕ, Bool, ◌+◌, ◌-◌, ◌++◌, List, drop, arith}
use Rattle.ec_model.specs.Tries.{Answered, SaidUpset, said_last}
use Rattle.ec_wire.proofs.Growth.{grows-then}
use Rattle.host_transport.proofs.CommandLaws.{tries-go, tries-end, tries-out, said-off, said-short}
use Rattle.host_transport.proofs.commands.command.Goals as goal

pub try_once-requires-clause-short : goal.try_once-requires-clause-short
try_once-requires-clause-short g c = rw (c.loop-try.invariant.grows.bus) c.requires.short

pub returns-in-Final-clause-tries : goal.returns-in-Final-clause-tries
returns-in-Final-clause-tries g c =
    let so_far = c.loop-try.invariant in
    tries-end (3 - (c.loop-try._try + 1)) (3 - c.loop-try._try) c.loop-try.is_invalid _ _ _ _ so_far.added _ _ _ (omega arith) so_far.grows so_far.rest c.in-Final.ensures.tries

pub returns-in-Final-clause-no_power : goal.returns-in-Final-clause-no_power
returns-in-Final-clause-no_power g c = said-off _ _ _ c.in-Final.ensures.leaves

pub returns-in-Final-clause-short : goal.returns-in-Final-clause-short
returns-in-Final-clause-short g c = said-short _ _ _ c.in-Final.ensures.leaves

pub loop-try-preserved : goal.loop-try-preserved
loop-try-preserved g c =
    let so_far = c.loop-try.invariant in
    let try = c.in-Again.ensures.tries in
    record {
      added = so_far.added ++ try.added;
      grows = grows-then _ _ _ _ _ so_far.grows try.grows;
      rest = tries-go 3 (3 - (c.loop-try._try + 1)) (3 - c.loop-try._try) c.loop-try.is_invalid c.in-Again.invalid c.args.floor _ _ so_far.added _ _ _ (omega arith) so_far.grows so_far.rest try;
    }

pub returns-then-is_invalid-clause-tries : goal.returns-then-is_invalid-clause-tries
returns-then-is_invalid-clause-tries g c =
    let so_far = c.loop-try.invariant in
    let last : Answered 3 (drop 8 c.clear.new.self) ≡ said_last c.loop-try.is_invalid = ap (λ (bytes : List ℕ). Answered 3 (drop 8 bytes)) c.clear.ensures ∙ sym (ap (λ (invalid : Bool). said_last invalid) c.if-is_invalid.true) in
    tries-out (3 - c.loop-try._try) c.loop-try.is_invalid c.args.floor _ _ _ so_far.added _ _ (omega arith) so_far.grows so_far.rest last

pub returns-else-is_invalid-clause-tries : goal.returns-else-is_invalid-clause-tries
returns-else-is_invalid-clause-tries g c =
    let so_far = c.loop-try.invariant in
    let last : SaidUpset ≡ said_last c.loop-try.is_invalid = sym (ap (λ (invalid : Bool). said_last invalid) c.if-is_invalid.false) in
    tries-out (3 - c.loop-try._try) c.loop-try.is_invalid c.args.floor _ _ _ so_far.added _ _ (omega arith) so_far.grows so_far.rest last
