-- What a jump that was refused answers.
use Rattle.std.proofs.Common.{◌≡◌, refl, sym, ap, ◌∙◌, subst, ℕ, ◌≤◌, Bool, true, false, not, ◌&&◌, if◌then◌else◌, List, [], arith, inl, Option, Some, None}
use Rattle.std.specs.Prelude.{option_map, IfSome}
use Rattle.ec_types.specs.declared.image.ImageCopy.{ImageCopy}
use Rattle.flash_dev.specs.Told.{Changes}
use Rattle.flash_dev.specs.Costs.{Costs}
use Rattle.flash_dev.specs.declared.hurt.Hurt.{Hurt}
use Rattle.flash_dev.specs.declared.hurt.Hurt.TheVariants.{Whole, Failed}
use Rattle.flash_dev.proofs.Accounting.{account-none}
use Rattle.flash_dev.proofs.Costing.{costs-more, costs-none}
use Rattle.ec_model.specs.Table.{Core}
use Rattle.ec_model.specs.Operations.{Operation}
use Rattle.ec_model.specs.Answer.{Outcome, refused, done, is_restart}
use Rattle.ec_model.specs.Handle.{row_of, reads_by, operations_by}
use Rattle.ec_model.specs.Jump.{same_copy, is_denied, has_vector, reads_head, jumped}
use Rattle.ec_model.specs.RebootRow.{jump_row}
use Rattle.ec_model.proofs.GuardSteps.{if_cases}
use Rattle.ec_boot.specs.States.{RunView, core_at, told_core}
use Rattle.ec_boot.specs.Ran.{AllBegun}
use Rattle.ec_boot.specs.Jumping.{Arrives, IsJump, IsRefused, IsTurnedBack}
use Rattle.ec_boot.specs.declared.jump.JumpNo.{JumpNo}
use Rattle.ec_boot.specs.declared.jump.JumpNo.TheVariants.{Denied, Vector, Fault}
use Rattle.command_table.specs.Leaves.{FoundLeaves, HasReply}
use Rattle.command_table.specs.Serving.{Finds, RestartsNot, IsJumpTo, AwaitsJump, other_copy}
use Rattle.command_table.specs.After.{StaysOn, refused_status, refused_hurt}
use Rattle.command_table.proofs.RowLemmas.{IsJustRead, read-through, whole-leaves}
use Rattle.command_table.proofs.WearLemmas.{wears-none}

-- what holds of each outcome of a jump but the one that was not asked for
jump-answers : (P : Outcome → Type 0) (target : ImageCopy) (core : Core) → P (done core) → P (refused core 4) → P (refused core 2) → P (done (jumped target core)) → P (jump_row target core)
jump-answers P target core same denied outside granted =
    if_cases P (same_copy target core.live.copy) _ _ (λ runs. same)
    (λ other. if_cases P (is_denied core target) _ _ (λ no. denied)
    (λ may. if_cases P (not (has_vector core.flash target)) _ _ (λ lies. outside) (λ jumps. granted)))

-- a jump restarts nothing
jump-not : (limit : ℕ) (finds : Finds) (target : ImageCopy) (run : RunView) → ((core : Core) → core.live ≡ run.live → IsJumpTo target limit (finds core) core) → RestartsNot limit finds run
jump-not limit finds target run jump core is =
    ap is_restart (jump core is).row ∙ jump-answers (λ outcome. is_restart outcome ≡ false) target core refl refl refl refl

-- the row of a jump that is denied, and of one whose vector lies outside
denied-row : (target : ImageCopy) (core : Core) → same_copy target core.live.copy ≡ false → is_denied core target ≡ true → jump_row target core ≡ refused core 4
denied-row target core other denied =
    let rest : Outcome = if not (has_vector core.flash target) then refused core 2 else done (jumped target core) in
    ap (λ (same : Bool). if same then done core else if is_denied core target then refused core 4 else rest) other
    ∙ ap (λ (no : Bool). if no then refused core 4 else rest) denied

outside-row : (target : ImageCopy) (core : Core) → same_copy target core.live.copy ≡ false → is_denied core target ≡ false → has_vector core.flash target ≡ false → jump_row target core ≡ refused core 2
outside-row target core other granted outside =
    let rest : Outcome = if not (has_vector core.flash target) then refused core 2 else done (jumped target core) in
    ap (λ (same : Bool). if same then done core else if is_denied core target then refused core 4 else rest) other
    ∙ ap (λ (no : Bool). if no then refused core 4 else rest) granted
    ∙ ap (λ (has : Bool). if not has then refused core 2 else done (jumped target core)) outside

-- such a jump looks at the head
head-read : (target : ImageCopy) (core : Core) → same_copy target core.live.copy ≡ false → is_denied core target ≡ false → reads_head target core ≡ true
head-read target core other granted =
    ap (λ (same : Bool). not same && not (is_denied core target)) other ∙ ap (λ (no : Bool). not no) granted

-- a jump that was refused with a status, where no read failed
said-leaves : (said : ℕ) (target : ImageCopy) (limit : ℕ) (finds : Finds) (hurt : Hurt) (status : ℕ) (body : List ℕ) (old new : RunView) (P : List ℕ → Type 0) → IsJustRead old new → IfSome old.device.held P →
    ((core : Core) → core.live ≡ old.live → IsJumpTo target limit (finds core) core) → ((f : List ℕ) → P f → same_copy target old.live.copy ≡ false → jump_row target (core_at old f) ≡ refused (core_at old f) said) →
    hurt ≡ Whole → status ≡ said → body ≡ [] →
    Changes (λ before after. FoundLeaves (finds before) hurt limit old.device new.device before after status body) (told_core old) (told_core new)
said-leaves said target limit finds hurt status body old new P read holds jump row hurt_is status_is body_is =
    read-through P (λ before after. FoundLeaves (finds before) hurt limit old.device new.device before after status body) old new read holds
    (λ f here.
    let core : Core = core_at old f in
    let is = jump core refl in
    whole-leaves hurt (row_of core limit (finds core)) (reads_by core limit (finds core)) (operations_by core (finds core)) old.device new.device core core said status [] body hurt_is status_is body_is
    (is.row ∙ row f here is.other)
    (subst (λ (operations : List Operation). AllBegun operations old.device new.device core core) (sym is.operations) (account-none Whole [] old.device new.device f f read.begun read.armed read.wear tt)))

-- nothing was read
same-read : (old new : RunView) → new ≡ old → IsJustRead old new
same-read old new same =
    subst (λ (run : RunView). IsJustRead old run) (sym same) (record { rest = refl; kept = refl; begun = refl; armed = refl; wear = refl })

-- a look changed nothing but counts
turned-read : (hurt : Hurt) (target : ImageCopy) (old new : RunView) → IsTurnedBack hurt target old new → IsJustRead old new
turned-read hurt target old new turned =
    record { rest = turned.rest; kept = turned.looked.held; begun = turned.looked.begun; armed = turned.looked.armed; wear = turned.looked.wear }

-- what holds of each content that is told, of no other
holds-told : (P : List ℕ → Type 0) (old new : RunView) → Changes (λ before after. P before.flash) (told_core old) (told_core new) → IfSome old.device.held P
holds-told P old new told = by old.device.held new.device.held told where
  by : (o p : Option (List ℕ)) → Changes (λ before after. P before.flash) (option_map (core_at old) o) (option_map (core_at new) p) → IfSome o P
  by None p told = tt
  by (Some f) None told = absurd told
  by (Some f) (Some g) told = told

always : (held : Option (List ℕ)) → IfSome held (λ f. Unit {0})
always None = tt
always (Some f) = tt

-- a jump whose look at the flash failed
failed-leaves : (target : ImageCopy) (limit : ℕ) (finds : Finds) (hurt : Hurt) (status : ℕ) (body : List ℕ) (old new : RunView) → IsTurnedBack Failed target old new →
    ((core : Core) → core.live ≡ old.live → IsJumpTo target limit (finds core) core) → hurt ≡ Failed → status ≡ 2 → body ≡ [] →
    Changes (λ before after. FoundLeaves (finds before) hurt limit old.device new.device before after status body) (told_core old) (told_core new)
failed-leaves target limit finds hurt status body old new turned jump hurt_is status_is body_is =
    let read = turned-read Failed target old new turned in
    read-through (λ f. Unit {0}) (λ before after. FoundLeaves (finds before) hurt limit old.device new.device before after status body) old new read (always old.device.held)
    (λ f here.
    let core : Core = core_at old f in
    let is = jump core refl in
    subst (λ (h : Hurt). FoundLeaves (finds core) h limit old.device new.device core core status body) (sym hurt_is)
    (record {
      status_is = status_is;
      body_is = body_is;
      what = inl (
        is.reads ∙ head-read target core is.other turned.granted,
        subst HasReply (sym is.row) (jump-answers HasReply target core tt tt tt tt),
        (refl, account-none Failed (operations_by core (finds core)) old.device new.device f f read.begun read.armed read.wear turned.looked.spent.rose),
      );
    }))

-- a jump that was refused
pub refused-row : (target : ImageCopy) (old new : RunView) (why : JumpNo) (limit : ℕ) (finds : Finds) (hurt : Hurt) (status : ℕ) (body : List ℕ) → other_copy old.live.copy ≡ target → IsRefused target old new why →
    hurt ≡ refused_hurt why → status ≡ refused_status why → body ≡ [] → 8 ≤ limit → AwaitsJump limit finds old old → StaysOn limit finds hurt status body old new
refused-row target old new why limit finds hurt status body other is hurt_is status_is body_is least awaits = by why is hurt_is status_is where
  jump : (core : Core) → core.live ≡ old.live → IsJumpTo target limit (finds core) core
  jump core same = subst (λ (copy : ImageCopy). IsJumpTo copy limit (finds core) core) other (awaits.jump core same)

  by : (kind : JumpNo) → IsRefused target old new kind → hurt ≡ refused_hurt kind → status ≡ refused_status kind → StaysOn limit finds hurt status body old new
  by Denied denied whole said =
      record {
        alive = λ cut. cc;
        stays = jump-not limit finds target old jump;
        leaves = said-leaves 4 target limit finds hurt status body old new (λ f. Unit {0}) (same-read old new denied.1) (always old.device.held) jump
            (λ f here differs. denied-row target (core_at old f) differs denied.0) whole said body_is;
        pin = ap (λ (run : RunView). run.pin) denied.1;
        short = rw body_is least;
        spent = subst (λ (run : RunView). Costs hurt 1024 old.device run.device) (sym denied.1) (rw whole (costs-none 1024 old.device));
        wear = wears-none finds old new.device (ap (λ (run : RunView). run.device.wear) denied.1);
      }
  by Vector turned whole said =
      record {
        alive = λ cut. cc;
        stays = jump-not limit finds target old jump;
        leaves = said-leaves 2 target limit finds hurt status body old new (λ f. has_vector f target ≡ false) (turned-read Whole target old new turned.0) (holds-told (λ f. has_vector f target ≡ false) old new turned.1) jump
            (λ f outside differs. outside-row target (core_at old f) differs turned.0.granted outside) whole said body_is;
        pin = ap (λ (run : RunView). run.pin) turned.0.rest;
        short = rw body_is least;
        spent = rw whole (costs-more Whole 9 1024 old.device new.device (omega arith) turned.0.looked.spent);
        wear = wears-none finds old new.device turned.0.looked.wear;
      }
  by Fault turned failed said =
      record {
        alive = λ cut. cc;
        stays = jump-not limit finds target old jump;
        leaves = failed-leaves target limit finds hurt status body old new turned jump failed said body_is;
        pin = ap (λ (run : RunView). run.pin) turned.rest;
        short = rw body_is least;
        spent = rw failed (costs-more Failed 9 1024 old.device new.device (omega arith) turned.looked.spent);
        wear = wears-none finds old new.device turned.looked.wear;
      }

-- the row of a jump that is granted
granted-is : (target : ImageCopy) (core : Core) → same_copy target core.live.copy ≡ false → is_denied core target ≡ false → has_vector core.flash target ≡ true → jump_row target core ≡ done (jumped target core)
granted-is target core other granted inside =
    let rest : Outcome = if not (has_vector core.flash target) then refused core 2 else done (jumped target core) in
    ap (λ (same : Bool). if same then done core else if is_denied core target then refused core 4 else rest) other
    ∙ ap (λ (no : Bool). if no then refused core 4 else rest) granted
    ∙ ap (λ (has : Bool). if not has then refused core 2 else done (jumped target core)) inside

-- a jump that was granted
pub granted-row : (target : ImageCopy) (old new : RunView) (limit : ℕ) (finds : Finds) (hurt : Hurt) (status : ℕ) (body : List ℕ) → other_copy old.live.copy ≡ target → Arrives target old new →
    hurt ≡ Whole → status ≡ 0 → body ≡ [] → 8 ≤ limit → AwaitsJump limit finds old old → StaysOn limit finds hurt status body old new
granted-row target old new limit finds hurt status body other arrives hurt_is status_is body_is least awaits =
    record {
      alive = λ cut. cc;
      stays = jump-not limit finds target old jump;
      leaves = by old.device.held new.device.held arrives.told;
      pin = arrives.pin;
      short = rw body_is least;
      spent = rw hurt_is (costs-more Whole 9 1024 old.device new.device (omega arith) arrives.looked.spent);
      wear = wears-none finds old new.device arrives.looked.wear;
    } where
      jump : (core : Core) → core.live ≡ old.live → IsJumpTo target limit (finds core) core
      jump core same = subst (λ (copy : ImageCopy). IsJumpTo copy limit (finds core) core) other (awaits.jump core same)

      by : (o p : Option (List ℕ)) → Changes (IsJump target) (option_map (core_at old) o) (option_map (core_at new) p) →
          Changes (λ before after. FoundLeaves (finds before) hurt limit old.device new.device before after status body) (option_map (core_at old) o) (option_map (core_at new) p)
      by None None told = tt
      by None (Some g) told = told
      by (Some f) None told = told
      by (Some f) (Some g) told =
          let core : Core = core_at old f in
          let is = jump core refl in
          whole-leaves hurt (row_of core limit (finds core)) (reads_by core limit (finds core)) (operations_by core (finds core)) old.device new.device core (core_at new g) 0 status [] body hurt_is status_is body_is
          (is.row ∙ granted-is target core is.other arrives.granted told.vector ∙ ap done (sym told.jumped))
          (subst (λ (operations : List Operation). AllBegun operations old.device new.device core (core_at new g)) (sym is.operations)
          (account-none Whole [] old.device new.device f g arrives.looked.begun arrives.looked.armed arrives.looked.wear tt))
