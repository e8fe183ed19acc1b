-- What an answer keeps of guarded RO.
use Rattle.std.proofs.Common.{◌≡◌, refl, ap, ◌∙◌, subst, ℕ, true, List, length, inl, inr, Option, Some, None, Ok}
use Rattle.std.specs.Prelude.{option_map, IfSome, ◌⊎◌, IsTrue}
use Rattle.flash_dev.specs.Told.{Changes}
use Rattle.flash_dev.specs.declared.hurt.Hurt.{Hurt}
use Rattle.flash_dev.specs.declared.hurt.Hurt.TheVariants.{Whole, Failed, Cut}
use Rattle.ec_model.specs.Ranges.{is_flash_size}
use Rattle.ec_model.specs.Bus.{fresh_bus}
use Rattle.ec_model.specs.Packet.{RequestView}
use Rattle.ec_model.specs.Commands.{is_spelled, line_of}
use Rattle.ec_model.specs.Table.{Core}
use Rattle.ec_model.specs.Handle.{Admitted, admitted, row_of, reads_by, operations_by}
use Rattle.ec_model.proofs.GuardRows.{Keeps, KeepsOutcome, keeps-self}
use Rattle.ec_model.proofs.GuardStep.{row_of-keeps}
use Rattle.ec_model.proofs.GuardWork.{spelled_by, operations_by-above}
use Rattle.ec_boot.specs.States.{RunView, OffView, core_at, told_core, Follows}
use Rattle.flash_dev.specs.View.{DeviceView}
use Rattle.ec_boot.specs.Ran.{IsStopped, ReadFailed}
use Rattle.ec_boot.specs.Guarding.{KeepsGuard, LowersGuard}
use Rattle.ec_boot.proofs.KeepLemmas.{stopped-keeps, guard-told, guard-same}
use Rattle.command_table.specs.Leaves.{FoundLeaves, HasReply}
use Rattle.command_table.specs.Serving.{Finds, IsServed}
use Rattle.command_table.specs.declared.reboot.Next.{Next}
use Rattle.command_table.specs.declared.reboot.Next.TheVariants.{Stays, Jumps, Restarts}

-- what is admitted is spelled
spelled-of : (core : Core) (request : RequestView) (found : Admitted) → admitted core request ≡ Ok found → is_spelled found.command found.version found.body ≡ true
spelled-of core request found same = spelled_by core request (line_of request.command) found same

stopped-by : (hurt : Hurt) (device changed : DeviceView) (core after : Core) (request : RequestView) → IsStopped hurt (operations_by core (admitted core request)) device changed core after → Keeps core after
stopped-by hurt device changed core after request stopped =
    stopped-keeps hurt (operations_by core (admitted core request)) device changed core after (λ locked. operations_by-above core (admitted core request) locked (spelled-of core request)) stopped

-- what a request leaves keeps the guard
found-keeps : (hurt : Hurt) (limit : ℕ) (request : RequestView) (status : ℕ) (body : List ℕ) (device changed : DeviceView) (core after : Core) → FoundLeaves (admitted core request) hurt limit device changed core after status body → Keeps core after
found-keeps Whole limit request status body device changed core after same =
    subst (KeepsOutcome core) same.0 (row_of-keeps core limit (admitted core request) (spelled-of core request))
found-keeps Failed limit request status body device changed core after failed = by failed.what where
  by : (IsTrue (reads_by core limit (admitted core request)) × HasReply (row_of core limit (admitted core request)) × ReadFailed (operations_by core (admitted core request)) device changed core after)
      ⊎ IsStopped Failed (operations_by core (admitted core request)) device changed core after → Keeps core after
  by (inl read) = rw read.2.0 (keeps-self core)
  by (inr stopped) = stopped-by Failed device changed core after request stopped
found-keeps Cut limit request status body device changed core after stopped = stopped-by Cut device changed core after request stopped

pub answer-guard : (size : ℕ) (hurt : Hurt) (limit : ℕ) (request : RequestView) (status : ℕ) (body : List ℕ) (old new : RunView) → is_flash_size size ≡ true → IfSome old.device.held (λ flash. length flash ≡ size) →
    Changes (λ before after. FoundLeaves (admitted before request) hurt limit old.device new.device before after status body) (told_core old) (told_core new) → Changes KeepsGuard (told_core old) (told_core new)
answer-guard size hurt limit request status body old new allowed sized told =
    guard-told size (λ before after. FoundLeaves (admitted before request) hurt limit old.device new.device before after status body) old new allowed sized
    (λ before after leaves. found-keeps hurt limit request status body old.device new.device before after leaves) told

-- the same where power was lost behind it
pub lost-guard : (old new : RunView) (off : OffView) → new.pin ≡ old.pin → off.device ≡ new.device → Changes KeepsGuard (told_core old) (told_core new) → Follows LowersGuard (told_core old) off.device.held
lost-guard old new off pin same told = rw same (by old.device.held new.device.held told) where
  by : (o p : Option (List ℕ)) → Changes KeepsGuard (option_map (core_at old) o) (option_map (core_at new) p) → Follows LowersGuard (option_map (core_at old) o) p
  by None None told = tt
  by None (Some g) told = told
  by (Some f) None told = told
  by (Some f) (Some g) told =
      record {
        guarded = λ guarded kind. let is = told.guarded guarded (fresh_bus kind) in record { pin = (guarded (fresh_bus kind)).pin; stored = is.stored; locked = refl };
        bytes = told.bytes;
      }

-- the guard is kept by one change, and by the next
pub guard-then : (a b c : Option Core) → Changes KeepsGuard a b → Changes KeepsGuard b c → Changes KeepsGuard a c
guard-then None None None first next = tt
guard-then None None (Some z) first next = next
guard-then None (Some y) c first next = absurd first
guard-then (Some x) None c first next = absurd first
guard-then (Some x) (Some y) None first next = absurd next
guard-then (Some x) (Some y) (Some z) first next =
    record {
      guarded = λ guarded. next.guarded (first.guarded guarded);
      bytes = λ guarded. next.bytes (first.guarded guarded) ∙ first.bytes guarded;
    }

-- a request that was served leaves the pin
pub served-pin : (next : Next) (limit : ℕ) (finds : Finds) (hurt : Hurt) (status : ℕ) (body : List ℕ) (old new : RunView) → IsServed next limit finds hurt status body old new → new.pin ≡ old.pin
served-pin Stays limit finds hurt status body old new served = served.pin
served-pin Jumps limit finds hurt status body old new served = ap (λ (run : RunView). run.pin) served.same
served-pin Restarts limit finds hurt status body old new served = ap (λ (run : RunView). run.pin) served.same

-- a request that was served keeps the guard
pub served-guard : (size : ℕ) (next : Next) (limit : ℕ) (request : RequestView) (hurt : Hurt) (status : ℕ) (body : List ℕ) (old new : RunView) → is_flash_size size ≡ true → IfSome old.device.held (λ flash. length flash ≡ size) →
    IsServed next limit (λ core. admitted core request) hurt status body old new → Changes KeepsGuard (told_core old) (told_core new)
served-guard size Stays limit request hurt status body old new allowed sized served = answer-guard size hurt limit request status body old new allowed sized served.leaves
served-guard size Jumps limit request hurt status body old new allowed sized served = guard-same old new (ap told_core served.same)
served-guard size Restarts limit request hurt status body old new allowed sized served = guard-same old new (ap told_core served.same)
