-- What is on behind an answer.
use Rattle.std.proofs.Common.{◌≡◌, refl, sym, ap, ◌∙◌, subst, ℕ, List, Option, Some, None}
use Rattle.std.specs.Prelude.{option_map}
use Rattle.flash_dev.specs.Told.{Changes}
use Rattle.flash_dev.specs.View.{DeviceView}
use Rattle.flash_dev.specs.declared.hurt.Hurt.{Hurt}
use Rattle.flash_dev.specs.declared.hurt.Hurt.TheVariants.{Cut}
use Rattle.ec_boot.specs.States.{RunView, OffView, core_at, told_core, Follows}
use Rattle.ec_boot.specs.Guarding.{KeepsGuard}
use Rattle.command_table.specs.Leaves.{FoundLeaves}
use Rattle.command_table.specs.Serving.{Finds, IsDealtWith, AwaitsJump, IsServed}
use Rattle.command_table.specs.declared.reboot.Next.{Next}
use Rattle.command_table.specs.declared.reboot.Next.TheVariants.{Stays, Jumps, Restarts}
use Rattle.command_table.specs.After.{StaysOn, GoesOff, IsLostIn, IsAnswered, KeepsGuarded, IsOnAs}
use Rattle.command_table.specs.declared.table.After.{After}
use Rattle.command_table.specs.declared.table.After.TheVariants.{Ro, Rw, Reset, Off}

-- a request that is dealt with, where power is not lost, leaves the controller on
pub dealt-on : (limit : ℕ) (finds : Finds) (hurt : Hurt) (status : ℕ) (body : List ℕ) (old new : RunView) → (hurt ≡ Cut → ⊥) → IsDealtWith limit finds hurt status body old new → StaysOn limit finds hurt status body old new
dealt-on limit finds hurt status body old new alive dealt =
    record { alive = alive; stays = dealt.stays; leaves = dealt.leaves; pin = dealt.pin; short = dealt.short; spent = dealt.spent; wear = dealt.wear }

-- a request that is dealt with, where power is lost in it, leaves the flash alone
pub dealt-off : (limit : ℕ) (finds : Finds) (hurt : Hurt) (status : ℕ) (body : List ℕ) (old run : RunView) (off : OffView) → hurt ≡ Cut → off.device ≡ run.device → IsDealtWith limit finds hurt status body old run → GoesOff limit finds hurt old off
dealt-off limit finds hurt status body old run off cut device_is dealt =
    let lost = subst (λ (h : Hurt). IsDealtWith limit finds h status body old run) cut dealt in
    subst (λ (device : DeviceView). GoesOff limit finds hurt old (record { device = device })) (sym device_is)
    (record { cut = cut; stays = lost.stays; leaves = by old.device.held run.device.held lost.leaves; spent = lost.spent; wear = lost.wear }) where
      by : (o p : Option (List ℕ)) → Changes (λ before after. FoundLeaves (finds before) Cut limit old.device run.device before after status body) (option_map (core_at old) o) (option_map (core_at run) p) →
          Follows (IsLostIn finds old.device run.device) (option_map (core_at old) o) p
      by None None told = tt
      by None (Some g) told = told
      by (Some f) None told = told
      by (Some f) (Some g) stopped = record { place = stopped.place; stops = stopped.stops; account = stopped.account }

-- whichever image runs
pub on-answered : {F : Type 0} (limit : ℕ) (finds : Finds) (hurt : Hurt) (status : ℕ) (body : List ℕ) (old run : RunView) (after : After F) → IsOnAs run after → StaysOn limit finds hurt status body old run → IsAnswered limit finds hurt status body old after
on-answered limit finds hurt status body old run (Ro new) same on = subst (StaysOn limit finds hurt status body old) (sym same) on
on-answered limit finds hurt status body old run (Rw new) same on = subst (StaysOn limit finds hurt status body old) (sym same) on
on-answered limit finds hurt status body old run (Reset new) same on = absurd same
on-answered limit finds hurt status body old run (Off off) same on = absurd same

pub on-guarded : {F : Type 0} (old run : RunView) (after : After F) → IsOnAs run after → Changes KeepsGuard (told_core old) (told_core run) → KeepsGuarded old after
on-guarded old run (Ro new) same guard = subst (λ (on : RunView). Changes KeepsGuard (told_core old) (told_core on)) (sym same) guard
on-guarded old run (Rw new) same guard = subst (λ (on : RunView). Changes KeepsGuard (told_core old) (told_core on)) (sym same) guard
on-guarded old run (Reset new) same guard = absurd same
on-guarded old run (Off off) same guard = absurd same

-- a jump that is left to do finds no erase pending
pub served-idle : (next : Next) (limit : ℕ) (finds : Finds) (hurt : Hurt) (status : ℕ) (body : List ℕ) (old new : RunView) → IsServed next limit finds hurt status body old new → next ≡ Jumps → new.live.erase ≡ None
served-idle Stays limit finds hurt status body old new served wrong = cc
served-idle Jumps limit finds hurt status body old new served same = ap (λ (run : RunView). run.live.erase) served.same ∙ served.idle
served-idle Restarts limit finds hurt status body old new served wrong = cc

-- a jump that is left to do is one from the state that is there
pub jump-made : (limit : ℕ) (finds : Finds) (hurt : Hurt) (status : ℕ) (body : List ℕ) (old run new : RunView) → AwaitsJump limit finds old run →
    (AwaitsJump limit finds run run → StaysOn limit finds hurt status body run new) → StaysOn limit finds hurt status body old new
jump-made limit finds hurt status body old run new awaits made =
    subst (λ (from : RunView). (AwaitsJump limit finds from from → StaysOn limit finds hurt status body from new) → StaysOn limit finds hurt status body old new) (sym awaits.same)
    (λ stays. stays (record { same = refl; idle = awaits.idle; jump = awaits.jump })) made
