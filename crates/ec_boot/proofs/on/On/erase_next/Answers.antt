use Rattle.std.proofs.Common.{None, Ok, Err, ap}
use Rattle.flash_ctl.specs.declared.CtlErr.TheVariants.{Device}
use Rattle.ec_boot.specs.States.{RunView}
use Rattle.ec_boot.proofs.EraseLemmas.{next-unlocked, failed-told, erased-on, failed-on, erase-guard}
use Rattle.ec_boot.proofs.on.On.erase_next.Goals as goal

pub erase_free-requires-clause-free : goal.erase_free-requires-clause-free
erase_free-requires-clause-free g c =
    next-unlocked c.self.inside.ctl c.self.inside.pin c.self.inside.lasting c.self.inside.hash c.args.job c.self.invariant (rw (ap (λ (run : RunView). run.live.erase) c.self.view_is) c.requires)

pub invariant_of-self : goal.invariant_of-self
invariant_of-self g c =
    let free = next-unlocked c.self.inside.ctl c.self.inside.pin c.self.inside.lasting c.self.inside.hash c.args.job c.self.invariant (rw (ap (λ (run : RunView). run.live.erase) c.self.view_is) c.requires) in
    erased-on c.args.job c.self.inside.ctl c.erase_free.new.self c.self.inside.pin c.self.inside.lasting c.self.inside.hash c.touched.new.self (Ok c.in-Ok.field-0) c.left-self-inside.result c.saved-self-inside.result c.self.invariant (rw (ap (λ (run : RunView). run.live.erase) c.self.view_is) c.requires) (free, c.in-Ok.ensures.change, c.erase_free.ensures.locks)
    (record { over = c.touched.ensures.over; beside = c.touched.ensures.beside; stands = c.touched.ensures.stands }) c.left-self-inside.ensures c.saved-self-inside.ensures

pub invariant_of-self-in-Err : goal.invariant_of-self-in-Err
invariant_of-self-in-Err g c =
    let free = next-unlocked c.self.inside.ctl c.self.inside.pin c.self.inside.lasting c.self.inside.hash c.args.job c.self.invariant (rw (ap (λ (run : RunView). run.live.erase) c.self.view_is) c.requires) in
    failed-on c.args.job c.self.inside.ctl c.erase_free.new.self c.self.inside.pin c.self.inside.lasting c.self.inside.hash c.touched-in-Err.new.self (Err (Device c.in-Err.error)) c.self.invariant (free, c.in-Err.ensures.change, c.erase_free.ensures.locks)
    (record { over = c.touched-in-Err.ensures.over; beside = c.touched-in-Err.ensures.beside; stands = c.touched-in-Err.ensures.stands })

pub returns-in-Ok-clause-guard : goal.returns-in-Ok-clause-guard
returns-in-Ok-clause-guard g c =
    let free = next-unlocked c.self.inside.ctl c.self.inside.pin c.self.inside.lasting c.self.inside.hash c.args.job c.self.invariant (rw (ap (λ (run : RunView). run.live.erase) c.self.view_is) c.requires) in
    rw (← c.self.view_is)
    (erase-guard c.args.job c.self.inside.ctl c.erase_free.new.self c.self.inside.pin c.self.inside.lasting c.self.inside.hash c.touched.new.self (Ok c.in-Ok.field-0) c.left-self-inside.result c.saved-self-inside.result c.self.invariant (rw (ap (λ (run : RunView). run.live.erase) c.self.view_is) c.requires) c.geometry-size.ensures.whole (free, c.in-Ok.ensures.change, c.erase_free.ensures.locks)
    (record { over = c.touched.ensures.over; beside = c.touched.ensures.beside; stands = c.touched.ensures.stands }))

pub returns-in-Err-clause-told : goal.returns-in-Err-clause-told
returns-in-Err-clause-told g c =
    rw (← c.self.view_is)
    (failed-told _ c.in-Err.error c.args.job c.self.inside.ctl c.erase_free.new.self c.self.inside.pin c.self.inside.lasting c.self.inside.hash c.touched-in-Err.new.self
    (record { over = c.touched-in-Err.ensures.over; beside = c.touched-in-Err.ensures.beside; stands = c.touched-in-Err.ensures.stands }) c.in-Err.ensures.change)

pub returns-in-Err-clause-guard : goal.returns-in-Err-clause-guard
returns-in-Err-clause-guard g c =
    let free = next-unlocked c.self.inside.ctl c.self.inside.pin c.self.inside.lasting c.self.inside.hash c.args.job c.self.invariant (rw (ap (λ (run : RunView). run.live.erase) c.self.view_is) c.requires) in
    rw (← c.self.view_is)
    (erase-guard c.args.job c.self.inside.ctl c.erase_free.new.self c.self.inside.pin c.self.inside.lasting c.self.inside.hash c.touched-in-Err.new.self (Err (Device c.in-Err.error)) None 2 c.self.invariant (rw (ap (λ (run : RunView). run.live.erase) c.self.view_is) c.requires) c.geometry-size.ensures.whole (free, c.in-Err.ensures.change, c.erase_free.ensures.locks)
    (record { over = c.touched-in-Err.ensures.over; beside = c.touched-in-Err.ensures.beside; stands = c.touched-in-Err.ensures.stands }))
