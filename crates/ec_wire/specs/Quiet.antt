-- Calls of a wire that nothing disturbs.
use Rattle.std.specs.Prelude.{◌≡◌, []}
use Rattle.flash_dev.specs.Counts.{Rose}
use Rattle.ec_model.specs.declared.event.Event.TheVariants.{Access as AccessEvent, Tick}
use Rattle.ec_model.specs.declared.event.Entry.{Entry}
use Rattle.ec_model.specs.declared.event.Entry.TheVariants.{Step}
use Rattle.flash_dev.specs.declared.hurt.Hurt.TheVariants.{Whole}
use Rattle.ec_model.specs.HostCalls.{HostCall, Did, Waited}
use Rattle.ec_model.specs.Upset.{access_byte}
use Rattle.ec_wire.specs.Calls.{WireView}

-- nothing of the world was armed, and the flash counted neither a fault nor a cut
pub record StaysCalm (old new : WireView) : Type 0 where
  pub disarmed : old.armed ≡ []
  pub no_fault : ¬ Rose old.faults new.faults
  pub no_cut : ¬ Rose old.cuts new.cuts

-- the entry of a call that nothing disturbs
abbrev pub quiet_entry : HostCall → Entry
quiet_entry (Did access byte) = Step (AccessEvent access) byte (access_byte access) byte Whole
quiet_entry Waited = Step Tick 0 0 0 Whole
