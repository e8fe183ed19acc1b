-- A controller that is on, whichever image runs.
use Rattle.ec_boot.specs.States.{RunView}
use Rattle.ec_boot.specs.declared.awake.Awake.{Awake}
use Rattle.ec_boot.specs.declared.awake.Awake.TheVariants.{Ro, Rw}

-- a controller that is on, as its image shows it
abbrev pub run_of : {F : Type 0} → Awake F → RunView
run_of (Ro run) = run
run_of (Rw run) = run
