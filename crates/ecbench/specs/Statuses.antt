-- The exit statuses of the program, behind 1 for a flash file that cannot be opened.
use Rattle.std.specs.Prelude.{ℕ}
use Rattle.ecbench.specs.declared.run.Exit.{Exit}
use Rattle.ecbench.specs.declared.run.Exit.TheVariants.{Done, BadWords, BadFlash, BadLine, SourceFault, SinkFault, ShelfFault, NoMemory, ScriptTooLong}

-- the exit status of each end of a run
abbrev pub exit_status : Exit → ℕ
exit_status Done = 0
exit_status BadWords = 2
exit_status BadFlash = 3
exit_status (BadLine line reason) = 4
exit_status SourceFault = 5
exit_status SinkFault = 6
exit_status ShelfFault = 7
exit_status NoMemory = 8
exit_status ScriptTooLong = 9
