-- Faults, and what kind each is.
use Rattle.std.specs.Prelude.{Result, Ok, Err}
use Rattle.ec_types.specs.declared.why.Why.{Why}
use Rattle.ec_types.specs.declared.why.Why.TheVariants as why
use Rattle.script_words.specs.declared.fault.Fault.{Fault}
use Rattle.script_words.specs.declared.fault.Wanted.{Wanted}
use Rattle.script_words.specs.declared.fault.Wanted.TheVariants as wanted

-- the kind of fault that a line has which is not what was expected
abbrev pub kind_of : Wanted → Why
kind_of wanted.ShortLine = why.TooLong
kind_of wanted.Printable = why.Ascii
kind_of wanted.FirstWord = why.Word
kind_of (wanted.Words count) = why.Count
kind_of wanted.ProtectWords = why.Count
kind_of wanted.HashWords = why.Count
kind_of wanted.CutWords = why.Count
kind_of wanted.Switch = why.Word
kind_of wanted.Cause = why.Word
kind_of wanted.WorldEvent = why.Word
kind_of wanted.Region = why.Word
kind_of wanted.Protection = why.Word
kind_of wanted.Bits = why.Word
kind_of wanted.HashAbort = why.Word
kind_of wanted.HashStart = why.Word
kind_of wanted.HashStartOrRange = why.Word
kind_of wanted.Image = why.Word
kind_of wanted.Reboot = why.Word
kind_of (wanted.Number least most) = why.Number
kind_of (wanted.Bytes most) = why.Hex
kind_of (wanted.SpiBytes most) = why.Hex
kind_of wanted.Name = why.Hex
kind_of wanted.Ports = why.Number

-- what was read, or the kind of the first fault
abbrev pub by_kind : {A : Type 0} → Result A Fault → Result A Why
by_kind (Ok value) = Ok value
by_kind (Err fault) = Err (kind_of fault.wanted)
