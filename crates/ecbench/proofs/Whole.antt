-- A whole run, from the flash as it came to the flash and the journal that are handed back.
use Rattle.std.proofs.Common.{◌≡◌, refl, sym, ap, ◌∙◌, subst, ℕ, Bool, true, List, [], ◌∷◌, ◌++◌, length, Option, Some, None, inr}
use Rattle.std.specs.Prelude.{option_map, IfSome, count_by}
use Rattle.flash_dev.specs.Device.{DeviceView}
use Rattle.flash_dev.specs.CutFlash.{CutState, cut_device}
use Rattle.flash_dev.specs.Ranges.{is_flash_size}
use Rattle.ec_types.specs.declared.bus.BusKind.{BusKind}
use Rattle.ec_model.specs.declared.event.Entry.{Entry}
use Rattle.ec_model.specs.Table.{Table, off_table}
use Rattle.ec_model.specs.Guarded.{guarded_bytes}
use Rattle.ec_model.proofs.RunLaws.{run-stays, run-guards}
use Rattle.ec_wire.specs.Calls.{WireView, RunsAlong, RoseBy, is_failed_entry}
use Rattle.bench_wire.specs.Adding.{Extends}
use Rattle.bench_wire.specs.BenchView.{BenchView, wire_view}
use Rattle.bench_words.specs.Words.{Spells, SpellOnce}
use Rattle.ecbench.specs.declared.run.Exit.{Exit}
use Rattle.ecbench.specs.declared.run.Exit.TheVariants.{Done, BadWords, BadFlash, BadLine, SourceFault, SinkFault, ShelfFault, NoMemory, ScriptTooLong}
use Rattle.bench_shelf.specs.Shelves.{File}
use Rattle.ecbench.specs.Endings.{opened, around_of, NothingHappened, HandsBack, EndsOn, Ends, WhereSpelled, CarriesScript, RunsTo, KeepsRo, GuardsRun}
use Rattle.ecbench.specs.Serving.{Drives}
use Rattle.ecbench.proofs.ServedLemmas.{appends-nothing}
use Rattle.ecbench.proofs.Powering.{drives-grew, drives-ends}

-- a run from the flash as it came to the flash as it is
pub runs-to : (kind : BusKind) (pin : Bool) (entries : List Entry) (came left : Option (List ℕ)) (last : Option Table) → RunsAlong entries (option_map (λ bytes. off_table bytes pin kind) came) last → option_map (λ table. table.flash) last ≡ left → RunsTo kind pin entries came left
runs-to kind pin entries None left None runs same = subst (λ (held : Option (List ℕ)). RunsTo kind pin entries None held) same tt
runs-to kind pin entries None left (Some last) runs same = absurd runs
runs-to kind pin entries (Some bytes) left None runs same = absurd runs
runs-to kind pin entries (Some bytes) left (Some last) runs same = subst (λ (held : Option (List ℕ)). RunsTo kind pin entries (Some bytes) held) same (last, runs, refl)

-- no entries
pub runs-none : (kind : BusKind) (pin : Bool) (held : Option (List ℕ)) → RunsTo kind pin [] held held
runs-none kind pin None = tt
runs-none kind pin (Some bytes) = (off_table bytes pin kind, refl, refl)

-- nothing of the flash changed
pub keeps-none : (entries : List Entry) (held : Option (List ℕ)) → KeepsRo entries held held
keeps-none entries None = tt
keeps-none entries (Some bytes) = λ locked keeps. refl

-- a run keeps guarded RO
pub keeps-run : (kind : BusKind) (pin : Bool) (entries : List Entry) (came left : Option (List ℕ)) → IfSome came (λ bytes. is_flash_size (length bytes) ≡ true) → RunsTo kind pin entries came left → pin ≡ true → KeepsRo entries came left
keeps-run kind pin entries None None sized runs asserted = tt
keeps-run kind pin entries None (Some after) sized runs asserted = absurd runs
keeps-run kind pin entries (Some before) None sized runs asserted = absurd runs
keeps-run kind pin entries (Some before) (Some after) sized (last, run, same) asserted = λ locked keeps.
    ap guarded_bytes (sym same)
    ∙ (run-stays (off_table before pin kind) entries last (record { size = sized; power = tt }) (record { pin = asserted; stored = locked; locked = refl }) keeps run).bytes

-- no entries have an entry
no-entry : (before after : List Entry) (entry : Entry) → [] ≡ before ++ entry ∷ after → ⊥
no-entry [] after entry same = cc
no-entry (first ∷ before) after entry same = cc

-- in each of no entries RO is guarded
pub guarded-none : (kind : BusKind) (pin : Bool) (held : Option (List ℕ)) → GuardsRun kind pin [] held
guarded-none kind pin None = tt
guarded-none kind pin (Some bytes) = λ before after entry reached next parts run step. absurd (no-entry before after entry parts)

-- and so it is in each entry of a journal
pub guarded-run : (kind : BusKind) (pin : Bool) (entries : List Entry) (came : Option (List ℕ)) → IfSome came (λ bytes. is_flash_size (length bytes) ≡ true) → GuardsRun kind pin entries came
guarded-run kind pin entries None sized = tt
guarded-run kind pin entries (Some bytes) sized = run-guards (off_table bytes pin kind) entries (record { size = sized; power = tt })

-- what is handed back of a bench: the flash, without the cuts that were armed for it
pub hands-back : (kind : BusKind) (bench : BenchView) (back : DeviceView) (state : CutState) → back ≡ state.inner → cut_device state ≡ bench.controller.device → option_map (λ table. table.flash) bench.controller.table ≡ bench.controller.device.held → HandsBack (wire_view kind bench) back
hands-back kind bench back state inner flash table =
    record {
      flash = ap (λ (device : DeviceView). device.held) inner ∙ ap (λ (device : DeviceView). device.held) flash ∙ sym table;
      faults = ap (λ (device : DeviceView). device.faults) inner ∙ ap (λ (device : DeviceView). device.faults) flash;
      cuts = ap (λ (device : DeviceView). device.cuts) inner ∙ ap (λ (device : DeviceView). device.own_cuts) flash;
    }

-- bytes that are told are as many as an allowed size
told-allowed : (held : Option (List ℕ)) (extent : ℕ) → ((bytes : List ℕ) → held ≡ Some bytes → length bytes ≡ extent) → is_flash_size extent ≡ true → IfSome held (λ bytes. is_flash_size (length bytes) ≡ true)
told-allowed None extent whole allowed = tt
told-allowed (Some bytes) extent whole allowed = ap is_flash_size (whole bytes refl) ∙ allowed

-- all that is said of a script that was carried out
pub run-carries : {files : Option (List File)} → (size : ℕ) (kind : BusKind) (pin : Bool) (exit : Exit) (came back : DeviceView) (bench after : BenchView) (entries : List Entry) (script rest before printed : Option (List ℕ)) → ((bytes : List ℕ) → came.held ≡ Some bytes → length bytes ≡ came.extent) → is_flash_size came.extent ≡ true →
    wire_view kind bench ≡ opened kind pin came → HandsBack (wire_view kind after) back → entries ≡ after.entries → size ≡ came.extent → Drives (record { size = size; files = files }) exit (wire_view kind bench) (wire_view kind after) script rest before printed → CarriesScript files kind pin exit came back script rest before printed entries
run-carries {files = files} size kind pin exit came back bench after entries script rest before printed whole allowed opening hands journal sized drives =
    let new = wire_view kind after in
    let around = around_of files came in
    let sized_as : Drives around exit (wire_view kind bench) new script rest before printed = subst (λ (n : ℕ). Drives (record { size = n; files = files }) exit (wire_view kind bench) new script rest before printed) sized drives in
    let from : Drives around exit (opened kind pin came) new script rest before printed = subst (λ (view : WireView). Drives around exit view new script rest before printed) opening sized_as in
    let grew = drives-grew (around_of files came) exit (opened kind pin came) new script rest before printed from in
    let all : grew.added ≡ entries = sym (journal ∙ grew.extends.entries) in
    let extends : Extends entries (opened kind pin came) new = subst (λ (added : List Entry). Extends added (opened kind pin came) new) all grew.extends in
    let runs = runs-to kind pin entries came.held back.held new.table extends.run (sym hands.flash) in
    record {
      ends = drives-ends files kind pin exit came back new script rest before printed entries journal hands from;
      runs = runs;
      keeps = keeps-run kind pin entries came.held back.held (told-allowed came.held came.extent whole allowed) runs;
      guards = guarded-run kind pin entries came.held (told-allowed came.held came.extent whole allowed);
      faults = subst (λ (now : ℕ). RoseBy (count_by is_failed_entry entries) came.faults now) (sym hands.faults) extends.faults;
    }

-- what an exit says, where the words spell this
pub ends-by : (files : Option (List File)) (exit : Exit) (words : List (List ℕ)) (came back : DeviceView) (path : List ℕ) (bus : BusKind) (pin : Bool) (left rest before after : Option (List ℕ)) (entries : List Entry) → Spells words path bus pin → is_flash_size came.extent ≡ true →
    EndsOn files bus pin exit came back left rest before after entries → Ends files exit words came back left rest before after entries
ends-by files NoMemory words came back path bus pin left rest before after entries spelled sized ends = inr (record { path = path; bus = bus; pin = pin; spelled = spelled; sized = sized; said = ends })
ends-by files BadWords words came back path bus pin left rest before after entries spelled sized ends = absurd ends.plays
ends-by files BadFlash words came back path bus pin left rest before after entries spelled sized ends = absurd ends.plays
ends-by files Done words came back path bus pin left rest before after entries spelled sized ends = record { path = path; bus = bus; pin = pin; spelled = spelled; sized = sized; said = ends }
ends-by files (BadLine number reason) words came back path bus pin left rest before after entries spelled sized ends = record { path = path; bus = bus; pin = pin; spelled = spelled; sized = sized; said = ends }
ends-by files SourceFault words came back path bus pin left rest before after entries spelled sized ends = record { path = path; bus = bus; pin = pin; spelled = spelled; sized = sized; said = ends }
ends-by files SinkFault words came back path bus pin left rest before after entries spelled sized ends = record { path = path; bus = bus; pin = pin; spelled = spelled; sized = sized; said = ends }
ends-by files ShelfFault words came back path bus pin left rest before after entries spelled sized ends = record { path = path; bus = bus; pin = pin; spelled = spelled; sized = sized; said = ends }
ends-by files ScriptTooLong words came back path bus pin left rest before after entries spelled sized ends = record { path = path; bus = bus; pin = pin; spelled = spelled; sized = sized; said = ends }

-- what is said of the bus and the pin that were read is said of whatever the words spell
pub where-spelled : (words : List (List ℕ)) (says : BusKind → Bool → Type 0) (path : List ℕ) (bus : BusKind) (pin : Bool) → SpellOnce words → Spells words path bus pin → says bus pin → WhereSpelled words says
where-spelled words says path bus pin once spelled said = λ other_path other_bus other_pin also.
    let same = once path other_path bus other_bus pin other_pin spelled also in
    subst (λ (b : BusKind). says b other_pin) same.1 (subst (λ (p : Bool). says bus p) same.2 said)

-- nothing happened
pub nothing-at-all : (left before : Option (List ℕ)) → NothingHappened left left before before []
nothing-at-all left before = record { unread = refl; unprinted = appends-nothing before; no_entry = refl }
