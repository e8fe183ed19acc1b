-- What each exit of a run says of the words, the flash, the script, the printed bytes and the journal.
use Rattle.std.specs.Prelude.{◌≡◌, ◌⊎◌, ℕ, Bool, true, false, List, [], Option, None, option_map, IsTrue, IsFalse, IfSome, count_by}
use Rattle.ec_types.specs.declared.bus.BusKind.{BusKind}
use Rattle.flash_dev.specs.Told.{Changes}
use Rattle.flash_dev.specs.Device.{DeviceView}
use Rattle.ec_model.specs.Ranges.{is_flash_size}
use Rattle.ec_model.specs.Table.{Table, off_table}
use Rattle.ec_model.specs.Run.{IsRun, opening}
use Rattle.ec_model.specs.Stored.{stored}
use Rattle.ec_model.specs.Guarded.{KeepsPin, RunsGuarded, guarded_bytes}
use Rattle.ec_model.specs.declared.event.Entry.{Entry}
use Rattle.ec_model.specs.declared.event.WorldEvent.TheVariants.{Power}
use Rattle.ec_wire.specs.Calls.{WireView, RoseBy, is_failed_entry, with_spare}
use Rattle.bench_wire.specs.Adding.{Happens}
use Rattle.ectool_lines.specs.Running.{Appends}
use Rattle.bench_words.specs.Words.{InGrammar, Spells}
use Rattle.ecbench.specs.declared.run.Exit.{Exit}
use Rattle.ecbench.specs.declared.run.Exit.TheVariants.{BadWords, BadFlash, NoMemory}
use Rattle.bench_shelf.specs.Shelves.{File}
use Rattle.ecbench.specs.Lines.{Around}
use Rattle.ecbench.specs.Scripts.{PlaysUpTo}

-- the words spell a bus and the pin, the flash has a size that a controller's flash may have, and of these two this is said
pub record StartsAs (words : List (List ℕ)) (size : ℕ) (says : BusKind → Bool → Type 0) : Type 0 where
  pub path : List ℕ
  pub bus : BusKind
  pub pin : Bool
  pub spelled : Spells words path bus pin
  pub sized : IsTrue (is_flash_size size)
  pub said : says bus pin

-- of whatever bus and pin the words spell, this is said
abbrev pub WhereSpelled : List (List ℕ) → (BusKind → Bool → Type 0) → Type 0
WhereSpelled words says = (path : List ℕ) (bus : BusKind) (pin : Bool) → Spells words path bus pin → says bus pin

-- a bench before a script: its controller is off, with the flash as it came, nothing happened, and nothing is armed
abbrev pub opened : BusKind → Bool → DeviceView → WireView
opened bus pin came = record {
  entries = [];
  spare = 0;
  on = false;
  bus = bus;
  armed = [];
  cut = None;
  faults = came.faults;
  cuts = came.cuts;
  own_cuts = came.cuts;
  table = option_map (λ bytes. off_table bytes pin bus) came.held;
}

-- power came; a read of the flash may have failed in the boot
pub record PowersOn (old new : WireView) : Type 0 where
  pub happens : Happens (Power true) old new
  pub on : new.on ≡ true

-- what is left of a bench: its flash, with what that counted
pub record HandsBack (last : WireView) (back : DeviceView) : Type 0 where
  pub flash : back.held ≡ option_map (λ table. table.flash) last.table
  pub faults : back.faults ≡ last.faults
  pub cuts : back.cuts ≡ last.own_cuts

-- what is around a script: the flash as it came, and the shelf
abbrev pub around_of : Option (List File) → DeviceView → Around
around_of files came = record { size = came.extent; files = files }

-- room was made, power came, and the script was carried out as far as the exit says
pub record Begins (files : Option (List File)) (bus : BusKind) (pin : Bool) (exit : Exit) (came back : DeviceView) (left rest before after : Option (List ℕ)) (entries : List Entry) : Type 0 where
  pub spare : ℕ
  pub powered : WireView
  pub last : WireView
  pub powers : PowersOn (with_spare spare (opened bus pin came)) powered
  pub plays : PlaysUpTo (around_of files came) powered.entries exit powered last left rest before after
  pub entries_are : entries ≡ last.entries
  pub hands : HandsBack last back

-- nothing happened at all
pub record NothingHappened (left rest before after : Option (List ℕ)) (entries : List Entry) : Type 0 where
  pub unread : rest ≡ left
  pub unprinted : Appends [] before after
  pub no_entry : entries ≡ []

-- what an exit says of a script on a controller that is off at first: power came and it was carried out, or memory was refused
-- before that
abbrev pub EndsOn : Option (List File) → BusKind → Bool → Exit → (came back : DeviceView) → (left rest before after : Option (List ℕ)) → List Entry → Type 0
EndsOn files bus pin NoMemory came back left rest before after entries =
    NothingHappened left rest before after entries ⊎ Begins files bus pin NoMemory came back left rest before after entries
EndsOn files bus pin exit came back left rest before after entries = Begins files bus pin exit came back left rest before after entries

-- what an exit says: of the shelf, of the words and the flash as it came and is handed back, of what the source had and has left,
-- of what was printed before and is now, and of the journal
abbrev pub Ends : Option (List File) → Exit → List (List ℕ) → (came back : DeviceView) → (left rest before after : Option (List ℕ)) → List Entry → Type 0
Ends files BadWords words came back left rest before after entries =
    (¬ InGrammar words) × NothingHappened left rest before after entries
Ends files BadFlash words came back left rest before after entries =
    InGrammar words × IsFalse (is_flash_size came.extent) × NothingHappened left rest before after entries
Ends files NoMemory words came back left rest before after entries =
    (InGrammar words × NothingHappened left rest before after entries)
    ⊎ StartsAs words came.extent (λ bus pin. EndsOn files bus pin NoMemory came back left rest before after entries)
Ends files exit words came back left rest before after entries =
    StartsAs words came.extent (λ bus pin. EndsOn files bus pin exit came back left rest before after entries)

-- the journal is a run of the controller, from its flash as it came to the flash as it is handed back
abbrev pub RunsTo : BusKind → Bool → List Entry → Option (List ℕ) → Option (List ℕ) → Type 0
RunsTo bus pin entries = Changes (λ before after. (last : Table) × IsRun (opening before pin bus) entries last × (last.flash ≡ after))

-- where the flash as it came has the lock of RO at boot stored, and no entry takes the pin away, the guarded bytes are handed
-- back as they came
abbrev pub KeepsRo : List Entry → Option (List ℕ) → Option (List ℕ) → Type 0
KeepsRo entries =
    Changes (λ before after. IsTrue (stored before).ro → KeepsPin entries → guarded_bytes after ≡ guarded_bytes before)

-- in each entry of the journal RO is guarded, once it is so
abbrev pub GuardsRun : BusKind → Bool → List Entry → Option (List ℕ) → Type 0
GuardsRun bus pin entries held = IfSome held (λ bytes. RunsGuarded (opening bytes pin bus) entries)

-- a script was carried out on a controller on this bus and with this pin, as far as the exit says; the journal is a run, and keeps
-- guarded RO; and what the flash counted
pub record CarriesScript (files : Option (List File)) (bus : BusKind) (pin : Bool) (exit : Exit) (came back : DeviceView) (left rest before after : Option (List ℕ)) (entries : List Entry) : Type 0 where
  pub ends : EndsOn files bus pin exit came back left rest before after entries
  pub runs : RunsTo bus pin entries came.held back.held
  pub keeps : IsTrue pin → KeepsRo entries came.held back.held
  pub guards : GuardsRun bus pin entries came.held
  pub faults : RoseBy (count_by is_failed_entry entries) came.faults back.faults
