-- A line that syncs: what it does, and what it prints.
use Rattle.std.specs.Prelude.{◌≡◌, ℕ, Bool, true, false, List, [], ◌++◌, take, codes, Option, IfSome, Result, Ok, Err}
use Rattle.hex.specs.Hex.{encode_lower}
use Rattle.ec_types.specs.declared.image.Fit.{Fit}
use Rattle.ec_types.specs.declared.image.Fit.TheVariants.{Yes, Short, Long, Vector}
use Rattle.ec_model.specs.Image.{expected}
use Rattle.ec_model.specs.Ranges.{rw_range}
use Rattle.ec_wire.specs.Calls.{WireView}
use Rattle.bench_io.specs.Texts.{hex_text, printed}
use Rattle.bench_io.specs.Printing.{Appends, AppendsFront}
use Rattle.bench_shelf.specs.Shelves.{File, IsFound, IsWithin}
use Rattle.bench_io.specs.declared.printing.PrintErr.{PrintErr}
use Rattle.bench_io.specs.declared.printing.PrintErr.TheVariants as print_err
use Rattle.bench_shelf.specs.declared.shelf.ShelfErr.{ShelfErr}
use Rattle.bench_shelf.specs.declared.shelf.ShelfErr.TheVariants as shelf_err
use Rattle.bench_shelf.specs.declared.shelf.Loaded.{Loaded}
use Rattle.bench_shelf.specs.declared.shelf.Loaded.TheVariants.{Whole, TooLong}
use Rattle.sync_rules.specs.declared.ending.SyncEnd.{SyncEnd}
use Rattle.sync_rules.specs.declared.ending.SyncEnd.TheVariants.{Done, BadImage, Locked, NoPower, Disturbed, NoMemory}
use Rattle.sync_engine.specs.OnWire.{SyncsInRoom}
use Rattle.sync_lines.specs.declared.line.SyncLineErr.{SyncLineErr}
use Rattle.sync_lines.specs.declared.line.SyncLineErr.TheVariants as refused

-- the most bytes that an image has on the shelf
abbrev pub most_image : ℕ
most_image = 2097152

-- the SHA-256 of RW with the image in it; of one that is longer, with as much of it as there is room for
abbrev pub installed : List ℕ → ℕ → List ℕ
installed image size = expected (take (rw_range size).size image) size

-- what is said of an image that cannot be installed. A sync refuses none that fits
abbrev pub fit_text : Fit → List ℕ
fit_text Yes = codes "fits"
fit_text Short = codes "too short"
fit_text Long = codes "too long"
fit_text Vector = codes "vector outside RW"

-- what is said of a sync that is done, before the digest
abbrev pub done_text : Bool → List ℕ
done_text true = codes "sync: done, RW written, sha256 "
done_text false = codes "sync: done, RW kept, sha256 "

-- what is said of a sync, by how it ended
abbrev pub sync_text : (image : List ℕ) → (size : ℕ) → SyncEnd → List ℕ
sync_text image size (Done wrote) = done_text wrote ++ encode_lower (installed image size)
sync_text image size (BadImage fit) = codes "sync: image " ++ fit_text fit
sync_text image size (Locked flags) = codes "sync: locked, flags " ++ hex_text flags
sync_text image size NoPower = codes "sync: no power"
sync_text image size Disturbed = codes "sync: disturbed"
sync_text image size NoMemory = []

-- what was done with what the shelf gave, on a wire whose flash has this size: the image was synced, or nothing was done with
-- one that is too long; and the text without its line feed
abbrev pub SyncsLoaded : Loaded → (size : ℕ) → (text : List ℕ) → WireView → WireView → Type 0
SyncsLoaded (Whole image) size text old new =
    (end : SyncEnd) × (¬ (end ≡ NoMemory)) × SyncsInRoom image end old new × (text ≡ sync_text image size end)
SyncsLoaded TooLong size text old new = (new ≡ old) × (text ≡ codes "sync: image too long")

-- the shelf gave what it has of this name, and that was synced; this is the line's text without its line feed
pub record SyncsName (files : Option (List File)) (size : ℕ) (name text : List ℕ) (old new : WireView) : Type 0 where
  pub loaded : Loaded
  pub found : IfSome files (λ all. IsFound (Ok loaded) name most_image all)
  pub within : IsWithin (Ok loaded) most_image
  pub synced : SyncsLoaded loaded size text old new

-- the line was carried out and its text printed, all of it or at a fault of the sink a front of it; or the shelf failed, or
-- memory was refused, and nothing happened
abbrev pub RunsSync : Result (Unit {0}) SyncLineErr → Option (List File) → (size : ℕ) → (name : List ℕ) → WireView → WireView → (before after : Option (List ℕ)) → Type 0
RunsSync (Ok done) files size name old new before after =
    (text : List ℕ) × SyncsName files size name text old new × Appends (printed text) before after
RunsSync (Err refused.Sink) files size name old new before after =
    (text : List ℕ) × SyncsName files size name text old new × AppendsFront (printed text) before after
RunsSync (Err refused.Shelf) files size name old new before after = (new ≡ old) × Appends [] before after
RunsSync (Err refused.NoMemory) files size name old new before after = (new ≡ old) × Appends [] before after

-- what was done with what the shelf gave, or nothing, where memory was refused
abbrev pub TriesLoaded : Result (Unit {0}) SyncLineErr → Loaded → (size : ℕ) → (text : List ℕ) → WireView → WireView → Type 0
TriesLoaded (Ok done) loaded size text old new = SyncsLoaded loaded size text old new
TriesLoaded (Err refused.NoMemory) loaded size text old new = new ≡ old
TriesLoaded (Err other) loaded size text old new = ⊥

-- why the line is not carried out, where the shelf gives nothing
abbrev pub error_of_shelf : ShelfErr → SyncLineErr
error_of_shelf shelf_err.Failed = refused.Shelf
error_of_shelf shelf_err.NoMemory = refused.NoMemory

-- why it is not printed whole
abbrev pub error_of_print : PrintErr → SyncLineErr
error_of_print print_err.Sink = refused.Sink
error_of_print print_err.NoMemory = refused.NoMemory
