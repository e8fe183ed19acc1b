-- Operations on a flash: calls that change bytes, one after the other.
use Rattle.std.specs.Prelude.{◌≡◌, ℕ, zero, suc, ◌+◌, nat_le, if◌then◌else◌, List, [], ◌∷◌, length, take, drop, Some, slice_get, Result, Ok, Err}
use Rattle.flash_dev.specs.Flash.{programmed, erased, Torn}
use Rattle.flash_dev.specs.Ranges.{Range, block_range}
use Rattle.flash_dev.specs.declared.device.DevErr.{DevErr}

-- one call of the flash that changes bytes
pub data Operation : Type 0 where
  Program : (at : ℕ) (bytes : List ℕ) → Operation
  Erase : (block : ℕ) → Operation

-- the range of an operation
abbrev pub operation_range : Operation → Range
operation_range (Program at bytes) = record { at = at; size = length bytes }
operation_range (Erase block) = block_range block

-- the flash after an operation
abbrev pub operated : Operation → List ℕ → List ℕ
operated (Program at bytes) flash = programmed at bytes flash
operated (Erase block) flash = erased block flash

-- the flash after operations, the first of them first
abbrev pub operated_all : List Operation → List ℕ → List ℕ
operated_all [] flash = flash
operated_all (operation ∷ operations) flash = operated_all operations (operated operation flash)

-- at most count pieces of 64 bytes of a write, from a place on, the last one shorter
abbrev pub pieces_up_to : ℕ → ℕ → List ℕ → List Operation
pieces_up_to zero at bytes = []
pieces_up_to (suc count) at bytes =
    if nat_le (length bytes) 64
    then Program at bytes ∷ []
    else Program at (take 64 bytes) ∷ pieces_up_to count (at + 64) (drop 64 bytes)

-- the pieces of a write
abbrev pub pieces : ℕ → List ℕ → List Operation
pieces at bytes = pieces_up_to (length bytes) at bytes

-- Operation k did not end: those before it are done, and its range holds any bytes.
pub record StopsAt (k : ℕ) (operations : List Operation) (old new : List ℕ) : Type 0 where
  pub stopped : Operation
  pub is_there : slice_get operations k ≡ Some stopped
  pub torn : Torn (operation_range stopped).at (operation_range stopped).size (operated_all (take k operations) old) new

-- the first operations were begun, so many of them: all are done, or the last of those did not end
abbrev pub Began : {T : Type 0} → ℕ → List Operation → List ℕ → List ℕ → Result T DevErr → Type 0
Began begun operations old new (Ok x) = (begun ≡ length operations) × (new ≡ operated_all operations old)
Began begun operations old new (Err error) = (place : ℕ) × (begun ≡ suc place) × StopsAt place operations old new
