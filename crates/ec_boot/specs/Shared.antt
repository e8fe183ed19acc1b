-- What both images share, by its parts.
use Rattle.std.specs.Prelude.{◌≡◌, ℕ, ◌==◌, Bool, true, false, List, [], ◌∷◌, IsTrue, IsFalse, IfSome, Option, Some, None, slice_index, bit_or, if◌then◌else◌, Result, Ok, Err}
use Rattle.ec_types.specs.declared.image.ImageCopy.{ImageCopy}
use Rattle.ec_types.specs.declared.image.KeptHash.{KeptHash}
use Rattle.flash_dev.specs.Flash.{Torn}
use Rattle.flash_ctl.specs.Locks.{CtlView}
use Rattle.flash_ctl.specs.declared.CtlErr.{CtlErr}
use Rattle.flash_ctl.specs.declared.CtlErr.TheVariants.{Locked, Device}
use Rattle.jump_data.specs.declared.kept.JumpData.{JumpData}
use Rattle.jump_data.specs.declared.kept.JumpData.TheVariants.{Old, Tagged}
use Rattle.jump_data.specs.declared.kept.TagLayout.{TagLayout}
use Rattle.jump_data.specs.declared.kept.TagLayout.TheVariants.{V2, V3}
use Rattle.ec_model.specs.declared.live.Live.{Live}
use Rattle.ec_model.specs.declared.live.HashView.{HashView}
use Rattle.ec_model.specs.declared.live.HashView.TheVariants.{Idle, Done}
use Rattle.ec_model.specs.Hash.{is_hash_over}
use Rattle.ec_model.specs.Jump.{sysjump}
use Rattle.ec_model.specs.Ranges.{Range, is_flash_size}
use Rattle.vboot_hash.specs.Hashing.{HashState, Stands, IsNoHash}
use Rattle.ec_boot.specs.declared.lasting.Lasting.{Lasting}
use Rattle.ec_boot.specs.States.{RunView, IsLiveValid}

-- what lasts until the next reset, with the hash that is shown
abbrev pub live_of : Lasting → HashView → Live
live_of lasting hash =
    record {
      copy = lasting.copy;
      flags = lasting.flags;
      jumped = lasting.jumped;
      ro_now = lasting.protect.ro_now;
      all_now = lasting.protect.all_now;
      pstate_bad = lasting.protect.bad;
      jump_off = lasting.jump_off;
      hash = hash;
      erase = lasting.erase;
      saved = lasting.saved;
    }

-- a controller that is on, by its parts
abbrev pub run_by : CtlView → Bool → Lasting → HashState → RunView
run_by ctl pin lasting hash =
    record { device = ctl.device; locks = ctl.locks; pin = pin; live = live_of lasting hash.shown; nonce = hash.nonce }

-- a hash stands for some nonce, and for the flash as it is
abbrev pub IsMeant : HashState → List ℕ → Type 0
IsMeant hash flash = (nonce : List ℕ) × Stands hash nonce flash

-- what holds of each controller that is on
pub record IsOn (ctl : CtlView) (pin : Bool) (lasting : Lasting) (hash : HashState) : Type 0 where
  pub size : IsTrue (is_flash_size ctl.device.extent)
  pub valid : IsLiveValid (run_by ctl pin lasting hash)
  pub meant : IfSome ctl.device.held (IsMeant hash)

-- an operation on a range drops a hash over it, and leaves any other
pub record Touches (range : Range) (old new : HashState) : Type 0 where
  pub over : IsTrue (is_hash_over range old.shown) → IsNoHash new
  pub beside : IsFalse (is_hash_over range old.shown) → new ≡ old
  pub stands : (nonce before after : List ℕ) → Torn range.at range.size before after → Stands old nonce before → Stands new nonce after

-- a hash behind an operation that may have been refused by a lock, and then was not called
abbrev pub IsTouchedBy : {T : Type 0} → Result T CtlErr → Range → HashState → HashState → Type 0
IsTouchedBy (Ok x) range old new = Touches range old new
IsTouchedBy (Err Locked) range old new = new ≡ old
IsTouchedBy (Err (Device error)) range old new = Touches range old new

-- a switch as a number
abbrev pub switch : Bool → ℕ
switch true = 1
switch false = 0

-- a hash that is kept: a finished one
abbrev pub finished : HashView → Option KeptHash
finished (Done at size digest) = Some (record { at = at; size = size; digest = digest })
finished other = None

-- the jump data of what lasts: the flags alone, or in a layout with tags
abbrev pub data_of : Option TagLayout → Lasting → HashView → JumpData
data_of None lasting hash = Old lasting.flags
data_of (Some layout) lasting hash =
    Tagged layout lasting.flags
    (switch lasting.protect.ro_now ∷ switch lasting.protect.all_now ∷ switch lasting.protect.bad ∷ switch lasting.jump_off ∷ [])
    (finished hash) lasting.saved

-- what lasts behind a jump, by the jump data, and by the locks where that does not tell them
abbrev pub lasting_of : ImageCopy → (ro all : Bool) → JumpData → Lasting
lasting_of target ro all (Old flags) =
    record {
      copy = target;
      flags = bit_or flags sysjump;
      jumped = true;
      protect = record { ro_now = ro; all_now = all; bad = false };
      jump_off = false;
      erase = None;
      saved = 9;
    }
lasting_of target ro all (Tagged layout flags protect hash saved) =
    record {
      copy = target;
      flags = bit_or flags sysjump;
      jumped = true;
      protect = record { ro_now = slice_index protect 0 == 1; all_now = slice_index protect 1 == 1; bad = slice_index protect 2 == 1 };
      jump_off = slice_index protect 3 == 1;
      erase = None;
      saved = saved;
    }

-- the hash that was kept
abbrev pub kept_of : JumpData → Option KeptHash
kept_of (Old flags) = None
kept_of (Tagged layout flags protect hash saved) = hash

-- a hash that was kept is shown as done, and else there is none
abbrev pub shown_of : Option KeptHash → HashView
shown_of None = Idle
shown_of (Some kept) = Done kept.at kept.size kept.digest

-- the layout of the jump data that RO writes, by its byte: 1 says that there are no tags
abbrev pub layout_by : ℕ → Option TagLayout
layout_by byte = if byte == 1 then None else if byte == 2 then Some V2 else Some V3

-- whether a hash is over a range, if there is one
abbrev pub is_over_some : Option (ℕ × ℕ) → HashView → Bool
is_over_some None hash = false
is_over_some (Some range) hash = is_hash_over (record { at = range.0; size = range.1 }) hash

-- a hash over a range, if there is one, is dropped, and any other stays
pub record TouchesIf (range : Option (ℕ × ℕ)) (old new : HashState) : Type 0 where
  pub over : IsTrue (is_over_some range old.shown) → IsNoHash new
  pub beside : IsFalse (is_over_some range old.shown) → new ≡ old
