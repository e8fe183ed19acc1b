-- A jump from one image to the other.
use Rattle.std.specs.Prelude.{ℕ, ◌+◌, Bool, true, false, not, ◌&&◌, ◌==◌, nat_lt, nat_le, if◌then◌else◌, List, [], length, slice_index, bit_or}
use Rattle.ec_types.specs.LittleEndian.{u32_at}
use Rattle.ec_types.specs.declared.image.ImageCopy.{ImageCopy}
use Rattle.ec_types.specs.declared.image.ImageCopy.TheVariants.{Ro, Rw}
use Rattle.ec_model.specs.declared.live.HashView.{HashView}
use Rattle.ec_model.specs.declared.live.HashView.TheVariants.{Idle, Done}
use Rattle.ec_model.specs.declared.live.Live.{Live}
use Rattle.ec_model.specs.Ranges.{Range, copy_range, part}
use Rattle.ec_model.specs.Table.{Core, is_ro}

-- whether two images are the same
abbrev pub same_copy : ImageCopy → ImageCopy → Bool
same_copy Ro Ro = true
same_copy Rw Rw = true
same_copy other another = false

-- whether the controller is locked: the RO blocks are, and the pin is asserted
abbrev pub is_locked : Core → Bool
is_locked core = core.live.ro_now && core.pin

-- whether a locked controller lets a jump to this image pass: the first one, from RO to RW
abbrev pub is_first_jump : Live → ImageCopy → Bool
is_first_jump live Rw = is_ro live.copy && not live.jumped && not live.jump_off
is_first_jump live Ro = false

-- whether a jump to the other image is denied
abbrev pub is_denied : Core → ImageCopy → Bool
is_denied core target = is_locked core && not (is_first_jump core.live target)

-- whether a reset vector lies in a range
abbrev pub vector_in : Range → ℕ → Bool
vector_in range vector = nat_le range.at vector && nat_lt vector (range.at + range.size)

-- whether an image's reset vector lies in its own region
abbrev pub has_vector : List ℕ → ImageCopy → Bool
has_vector flash copy = vector_in (copy_range copy (length flash)) (u32_at 4 (part (copy_range copy (length flash)) flash))

-- whether a jump looks at the target's head, behind the first two tests
abbrev pub reads_head : ImageCopy → Core → Bool
reads_head target core = not (same_copy target core.live.copy) && not (is_denied core target)

-- the flag SYSJUMP: the image runs by a jump
abbrev pub sysjump : ℕ
sysjump = 0x400

-- the hash that is kept: a finished one
abbrev pub kept_hash : HashView → HashView
kept_hash (Done at size digest) = Done at size digest
kept_hash other = Idle

-- the version of the jump data that an image writes: RO's byte at 40 says 1 or 2, and any other means 3, which RW always writes
abbrev pub jump_version : List ℕ → ImageCopy → ℕ
jump_version flash Rw = 3
jump_version flash Ro =
    if slice_index flash 40 == 1 then 1 else
    if slice_index flash 40 == 2 then 2 else
    3

-- whether the jump data that an image writes keeps more than the locks and the flags: that of version 1 does not
abbrev pub keeps_all : List ℕ → ImageCopy → Bool
keeps_all flash copy = not (jump_version flash copy == 1)

-- the live state that jump data keeps
abbrev pub kept_live : Bool → Live → Live
kept_live all live =
    record live {
      pstate_bad = all && live.pstate_bad;
      jump_off = all && live.jump_off;
      saved = if all then live.saved else 9;
      hash = if all then kept_hash live.hash else Idle;
    }

-- the live state behind a jump, by what was kept: the target runs
abbrev pub arrived : ImageCopy → Live → Live
arrived target kept = record kept { copy = target; flags = bit_or kept.flags sysjump; jumped = true }

-- the core behind a jump
abbrev pub jumped : ImageCopy → Core → Core
jumped target core = record core { live = arrived target (kept_live (keeps_all core.flash core.live.copy) core.live); nonce = [] }
