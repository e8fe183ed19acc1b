-- The command that jumps and resets.
use Rattle.std.specs.Prelude.{ℕ, Bool, true, not, ◌&&◌, ◌||◌, ◌==◌, if◌then◌else◌, List, slice_index}
use Rattle.ec_types.specs.declared.image.ImageCopy.{ImageCopy}
use Rattle.ec_types.specs.declared.image.ImageCopy.TheVariants.{Ro, Rw}
use Rattle.ec_model.specs.Table.{Core}
use Rattle.ec_model.specs.Jump.{same_copy, is_denied, has_vector, reads_head, jumped}
use Rattle.ec_model.specs.Answer.{Outcome, Restarts, refused, done}

-- A jump is asked for. To the image that runs it does nothing; it may be denied, or meet a vector outside the region.
abbrev pub jump_row : ImageCopy → Core → Outcome
jump_row target core =
    if same_copy target core.live.copy then done core else
    if is_denied core target then refused core 4 else
    if not (has_vector core.flash target) then refused core 2 else
    done (jumped target core)

-- REBOOT_EC: cmd is at 0, and the flags at 1
abbrev pub reboot_row : Core → List ℕ → Outcome
reboot_row core body =
    if not (slice_index body 1 == 0) then refused core 3 else
    if slice_index body 0 == 0 then done core else
    if slice_index body 0 == 1 then jump_row Ro core else
    if slice_index body 0 == 2 then jump_row Rw core else
    if slice_index body 0 == 4 then Restarts else
    if slice_index body 0 == 5 then done (record core { live = record core.live { jump_off = true } }) else
    refused core 3

-- whether a REBOOT_EC looks at an image's head
abbrev pub reboot_reads : Core → List ℕ → Bool
reboot_reads core body =
    (slice_index body 1 == 0)
    && (((slice_index body 0 == 1) && reads_head Ro core) || ((slice_index body 0 == 2) && reads_head Rw core))
