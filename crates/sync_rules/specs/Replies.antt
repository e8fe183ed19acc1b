-- What the replies of a sync's commands say. A success whose body has another length came by way of a saved status, and says nothing.
use Rattle.std.specs.Prelude.{ℕ, ◌==◌, ◌&&◌, not, Bool, true, false, if◌then◌else◌, List, length, take, drop, slice_index, Option, Some, None, Result, Ok, Err}
use Rattle.std.specs.Str.{bytes_eq}
use Rattle.ec_types.specs.LittleEndian.{u16_at, u32_at, has_bit}
use Rattle.ec_types.specs.declared.image.Fit.{Fit}
use Rattle.ec_types.specs.declared.image.Fit.TheVariants.{Yes}
use Rattle.ec_model.specs.Image.{fit_of, expected}
use Rattle.ec_model.specs.Ranges.{is_flash_size, rw_range}
use Rattle.ec_model.specs.Tries.{Said, Answered, SaidNoPower, SaidUpset, SaidShort}
use Rattle.sync_rules.specs.declared.ending.Stop.{Stop}
use Rattle.sync_rules.specs.declared.ending.Stop.TheVariants.{Lost, NoPower, Misfit, Locked}
use Rattle.sync_rules.specs.declared.ending.Aim.{Aim}
use Rattle.sync_rules.specs.declared.ending.Jump.{Jump}
use Rattle.sync_rules.specs.declared.ending.Jump.TheVariants.{Jumped, Denied, Failed}

-- a value where a test holds, and else the round stops
abbrev pub given_if : {A : Type 0} → Bool → A → Result A Stop
given_if test value = if test then Ok value else Err Lost

-- a success alone
abbrev pub confirmed : List ℕ → Result (Unit {0}) Stop
confirmed body = Ok tt

-- GET_PROTOCOL_INFO: the most bytes of a request and of a response are the bus's
abbrev pub limits_told : ℕ → List ℕ → Result (Unit {0}) Stop
limits_told limit body = given_if ((length body == 12) && (u16_at 4 body == limit) && (u16_at 6 body == limit)) tt

-- FLASH_INFO: the size of the flash is one that a flash may have
abbrev pub size_told : List ℕ → Result ℕ Stop
size_told body = given_if ((length body == 24) && is_flash_size (u32_at 0 body)) (u32_at 0 body)

-- FLASH_REGION_INFO: the region is RW of a flash of this size
abbrev pub region_told : ℕ → List ℕ → Result (Unit {0}) Stop
region_told size body = given_if ((length body == 8) && (u32_at 0 body == (rw_range size).at) && (u32_at 4 body == (rw_range size).size)) tt

-- GET_VERSION: whether RW runs
abbrev pub runs_rw_told : List ℕ → Result Bool Stop
runs_rw_told body = given_if (length body == 100) (u32_at 96 body == 2)

-- FLASH_PROTECT: the bits of the protection
abbrev pub flags_told : List ℕ → Result ℕ Stop
flags_told body = given_if (length body == 12) (u32_at 0 body)

-- whether a body shows a finished hash of RW
abbrev pub is_of_rw : ℕ → List ℕ → Bool
is_of_rw size body = (slice_index body 0 == 1) && (u32_at 4 body == (rw_range size).at) && (u32_at 8 body == (rw_range size).size)

-- VBOOT_HASH: nothing while the hash is not finished, and then whether it is the digest that RW is to have
abbrev pub hash_told : Aim → List ℕ → Result (Option Bool) Stop
hash_told aim body =
    if not (length body == 76) then Err Lost else
    if slice_index body 0 == 2 then Ok None else
    given_if (is_of_rw aim.geometry body) (Some (bytes_eq (take 32 (drop 12 body)) aim.digest))

-- JUMP_RW, by its status
abbrev pub jump_by : ℕ → Result Jump Stop
jump_by status =
    if status == 0 then Ok Jumped else
    if status == 4 then Ok Denied else
    if status == 2 then Ok Failed else
    Err Lost

abbrev pub jump_told : Said → Result Jump Stop
jump_told (Answered status body) = jump_by status
jump_told SaidNoPower = Err NoPower
jump_told SaidUpset = Err Lost
jump_told SaidShort = Err Lost

-- the second JUMP_RW, behind a restart: it may not be denied again. Whether RW runs then
abbrev pub last_jump_told : Jump → Result Bool Stop
last_jump_told Jumped = Ok true
last_jump_told Denied = Err Lost
last_jump_told Failed = Ok false

-- whether the whole flash is protected
abbrev pub is_locked : ℕ → Bool
is_locked flags = has_bit 0x04 flags

-- the protection behind a restart: the whole flash is open, or the lock is stored, under an asserted pin. What is neither was upset
abbrev pub unlocked_told : ℕ → Result (Unit {0}) Stop
unlocked_told flags =
    if not (is_locked flags) then Ok tt else
    if has_bit 0x08 flags && has_bit 0x40 flags then Err (Locked flags) else
    Err Lost

-- what a sync of the image aims at in a flash of this size, by whether the image fits
abbrev pub aim_by : Fit → List ℕ → ℕ → Result Aim Stop
aim_by Yes image size = Ok (record { geometry = size; digest = expected image size })
aim_by fit image size = Err (Misfit fit)

abbrev pub aim_of : List ℕ → ℕ → Result Aim Stop
aim_of image size = aim_by (fit_of image size) image size
