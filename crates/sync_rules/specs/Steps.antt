-- The steps of a round. What a step does not name stops the round.
use Rattle.std.specs.Prelude.{ℕ, zero, suc, ◌+◌, ◌-◌, ◌*◌, ◌/◌, ◌==◌, ◌||◌, Bool, true, false, List, take, drop, Option, Some, None, Ok, Err}
use Rattle.std.specs.List.{list_all}
use Rattle.ec_types.specs.Tables.{packet_limit}
use Rattle.ec_model.specs.Asks.{Setting}
use Rattle.ec_model.specs.Image.{padded}
use Rattle.ec_model.specs.Packet.{RequestView}
use Rattle.ec_model.specs.Ranges.{rw_range}
use Rattle.ec_model.specs.Rounds.{protocol_request}
use Rattle.sync_rules.specs.declared.ending.Aim.{Aim}
use Rattle.sync_rules.specs.declared.ending.Jump.{Jump}
use Rattle.sync_rules.specs.declared.ending.Jump.TheVariants.{Jumped, Denied, Failed}
use Rattle.sync_rules.specs.declared.ending.Plan.{Plan}
use Rattle.sync_rules.specs.declared.ending.Stop.TheVariants.{Lost}
use Rattle.sync_rules.specs.Parts.{Part, Gives, Then, When, Rests, Waits, Commands, on_success, Colds}
use Rattle.sync_rules.specs.Replies.{confirmed, given_if, limits_told, size_told, region_told, runs_rw_told, flags_told, hash_told, jump_told, last_jump_told, is_locked, unlocked_told, aim_of}
use Rattle.sync_rules.specs.Requests.{version_request, flash_info_request, write_request, erase_request, protect_request, region_request, hash_request, reboot_request}

-- a command that has to succeed, and whose reply has no body
abbrev pub Confirms : Setting → RequestView → Part (Unit {0})
Confirms setting request = Commands setting request 0 (on_success confirmed)

-- GET_PROTOCOL_INFO
abbrev pub AsksLimits : Setting → Part (Unit {0})
AsksLimits setting = Commands setting protocol_request 12 (on_success (limits_told (packet_limit setting.bus)))

-- FLASH_INFO
abbrev pub AsksSize : Setting → Part ℕ
AsksSize setting = Commands setting flash_info_request 24 (on_success size_told)

-- FLASH_REGION_INFO
abbrev pub AsksRegion : Setting → ℕ → Part (Unit {0})
AsksRegion setting size = Commands setting region_request 8 (on_success (region_told size))

-- the bus is brought to rest, and what the controller is, is asked; then the image has to fit
abbrev pub Surveys : Setting → List ℕ → Part Aim
Surveys setting image =
    Then (Rests setting) (λ rested.
    Then (AsksLimits setting) (λ agreed.
    Then (AsksSize setting) (λ size.
    Then (AsksRegion setting size) (λ found.
    Gives (aim_of image size)))))

-- GET_VERSION
abbrev pub AsksCopy : Setting → Part Bool
AsksCopy setting = Commands setting version_request 100 (on_success runs_rw_told)

-- FLASH_PROTECT, which sets these bits: the protection behind it
abbrev pub Protects : Setting → ℕ → Part ℕ
Protects setting bits = Commands setting (protect_request bits) 12 (on_success flags_told)

-- VBOOT_HASH START
abbrev pub StartsHash : Setting → Part (Unit {0})
StartsHash setting = Commands setting (hash_request 2) 76 (on_success confirmed)

-- VBOOT_HASH GET
abbrev pub AsksHash : Setting → Aim → Part (Option Bool)
AsksHash setting aim = Commands setting (hash_request 0) 76 (on_success (hash_told aim))

-- how many waits come before a look at the hash, and how many looks there are
abbrev pub hash_waits : ℕ
hash_waits = 64

abbrev pub hash_looks : ℕ
hash_looks = 40

-- one look at the hash, behind its waits
abbrev pub Looks : Setting → Aim → Part (Option Bool)
Looks setting aim = Then (Waits hash_waits setting) (λ waited. AsksHash setting aim)

-- behind a look that shows no finished hash there is more to do
abbrev pub LooksOn : Option Bool → Part Bool → Part Bool
LooksOn None more = more
LooksOn (Some same) more = Gives (Ok same)

-- at most so many looks
abbrev pub LooksUpTo : ℕ → Setting → Aim → Part Bool
LooksUpTo zero setting aim = Gives (Err Lost)
LooksUpTo (suc looks) setting aim = Then (Looks setting aim) (λ shown. LooksOn shown (LooksUpTo looks setting aim))

-- the hash of RW: whether it is the one that is aimed at
abbrev pub Hashes : Setting → Aim → Part Bool
Hashes setting aim = Then (StartsHash setting) (λ started. LooksUpTo hash_looks setting aim)

-- the hash of RW has to be the one that is aimed at
abbrev pub Checks : Setting → Aim → Part (Unit {0})
Checks setting aim = Then (Hashes setting aim) (λ same. Gives (given_if same tt))

-- JUMP_RW
abbrev pub Jumps : Setting → Part Jump
Jumps setting = Commands setting (reboot_request 2) 0 jump_told

-- a restart, and a second JUMP_RW
abbrev pub JumpsAgain : Setting → Part Bool
JumpsAgain setting = Then (Colds setting) (λ reset. Then (Jumps setting) (λ jump. Gives (last_jump_told jump)))

-- what follows a JUMP_RW: a denied one is asked again behind a restart
abbrev pub JumpLeads : Setting → Jump → Part Bool
JumpLeads setting Jumped = Gives (Ok true)
JumpLeads setting Denied = JumpsAgain setting
JumpLeads setting Failed = Gives (Ok false)

-- RW is brought to run, where RO does: whether it runs then, or the jump failed
abbrev pub Starts : Setting → Part Bool
Starts setting =
    Then (AsksCopy setting) (λ runs_rw.
    When runs_rw (Gives (Ok true)) (Then (Jumps setting) (JumpLeads setting)))

-- a restart, behind which the flash may not be locked
abbrev pub Unlocks : Setting → Part (Unit {0})
Unlocks setting = Then (Colds setting) (λ reset. Then (Protects setting 0) (λ flags. Gives (unlocked_told flags)))

-- RW is made free to be written: RO runs, and the flash is not locked
abbrev pub Frees : Setting → Part (Unit {0})
Frees setting =
    Then (Protects setting 0) (λ flags.
    Then (AsksCopy setting) (λ runs_rw.
    When (runs_rw || is_locked flags) (Unlocks setting) (Gives (Ok tt))))

-- what is to be done: RW is written or kept
abbrev pub plan_of : Aim → Bool → Plan
plan_of aim rewrites = record { aim = aim; rewrites = rewrites }

-- RW is to be written
abbrev pub PlansToWrite : Setting → Aim → Part Plan
PlansToWrite setting aim = Then (Frees setting) (λ free. Gives (Ok (plan_of aim true)))

-- RW is to be kept, where it can be brought to run
abbrev pub PlansToKeep : Setting → Aim → Part Plan
PlansToKeep setting aim =
    Then (Starts setting) (λ runs. When runs (Gives (Ok (plan_of aim false))) (PlansToWrite setting aim))

-- all that comes before the first byte of the flash is changed
abbrev pub Plans : Setting → List ℕ → Part Plan
Plans setting image =
    Then (Surveys setting image) (λ aim.
    Then (Hashes setting aim) (λ same.
    When same (PlansToKeep setting aim) (PlansToWrite setting aim)))

-- how many bytes one FLASH_WRITE carries at most
abbrev pub piece_length : Setting → ℕ
piece_length setting = packet_limit setting.bus - 16

-- in how many pieces so many bytes go, which are not none
abbrev pub pieces : ℕ → ℕ → ℕ
pieces size most = (size - 1) / most + 1

-- a piece of the padded image, by the bytes before it
abbrev pub piece : List ℕ → ℕ → ℕ → ℕ → List ℕ
piece image size most place = take most (drop place (padded image size))

-- whether all bytes are as an erase leaves them
abbrev pub is_blank : List ℕ → Bool
is_blank bytes = list_all (λ byte. byte == 0xFF) bytes

-- a piece is written, but for a blank one
abbrev pub WritesPiece : Setting → ℕ → List ℕ → ℕ → Part (Unit {0})
WritesPiece setting size bytes place =
    When (is_blank bytes) (Gives (Ok tt)) (Confirms setting (write_request ((rw_range size).at + place) bytes))

-- so many pieces are written, from the one of this number on
abbrev pub WritesFrom : ℕ → ℕ → Setting → List ℕ → ℕ → Part (Unit {0})
WritesFrom zero number setting image size = Gives (Ok tt)
WritesFrom (suc left) number setting image size =
    let most = piece_length setting in
    Then (WritesPiece setting size (piece image size most (number * most)) (number * most)) (λ written. WritesFrom left (number + 1) setting image size)

-- RW is erased, and the padded image written
abbrev pub Installs : Setting → List ℕ → ℕ → Part (Unit {0})
Installs setting image size =
    Then (Confirms setting (erase_request (rw_range size))) (λ erased.
    WritesFrom (pieces (rw_range size).size (piece_length setting)) 0 setting image size)

-- RW is written, has the hash that is aimed at, and is brought to run
abbrev pub Rewrites : Setting → List ℕ → Aim → Part (Unit {0})
Rewrites setting image aim =
    Then (Installs setting image aim.geometry) (λ installed.
    Then (Checks setting aim) (λ checked.
    Then (Starts setting) (λ runs.
    Gives (given_if runs tt))))

-- the flash is locked, and no jump is left; RW has the hash that is aimed at, and runs
abbrev pub Seals : Setting → Aim → Part (Unit {0})
Seals setting aim =
    Then (Protects setting 0x06) (λ flags.
    Then (Confirms setting (reboot_request 5)) (λ disabled.
    Then (Checks setting aim) (λ checked.
    Then (AsksCopy setting) (λ runs_rw.
    Gives (given_if runs_rw tt)))))

-- RW is written, where the plan says so
abbrev pub Prepares : Setting → List ℕ → Plan → Part (Unit {0})
Prepares setting image plan = When plan.rewrites (Rewrites setting image plan.aim) (Gives (Ok tt))

-- a plan is carried out
abbrev pub CarriesOut : Setting → List ℕ → Plan → Part (Unit {0})
CarriesOut setting image plan = Then (Prepares setting image plan) (λ ready. Seals setting plan.aim)
