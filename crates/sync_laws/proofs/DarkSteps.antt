-- The steps of a round leave the controller off where they stop for want of power.
use Rattle.std.proofs.Common.{◌≡◌, refl, ℕ, zero, suc, ◌+◌, ◌*◌, ◌==◌, ◌||◌, ◌&&◌, not, Bool, true, false, if◌then◌else◌, List, take, drop, length, slice_index, Option, Some, None, Result, Ok, Err}
use Rattle.std.specs.Str.{bytes_eq}
use Rattle.ec_types.specs.Tables.{packet_limit}
use Rattle.ec_types.specs.LittleEndian.{has_bit}
use Rattle.ec_types.specs.declared.image.Fit.{Fit}
use Rattle.ec_types.specs.declared.image.Fit.TheVariants.{Yes, Short, Long, Vector}
use Rattle.ec_model.specs.Asks.{Setting}
use Rattle.ec_model.specs.Image.{fit_of}
use Rattle.ec_model.specs.Packet.{RequestView}
use Rattle.ec_model.specs.Ranges.{rw_range}
use Rattle.ec_model.specs.Rounds.{protocol_request}
use Rattle.ec_model.specs.Tries.{Said, Answered, SaidNoPower, SaidUpset, SaidShort}
use Rattle.sync_rules.specs.declared.ending.Aim.{Aim}
use Rattle.sync_rules.specs.declared.ending.Jump.{Jump}
use Rattle.sync_rules.specs.declared.ending.Jump.TheVariants.{Jumped, Denied, Failed}
use Rattle.sync_rules.specs.declared.ending.Plan.{Plan}
use Rattle.sync_rules.specs.declared.ending.Stop.{Stop}
use Rattle.sync_rules.specs.declared.ending.Stop.TheVariants.{Lost, NoPower, Locked}
use Rattle.sync_rules.specs.Parts.{Gives, Then, When, Rests, Waits, Colds}
use Rattle.sync_rules.specs.Replies.{confirmed, given_if, limits_told, size_told, region_told, runs_rw_told, flags_told, is_of_rw, hash_told, jump_told, last_jump_told, unlocked_told, aim_by, aim_of, is_locked}
use Rattle.sync_rules.specs.Requests.{version_request, flash_info_request, write_request, erase_request, protect_request, region_request, hash_request, reboot_request}
use Rattle.sync_rules.specs.Steps.{Confirms, AsksLimits, AsksSize, AsksRegion, Surveys, AsksCopy, Protects, StartsHash, AsksHash, Looks, LooksOn, LooksUpTo, Hashes, Checks, Jumps, JumpsAgain, JumpLeads, Starts, Unlocks, Frees, plan_of, PlansToWrite, PlansToKeep, Plans, piece, piece_length, pieces, is_blank, WritesPiece, WritesFrom, Installs, Rewrites, Seals, Prepares, CarriesOut}
use Rattle.sync_laws.proofs.Dark.{LeavesDark, gives-dark, then-dark, when-dark, rests-dark, waits-dark, commands-dark, success-dark, colds-dark}

given-never : {A : Type 0} → (test : Bool) (value : A) → ¬ (given_if test value ≡ Err NoPower)
given-never true value same = cc
given-never false value same = cc

hash-by : (short busy of_rw : Bool) (same : Bool) → ¬ ((if short then Err Lost else if busy then Ok None else given_if of_rw (Some same)) ≡ Err NoPower)
hash-by true busy of_rw same is = cc
hash-by false true of_rw same is = cc
hash-by false false of_rw same is = given-never of_rw (Some same) is

hash-never : (aim : Aim) (body : List ℕ) → ¬ (hash_told aim body ≡ Err NoPower)
hash-never aim body = hash-by (not (length body == 76)) (slice_index body 0 == 2) (is_of_rw aim.geometry body) (bytes_eq (take 32 (drop 12 body)) aim.digest)

jump-by : (success denied failed : Bool) → ¬ ((if success then Ok Jumped else if denied then Ok Denied else if failed then Ok Failed else Err Lost) ≡ Err NoPower)
jump-by true denied failed is = cc
jump-by false true failed is = cc
jump-by false false true is = cc
jump-by false false false is = cc

jump-power : (said : Said) → jump_told said ≡ Err NoPower → said ≡ SaidNoPower
jump-power (Answered status body) is = absurd (jump-by (status == 0) (status == 4) (status == 2) is)
jump-power SaidNoPower is = refl
jump-power SaidUpset is = absurd (cc)
jump-power SaidShort is = absurd (cc)

last-never : (jump : Jump) → ¬ (last_jump_told jump ≡ Err NoPower)
last-never Jumped is = cc
last-never Denied is = cc
last-never Failed is = cc

unlocked-by : (free stored : Bool) (flags : ℕ) → ¬ (◌≡◌ {A = Result (Unit {0}) Stop} (if free then Ok tt else if stored then Err (Locked flags) else Err Lost) (Err NoPower))
unlocked-by true stored flags is = cc
unlocked-by false true flags is = cc
unlocked-by false false flags is = cc

unlocked-never : (flags : ℕ) → ¬ (unlocked_told flags ≡ Err NoPower)
unlocked-never flags = unlocked-by (not (is_locked flags)) (has_bit 0x08 flags && has_bit 0x40 flags) flags

aim-by : (fit : Fit) (image : List ℕ) (size : ℕ) → ¬ (aim_by fit image size ≡ Err NoPower)
aim-by Yes image size is = cc
aim-by Short image size is = cc
aim-by Long image size is = cc
aim-by Vector image size is = cc

ok-never : {A : Type 0} → (value : A) → ¬ (◌≡◌ {A = Result A Stop} (Ok value) (Err NoPower))
ok-never value is = cc

confirms-dark : (setting : Setting) (request : RequestView) → LeavesDark (Confirms setting request)
confirms-dark setting request = success-dark setting request 0 confirmed (λ body. ok-never tt)

surveys-dark : (setting : Setting) (image : List ℕ) → LeavesDark (Surveys setting image)
surveys-dark setting image =
    then-dark (Rests setting) (λ rested. Then (AsksLimits setting) (λ agreed. Then (AsksSize setting) (λ size. Then (AsksRegion setting size) (λ found. Gives (aim_of image size))))) (rests-dark setting) (λ rested.
    then-dark (AsksLimits setting) (λ agreed. Then (AsksSize setting) (λ size. Then (AsksRegion setting size) (λ found. Gives (aim_of image size)))) (success-dark setting protocol_request 12 (limits_told (packet_limit setting.bus)) (λ body. given-never _ tt)) (λ agreed.
    then-dark (AsksSize setting) (λ size. Then (AsksRegion setting size) (λ found. Gives (aim_of image size))) (success-dark setting flash_info_request 24 size_told (λ body. given-never _ _)) (λ size.
    then-dark (AsksRegion setting size) (λ found. Gives (aim_of image size)) (success-dark setting region_request 8 (region_told size) (λ body. given-never _ tt)) (λ found.
    gives-dark (aim_of image size) (aim-by (fit_of image size) image size)))))

copy-dark : (setting : Setting) → LeavesDark (AsksCopy setting)
copy-dark setting = success-dark setting version_request 100 runs_rw_told (λ body. given-never _ _)

protects-dark : (setting : Setting) (bits : ℕ) → LeavesDark (Protects setting bits)
protects-dark setting bits = success-dark setting (protect_request bits) 12 flags_told (λ body. given-never _ _)

looks-on-dark : (shown : Option Bool) (setting : Setting) (aim : Aim) (looks : ℕ) → LeavesDark (LooksUpTo looks setting aim) → LeavesDark (LooksOn shown (LooksUpTo looks setting aim))
looks-on-dark None setting aim looks more = more
looks-on-dark (Some same) setting aim looks more = gives-dark (Ok same) (ok-never same)

look-dark : (setting : Setting) (aim : Aim) → LeavesDark (Looks setting aim)
look-dark setting aim = then-dark (Waits 64 setting) (λ waited. AsksHash setting aim) (waits-dark 64 setting) (λ waited. success-dark setting (hash_request 0) 76 (hash_told aim) (hash-never aim))

looks-dark : (looks : ℕ) (setting : Setting) (aim : Aim) → LeavesDark (LooksUpTo looks setting aim)
looks-dark zero setting aim = gives-dark (Err Lost) (λ same. cc)
looks-dark (suc looks) setting aim = then-dark (Looks setting aim) (λ shown. LooksOn shown (LooksUpTo looks setting aim)) (look-dark setting aim) (λ shown. looks-on-dark shown setting aim looks (looks-dark looks setting aim))

hashes-dark : (setting : Setting) (aim : Aim) → LeavesDark (Hashes setting aim)
hashes-dark setting aim = then-dark (StartsHash setting) (λ started. LooksUpTo 40 setting aim) (success-dark setting (hash_request 2) 76 confirmed (λ body. ok-never tt)) (λ started. looks-dark 40 setting aim)

checks-dark : (setting : Setting) (aim : Aim) → LeavesDark (Checks setting aim)
checks-dark setting aim = then-dark (Hashes setting aim) (λ same. Gives (given_if same tt)) (hashes-dark setting aim) (λ same. gives-dark (given_if same tt) (given-never same tt))

jumps-dark : (setting : Setting) → LeavesDark (Jumps setting)
jumps-dark setting = commands-dark setting (reboot_request 2) 0 jump_told jump-power

again-dark : (setting : Setting) → LeavesDark (JumpsAgain setting)
again-dark setting = then-dark (Colds setting) (λ reset. Then (Jumps setting) (λ jump. Gives (last_jump_told jump))) (colds-dark setting) (λ reset. then-dark (Jumps setting) (λ jump. Gives (last_jump_told jump)) (jumps-dark setting) (λ jump. gives-dark (last_jump_told jump) (last-never jump)))

jump-leads-dark : (setting : Setting) (jump : Jump) → LeavesDark (JumpLeads setting jump)
jump-leads-dark setting Jumped = gives-dark (Ok true) (ok-never true)
jump-leads-dark setting Denied = again-dark setting
jump-leads-dark setting Failed = gives-dark (Ok false) (ok-never false)

starts-dark : (setting : Setting) → LeavesDark (Starts setting)
starts-dark setting =
    then-dark (AsksCopy setting) (λ runs_rw. When runs_rw (Gives (Ok true)) (Then (Jumps setting) (JumpLeads setting))) (copy-dark setting)
    (λ runs_rw. when-dark runs_rw (Gives (Ok true)) (Then (Jumps setting) (JumpLeads setting)) (gives-dark (Ok true) (ok-never true)) (then-dark (Jumps setting) (JumpLeads setting) (jumps-dark setting) (jump-leads-dark setting)))

unlocks-dark : (setting : Setting) → LeavesDark (Unlocks setting)
unlocks-dark setting = then-dark (Colds setting) (λ reset. Then (Protects setting 0) (λ flags. Gives (unlocked_told flags))) (colds-dark setting) (λ reset. then-dark (Protects setting 0) (λ flags. Gives (unlocked_told flags)) (protects-dark setting 0) (λ flags. gives-dark (unlocked_told flags) (unlocked-never flags)))

frees-dark : (setting : Setting) → LeavesDark (Frees setting)
frees-dark setting =
    then-dark (Protects setting 0) (λ flags. Then (AsksCopy setting) (λ runs_rw. When (runs_rw || is_locked flags) (Unlocks setting) (Gives (Ok tt)))) (protects-dark setting 0) (λ flags.
    then-dark (AsksCopy setting) (λ runs_rw. When (runs_rw || is_locked flags) (Unlocks setting) (Gives (Ok tt))) (copy-dark setting) (λ runs_rw.
    when-dark (runs_rw || is_locked flags) (Unlocks setting) (Gives (Ok tt)) (unlocks-dark setting) (gives-dark (Ok tt) (ok-never tt))))

to-write-dark : (setting : Setting) (aim : Aim) → LeavesDark (PlansToWrite setting aim)
to-write-dark setting aim = then-dark (Frees setting) (λ free. Gives (Ok (plan_of aim true))) (frees-dark setting) (λ free. gives-dark (Ok (plan_of aim true)) (ok-never (plan_of aim true)))

to-keep-dark : (setting : Setting) (aim : Aim) → LeavesDark (PlansToKeep setting aim)
to-keep-dark setting aim = then-dark (Starts setting) (λ runs. When runs (Gives (Ok (plan_of aim false))) (PlansToWrite setting aim)) (starts-dark setting)
    (λ runs. when-dark runs (Gives (Ok (plan_of aim false))) (PlansToWrite setting aim) (gives-dark (Ok (plan_of aim false)) (ok-never (plan_of aim false))) (to-write-dark setting aim))

pub plans-dark : (setting : Setting) (image : List ℕ) → LeavesDark (Plans setting image)
plans-dark setting image =
    then-dark (Surveys setting image) (λ aim. Then (Hashes setting aim) (λ same. When same (PlansToKeep setting aim) (PlansToWrite setting aim))) (surveys-dark setting image) (λ aim.
    then-dark (Hashes setting aim) (λ same. When same (PlansToKeep setting aim) (PlansToWrite setting aim)) (hashes-dark setting aim) (λ same.
    when-dark same (PlansToKeep setting aim) (PlansToWrite setting aim) (to-keep-dark setting aim) (to-write-dark setting aim)))

writes-dark : (left number : ℕ) (setting : Setting) (image : List ℕ) (size : ℕ) → LeavesDark (WritesFrom left number setting image size)
writes-dark zero number setting image size = gives-dark (Ok tt) (ok-never tt)
writes-dark (suc left) number setting image size =
    let place = number * piece_length setting in
    let bytes = piece image size (piece_length setting) place in
    then-dark (WritesPiece setting size bytes place) (λ written. WritesFrom left (number + 1) setting image size)
    (when-dark (is_blank bytes) (Gives (Ok tt)) (Confirms setting (write_request ((rw_range size).at + place) bytes)) (gives-dark (Ok tt) (ok-never tt)) (confirms-dark setting (write_request ((rw_range size).at + place) bytes)))
    (λ written. writes-dark left (number + 1) setting image size)

installs-dark : (setting : Setting) (image : List ℕ) (size : ℕ) → LeavesDark (Installs setting image size)
installs-dark setting image size =
    then-dark (Confirms setting (erase_request (rw_range size))) (λ erased. WritesFrom (pieces (rw_range size).size (piece_length setting)) 0 setting image size) (confirms-dark setting (erase_request (rw_range size)))
    (λ erased. writes-dark (pieces (rw_range size).size (piece_length setting)) 0 setting image size)

rewrites-dark : (setting : Setting) (image : List ℕ) (aim : Aim) → LeavesDark (Rewrites setting image aim)
rewrites-dark setting image aim =
    then-dark (Installs setting image aim.geometry) (λ installed. Then (Checks setting aim) (λ checked. Then (Starts setting) (λ runs. Gives (given_if runs tt)))) (installs-dark setting image aim.geometry) (λ installed.
    then-dark (Checks setting aim) (λ checked. Then (Starts setting) (λ runs. Gives (given_if runs tt))) (checks-dark setting aim) (λ checked.
    then-dark (Starts setting) (λ runs. Gives (given_if runs tt)) (starts-dark setting) (λ runs. gives-dark (given_if runs tt) (given-never runs tt))))

seals-dark : (setting : Setting) (aim : Aim) → LeavesDark (Seals setting aim)
seals-dark setting aim =
    then-dark (Protects setting 6) (λ flags. Then (Confirms setting (reboot_request 5)) (λ disabled. Then (Checks setting aim) (λ checked. Then (AsksCopy setting) (λ runs_rw. Gives (given_if runs_rw tt))))) (protects-dark setting 6) (λ flags.
    then-dark (Confirms setting (reboot_request 5)) (λ disabled. Then (Checks setting aim) (λ checked. Then (AsksCopy setting) (λ runs_rw. Gives (given_if runs_rw tt)))) (confirms-dark setting (reboot_request 5)) (λ disabled.
    then-dark (Checks setting aim) (λ checked. Then (AsksCopy setting) (λ runs_rw. Gives (given_if runs_rw tt))) (checks-dark setting aim) (λ checked.
    then-dark (AsksCopy setting) (λ runs_rw. Gives (given_if runs_rw tt)) (copy-dark setting) (λ runs_rw. gives-dark (given_if runs_rw tt) (given-never runs_rw tt)))))

pub carries-dark : (setting : Setting) (image : List ℕ) (plan : Plan) → LeavesDark (CarriesOut setting image plan)
carries-dark setting image plan =
    then-dark (Prepares setting image plan) (λ ready. Seals setting plan.aim)
    (when-dark plan.rewrites (Rewrites setting image plan.aim) (Gives (Ok tt)) (rewrites-dark setting image plan.aim) (gives-dark (Ok tt) (ok-never tt)))
    (λ ready. seals-dark setting plan.aim)
