-- The lines that send commands to the controller.
use Rattle.std.specs.Prelude.{◌≤◌, ℕ, ◌==◌, Bool, ◌||◌, IsTrue, List, [], ◌∷◌, length, codes, Option, Some, None, Result, Ok, Err, if◌then◌else◌}
use Rattle.std.specs.Option.{ok_or}
use Rattle.std.specs.Str.{bytes_eq}
use Rattle.ec_types.specs.declared.why.Why.{Why}
use Rattle.ec_types.specs.declared.why.Why.TheVariants.{Word}
use Rattle.ec_types.specs.declared.image.ImageCopy.{ImageCopy}
use Rattle.ec_types.specs.declared.image.ImageCopy.TheVariants as copy
use Rattle.flash_dev.specs.declared.geometry.Region.{Region}
use Rattle.flash_dev.specs.declared.geometry.Region.TheVariants.{Ro, Active, WpRo, Update}
use Rattle.script_words.specs.Words.{words_of}
use Rattle.script_words.specs.Lines.{checked}
use Rattle.script_words.specs.Forms.{◌>>=◌, no_words, two_words, alone, with_one, with_two, with_three, number_to, hex_to}
use Rattle.ectool_lines.specs.declared.tool.Tool.{Tool}
use Rattle.ectool_lines.specs.declared.tool.Tool.TheVariants.{Hello, Version, ChipInfo, CmdVersions, ProtoInfo, FlashInfo, RegionInfo, FlashRead, FlashWrite, FlashErase, FlashProtect, Hash, HashAbort, HashStart, HashRange, Sysinfo, Reboot, RebootCold, Test, Resend}

-- the region that a word names
abbrev pub region_named : List ℕ → Option Region
region_named word =
    if bytes_eq word (codes "ro") then Some Ro else
    if bytes_eq word (codes "active") then Some Active else
    if bytes_eq word (codes "wp_ro") then Some WpRo else
    if bytes_eq word (codes "update") then Some Update else
    None

-- a word that names a region
abbrev pub region_to : List ℕ → Result Region Why
region_to word = ok_or (region_named word) Word

-- the mask and the flags that a form of flashprotect names
abbrev pub protect_named : List ℕ → Option Tool
protect_named form =
    if bytes_eq form (codes "now") then Some (FlashProtect 4 4) else
    if bytes_eq form (codes "enable") then Some (FlashProtect 1 1) else
    if bytes_eq form (codes "disable") then Some (FlashProtect 1 0) else
    None

-- flashprotect with bits: a mask and flags
abbrev pub protect_bits : List ℕ → List (List ℕ) → Result Tool Why
protect_bits form words =
    two_words words >>= λ pair. if bytes_eq form (codes "bits")
    then (number_to 0xFFFFFFFF pair.0 >>= λ mask. number_to 0xFFFFFFFF pair.1 >>= λ flags. Ok (FlashProtect mask flags))
    else Err Word

-- flashprotect behind the word of its form
abbrev pub protect_form : List ℕ → List (List ℕ) → Result Tool Why
protect_form form [] = ok_or (protect_named form) Word
protect_form form (word ∷ words) = protect_bits form (word ∷ words)

-- flashprotect by the words behind it: none asks, one names a form, and three are bits
abbrev pub protect_by : List (List ℕ) → Result Tool Why
protect_by [] = Ok (FlashProtect 0 0)
protect_by (form ∷ words) = protect_form form words

-- the image that a word names
abbrev pub image_named : List ℕ → Option ImageCopy
image_named word =
    if bytes_eq word (codes "ro") then Some copy.Ro else
    if bytes_eq word (codes "rw") then Some copy.Rw else
    None

-- a word that names an image
abbrev pub image_to : List ℕ → Result ImageCopy Why
image_to word = ok_or (image_named word) Word

-- this word and no other
abbrev pub fixed_to : List ℕ → List ℕ → Result (Unit {0}) Why
fixed_to name word = if bytes_eq word name then Ok tt else Err Word

-- a form of echash with two words behind it: an image and a nonce, or a place and a size
abbrev pub hash_with_two : List ℕ → List ℕ → List ℕ → Result Tool Why
hash_with_two form first second =
    if bytes_eq form (codes "start")
    then (image_to first >>= λ image. hex_to 64 second >>= λ nonce. Ok (HashStart image nonce)) else
    if bytes_eq form (codes "range")
    then (number_to 0xFFFFFFFF first >>= λ at. number_to 0xFFFFFFFF second >>= λ size. Ok (HashRange at size)) else
    Err Word

-- echash behind the word of its form and another one; an image that stands alone is hashed with no nonce
abbrev pub hash_behind : List ℕ → List ℕ → List (List ℕ) → Result Tool Why
hash_behind form first [] = fixed_to (codes "start") form >>= λ _. image_to first >>= λ image. Ok (HashStart image [])
hash_behind form first (second ∷ words) = no_words words >>= λ _. hash_with_two form first second

-- echash behind the word of its form
abbrev pub hash_form : List ℕ → List (List ℕ) → Result Tool Why
hash_form form [] = fixed_to (codes "abort") form >>= λ _. Ok HashAbort
hash_form form (first ∷ words) = hash_behind form first words

-- echash by the words behind it: none asks, one drops the hash, and two or three start another one
abbrev pub hash_by : List (List ℕ) → Result Tool Why
hash_by [] = Ok Hash
hash_by (form ∷ words) = hash_form form words

-- what a word asks REBOOT_EC for: nothing, a jump to RO, one to RW, that jumps are disabled, or a restart
abbrev pub reboot_named : List ℕ → Option Tool
reboot_named word =
    if bytes_eq word (codes "cancel") then Some (Reboot 0) else
    if bytes_eq word (codes "RO") then Some (Reboot 1) else
    if bytes_eq word (codes "RW") then Some (Reboot 2) else
    if bytes_eq word (codes "disable-jump") then Some (Reboot 5) else
    if bytes_eq word (codes "cold") then Some RebootCold else
    None

-- a word that asks it for something
abbrev pub reboot_to : List ℕ → Result Tool Why
reboot_to word = ok_or (reboot_named word) Word

-- a line by its words: the first one, how many stand behind it, and what each of these is
abbrev pub tool_by : List (List ℕ) → Result Tool Why
tool_by [] = Err Word
tool_by (first ∷ words) =
    if bytes_eq first (codes "hello") then alone Hello words else
    if bytes_eq first (codes "version") then alone Version words else
    if bytes_eq first (codes "chipinfo") then alone ChipInfo words else
    if bytes_eq first (codes "cmdversions") then with_one (number_to 65535) CmdVersions words else
    if bytes_eq first (codes "protoinfo") then alone ProtoInfo words else
    if bytes_eq first (codes "flashinfo") then alone FlashInfo words else
    if bytes_eq first (codes "regioninfo") then with_one region_to RegionInfo words else
    if bytes_eq first (codes "flashread") then with_two (number_to 0xFFFFFFFF) (number_to 4096) FlashRead words else
    if bytes_eq first (codes "flashwrite") then with_two (number_to 0xFFFFFFFF) (hex_to 4096) FlashWrite words else
    if bytes_eq first (codes "flasherase") then with_two (number_to 0xFFFFFFFF) (number_to 0xFFFFFFFF) FlashErase words else
    if bytes_eq first (codes "flashprotect") then protect_by words else
    if bytes_eq first (codes "echash") then hash_by words else
    if bytes_eq first (codes "sysinfo") then alone Sysinfo words else
    if bytes_eq first (codes "reboot_ec") then with_one reboot_to (λ tool. tool) words else
    if bytes_eq first (codes "test") then with_three (number_to 0xFFFFFFFF) (number_to 32) (hex_to 32) Test words else
    if bytes_eq first (codes "resend") then alone Resend words else
    Err Word

-- a line, or its first fault
abbrev pub tool_of : List ℕ → Result Tool Why
tool_of line = checked line >>= λ _. tool_by (words_of line)

-- whether a cmd of REBOOT_EC is one that a line may try: no COLD
abbrev pub is_reboot : ℕ → Bool
is_reboot cmd = (cmd == 0) || (cmd == 1) || (cmd == 2) || (cmd == 5)

-- what the numbers and the bytes of a line may be
abbrev pub IsInRange : Tool → Type 0
IsInRange (FlashRead at size) = size ≤ 4096
IsInRange (FlashWrite at bytes) = (1 ≤ length bytes) × (length bytes ≤ 4096)
IsInRange (HashStart image nonce) = length nonce ≤ 64
IsInRange (Reboot cmd) = IsTrue (is_reboot cmd)
IsInRange (Test ec_result ret_len bytes) = (ret_len ≤ 32) × (1 ≤ length bytes) × (length bytes ≤ 32)
IsInRange other = Unit {0}
