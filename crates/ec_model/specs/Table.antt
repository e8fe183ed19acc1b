-- The state of the controller: its flash, its pin, and, where it is on, what lasts until the next reset.
use Rattle.std.specs.Prelude.{◌≡◌, ℕ, ◌+◌, ◌*◌, ◌/◌, ◌^◌, ◌≤◌, ◌<◌, Bool, true, false, ◌&&◌, ◌||◌, ◌==◌, nat_lt, nat_le, List, [], length, ⊤, IsTrue, IsFalse, Option, Some, None}
use Rattle.flash_dev.specs.Flash.{block_size}
use Rattle.ec_types.specs.LittleEndian.{u16_at}
use Rattle.ec_types.specs.declared.bus.BusKind.{BusKind}
use Rattle.ec_types.specs.declared.image.ImageCopy.{ImageCopy}
use Rattle.ec_types.specs.declared.image.ImageCopy.TheVariants.{Ro, Rw}
use Rattle.ec_model.specs.declared.live.Live.{Live}
use Rattle.ec_model.specs.declared.live.EraseJob.{EraseJob}
use Rattle.ec_model.specs.declared.live.HashView.{HashView}
use Rattle.ec_model.specs.declared.live.HashView.TheVariants.{Idle, Busy, Done}
use Rattle.ec_model.specs.Ranges.{Range, is_flash_size, copy_range, wp_ro_range, blocks_range, overlaps}
use Rattle.ec_model.specs.Bus.{BusState, OnLpc, OnI2c, OnSpi, LpcState, I2cState, SpiState, kind_of, Idle as I2cIdle, Writing, Asked, Reading, Deselected, Receiving, Bad, Waiting, Replied, largest_body}

-- a controller that is on: its live state, the nonce of a busy hash, and its bus
pub record Awake : Type 0 where
  pub live : Live
  pub nonce : List ℕ
  pub bus : BusState

-- whether the controller is on
pub data Power : Type 0 where
  Off : Power
  On : Awake → Power

-- the whole state, as contracts see it
pub record Table : Type 0 where
  pub flash : List ℕ
  pub pin : Bool
  pub kind : BusKind
  pub power : Power

-- what a command can see and change: a controller that is on, without its bus
pub record Core : Type 0 where
  pub flash : List ℕ
  pub pin : Bool
  pub live : Live
  pub nonce : List ℕ

-- a controller that is on, seen without its bus
abbrev pub core_of : Table → Awake → Core
core_of table awake = record { flash = table.flash; pin = table.pin; live = awake.live; nonce = awake.nonce }

-- a controller with its bus
abbrev pub table_of : Core → BusState → Table
table_of core bus =
    record { flash = core.flash; pin = core.pin; kind = kind_of bus; power = On (record { live = core.live; nonce = core.nonce; bus = bus }) }

-- a controller that is off
abbrev pub off_table : List ℕ → Bool → BusKind → Table
off_table flash pin kind = record { flash = flash; pin = pin; kind = kind; power = Off }

-- whether a controller is on
abbrev pub is_on : Power → Bool
is_on Off = false
is_on (On awake) = true

-- whether this image runs
abbrev pub is_ro : ImageCopy → Bool
is_ro Ro = true
is_ro Rw = false

-- whether a range may not be written
abbrev pub is_blocked : ℕ → Live → Range → Bool
is_blocked size live range =
    overlaps range (copy_range live.copy size)
    || (live.ro_now && overlaps range (wp_ro_range size))
    || live.all_now

-- a pending erase may go on: it has blocks, they exist, and none is blocked
abbrev pub IsErasable : ℕ → Live → Option EraseJob → Type 0
IsErasable size live None = ⊤
IsErasable size live (Some job) =
    (1 ≤ job.left) × ((job.next + job.left) * block_size ≤ size) × IsFalse (is_blocked size live (blocks_range job.next job.left))

-- how many ticks a hash of so many bytes takes
abbrev pub ticks_of : ℕ → ℕ
ticks_of size = (size + 1023) / 1024

-- a hash that is shown has a range in the flash, and a busy one some ticks to come; a nonce is kept for a busy one alone
abbrev pub IsHashable : ℕ → HashView → List ℕ → Type 0
IsHashable size Idle nonce = nonce ≡ []
IsHashable size (Busy at count left) nonce =
    (1 ≤ count) × (at + count ≤ size) × (1 ≤ left) × (left ≤ ticks_of count) × (length nonce ≤ 64)
IsHashable size (Done at count digest) nonce = (1 ≤ count) × (at + count ≤ size) × (length digest ≡ 32) × (nonce ≡ [])

-- LPC has its window, and a status byte that some accesses lead to
abbrev pub IsLpcValid : LpcState → Type 0
IsLpcValid state =
    (length state.window ≡ 256) × IsTrue ((state.status == 0x00) || (state.status == 0x01) || (state.status == 0x06))

-- I2C keeps few bytes, and no request is due between two events
abbrev pub IsI2cValid : I2cState → Type 0
IsI2cValid (I2cIdle written) = length written ≤ 129
IsI2cValid (Writing written) = length written ≤ 129
IsI2cValid (Asked request) = ⊥
IsI2cValid (Reading left) = ⊤

-- SPI receives less than a whole request, and a request that is due is whole
abbrev pub IsSpiValid : SpiState → Type 0
IsSpiValid Deselected = ⊤
IsSpiValid (Receiving bytes) =
    IsTrue (nat_lt (length bytes) 8 || (nat_le (u16_at 6 bytes) largest_body && nat_lt (length bytes) (8 + u16_at 6 bytes)))
IsSpiValid Bad = ⊤
IsSpiValid (Waiting request) = (length request ≡ 8 + u16_at 6 request) × (u16_at 6 request ≤ largest_body)
IsSpiValid (Replied left) = ⊤

-- a bus is in a state that some accesses lead to
abbrev pub IsBusValid : BusState → Type 0
IsBusValid (OnLpc state) = IsLpcValid state
IsBusValid (OnI2c state) = IsI2cValid state
IsBusValid (OnSpi state) = IsSpiValid state

-- what holds of each controller that is on
pub record IsAwakeValid (size : ℕ) (kind : BusKind) (awake : Awake) : Type 0 where
  -- all blocks are locked only with the RO blocks
  pub all_with_ro : IsTrue awake.live.all_now → IsTrue awake.live.ro_now
  -- RW runs only after a jump
  pub jumped : awake.live.copy ≡ Rw → IsTrue awake.live.jumped
  pub erase : IsErasable size awake.live awake.live.erase
  pub hash : IsHashable size awake.live.hash awake.nonce
  -- a reply can tell the saved status
  pub saved : awake.live.saved < 2 ^ 16
  pub bus_kind : kind_of awake.bus ≡ kind
  pub bus : IsBusValid awake.bus

-- what holds of each controller that is on, where it is on
abbrev pub IsPowerValid : ℕ → BusKind → Power → Type 0
IsPowerValid size kind Off = ⊤
IsPowerValid size kind (On awake) = IsAwakeValid size kind awake

-- what holds of each state that is reached
pub record Valid (table : Table) : Type 0 where
  pub size : IsTrue (is_flash_size (length table.flash))
  pub power : IsPowerValid (length table.flash) table.kind table.power
