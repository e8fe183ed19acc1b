-- The entries of some commands on LPC.
use Rattle.std.specs.Prelude.{ℕ, true, List, [], ◌∷◌, ◌++◌}
use Rattle.ec_types.specs.declared.bus.BusKind.TheVariants.{Lpc}
use Rattle.ec_model.specs.declared.event.Entry.{Entry}
use Rattle.ec_model.specs.Packet.{RequestView}
use Rattle.ec_model.specs.Bodies.{hello_ask, flash_erase_ask}
use Rattle.ec_model.specs.HostCalls.{HostView}
use Rattle.ec_model.specs.Asks.{Setting}
use Rattle.ec_examples.specs.Entries.{lpc_exchange, waited}
use Rattle.ec_examples.specs.Sends.{hello_request, hello_response, changed_lpc}

-- on LPC, with so much room left to later commands
abbrev pub on_lpc : ℕ → Setting
on_lpc floor = record { bus = Lpc; floor = floor }

-- a controller that is on, and so much room
abbrev pub with_room : ℕ → HostView
with_room spare = record { on = true; spare = spare }

-- HELLO with 0xA0B0C0D0
abbrev pub hello_asked : RequestView
hello_asked = record { command = 0x0001; version = 0; body = hello_ask 0xA0B0C0D0 }

-- FLASH_ERASE of 0x8000 bytes from 0x8000 on
abbrev pub erase_asked : RequestView
erase_asked = record { command = 0x0013; version = 0; body = flash_erase_ask 0x8000 0x8000 }

-- the packets: FLASH_ERASE, GET_COMMS_STATUS and RESEND_RESPONSE
abbrev pub erase_request : List ℕ
erase_request = 0x03 ∷ 0xE2 ∷ 0x13 ∷ 0x00 ∷ 0x00 ∷ 0x00 ∷ 0x08 ∷ 0x00 ∷ 0x00 ∷ 0x80 ∷ 0x00 ∷ 0x00 ∷ 0x00 ∷ 0x80 ∷ 0x00 ∷ 0x00 ∷ []

abbrev pub comms_request : List ℕ
comms_request = 0x03 ∷ 0xF4 ∷ 0x09 ∷ 0x00 ∷ 0x00 ∷ 0x00 ∷ 0x00 ∷ 0x00 ∷ []

abbrev pub resend_request : List ℕ
resend_request = 0x03 ∷ 0x22 ∷ 0xDB ∷ 0x00 ∷ 0x00 ∷ 0x00 ∷ 0x00 ∷ 0x00 ∷ []

-- the responses with no data: success, refused, in progress and busy
abbrev pub success : List ℕ
success = 0x03 ∷ 0xFD ∷ 0x00 ∷ 0x00 ∷ 0x00 ∷ 0x00 ∷ 0x00 ∷ 0x00 ∷ []

abbrev pub refused : List ℕ
refused = 0x03 ∷ 0xFA ∷ 0x03 ∷ 0x00 ∷ 0x00 ∷ 0x00 ∷ 0x00 ∷ 0x00 ∷ []

abbrev pub in_progress : List ℕ
in_progress = 0x03 ∷ 0xF5 ∷ 0x08 ∷ 0x00 ∷ 0x00 ∷ 0x00 ∷ 0x00 ∷ 0x00 ∷ []

abbrev pub busy : List ℕ
busy = 0x03 ∷ 0xED ∷ 0x10 ∷ 0x00 ∷ 0x00 ∷ 0x00 ∷ 0x00 ∷ 0x00 ∷ []

-- GET_COMMS_STATUS' responses: an erase is pending, and none is
abbrev pub pending : List ℕ
pending = 0x03 ∷ 0xF8 ∷ 0x00 ∷ 0x00 ∷ 0x04 ∷ 0x00 ∷ 0x00 ∷ 0x00 ∷ 0x01 ∷ 0x00 ∷ 0x00 ∷ 0x00 ∷ []

abbrev pub none_pending : List ℕ
none_pending = 0x03 ∷ 0xF9 ∷ 0x00 ∷ 0x00 ∷ 0x04 ∷ 0x00 ∷ 0x00 ∷ 0x00 ∷ 0x00 ∷ 0x00 ∷ 0x00 ∷ 0x00 ∷ []

-- one turn of a poll, with this response
abbrev pub turn : List ℕ → List Entry
turn response = waited ∷ [] ++ lpc_exchange comms_request response

-- a HELLO that is answered at once
abbrev pub hello_tried : List Entry
hello_tried = lpc_exchange hello_request hello_response

-- a poll of two turns
abbrev pub erase_poll : List Entry
erase_poll = turn pending ++ turn none_pending

-- an erase that is told that another is pending, is asked again behind a poll of one turn, and is asked for its status behind
-- one of two
abbrev pub erase_tried : List Entry
erase_tried =
    ((lpc_exchange erase_request busy ++ (turn none_pending ++ lpc_exchange erase_request in_progress)) ++ (erase_poll ++ lpc_exchange resend_request success))
    ++ []

-- a HELLO that is refused, answered with a changed byte, and answered with no data
abbrev pub hello_thrice : List Entry
hello_thrice = lpc_exchange hello_request refused ++ (changed_lpc ++ (lpc_exchange hello_request success ++ []))
