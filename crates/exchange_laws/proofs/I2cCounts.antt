-- How many calls a send on I2C makes that hears a reply.
use Rattle.std.proofs.Common.{◌≡◌, refl, ap, ◌∙◌, ℕ, ◌+◌, Bool, true, false, ◌==◌, if◌then◌else◌, List, [], ◌∷◌, ◌++◌, length, replicate, length-append, arith}
use Rattle.std.proofs.lemmas.List.{length-replicate}
use Rattle.ec_model.specs.declared.event.Access.{Access}
use Rattle.ec_model.specs.declared.event.Access.TheVariants.{I2cStartWrite, I2cStartRead, I2cRead, I2cStop}
use Rattle.ec_model.specs.Packet.{is_response}
use Rattle.ec_model.specs.Bus.{low_status}
use Rattle.ec_model.specs.HostCalls.{HostCall, Did}
use Rattle.ec_model.specs.Heard.{Heard, Reply, Bad, Silent, i2c_writes, reads_in_row, heard_if}
use Rattle.ec_model.specs.SendI2c.{I2cServed, I2cSend, I2cWasUnstarted, I2cWasUnwritten, I2cWasUnread, I2cWasServed, is_i2c_length}

-- writes of bytes are as many as the bytes
length-writes : (bytes gots : List ℕ) → length gots ≡ length bytes → length (i2c_writes bytes gots) ≡ length bytes
length-writes [] gots each = refl
length-writes (byte ∷ bytes) [] each = absurd (omega (arith, each))
length-writes (byte ∷ bytes) (got ∷ gots) each = omega (arith, length-writes bytes gots (omega (arith, each)))

-- reads in a row are as many as the bytes
length-reads : (access : Access) (bytes : List ℕ) → length (reads_in_row access bytes) ≡ length bytes
length-reads access [] = refl
length-reads access (byte ∷ bytes) = omega (arith, length-reads access bytes)

-- the bytes of what was heard
abbrev bytes_of : Heard → List ℕ
bytes_of (Reply bytes) = bytes
bytes_of Bad = []
bytes_of Silent = []

-- a reply has the bytes that were read
heard-bytes : (fits same is : Bool) (bytes response : List ℕ) → Reply response ≡ heard_if fits (if same then (if is then Reply bytes else Bad) else Bad) → response ≡ bytes
heard-bytes true true true bytes response heard = ap bytes_of heard
heard-bytes true true false bytes response heard = absurd (cc)
heard-bytes true false is bytes response heard = absurd (cc)
heard-bytes false same is bytes response heard = absurd (cc)

-- a send whose response was read
served-counts : (packet : List ℕ) (calls : List HostCall) (response : List ℕ) → I2cServed packet calls (Reply response) → length calls ≡ length packet + length response + 6
served-counts packet calls response served =
    let writes = i2c_writes (0xDA ∷ packet) (replicate (1 + length packet) 0) in
    let reads = reads_in_row I2cRead served.bytes in
    let stop = Did I2cStop served.stopped ∷ [] in
    let first = Did I2cStartWrite 0 ∷ writes in
    let middle = Did I2cStartRead 0 ∷ Did I2cRead served.outcome ∷ Did I2cRead served.size ∷ reads in
    let made : calls ≡ first ++ middle ++ stop = served.made ∙ ap (λ (xs : List HostCall). xs ++ middle ++ stop) served.asked.made in
    let written : length writes ≡ 1 + length packet = length-writes (0xDA ∷ packet) (replicate (1 + length packet) 0) (length-replicate (1 + length packet) 0 ∙ omega arith) ∙ omega arith in
    let heard : response ≡ served.bytes = heard-bytes (is_i2c_length served.size) (served.outcome == low_status served.bytes) (is_response served.bytes) served.bytes response served.heard_is in
    ap length made ∙ omega (arith, length-append (first ++ middle) stop, length-append first middle, written, length-reads I2cRead served.bytes, ap length heard)

-- a send that heard a reply
pub i2c-counts : (packet : List ℕ) (calls : List HostCall) (response : List ℕ) → I2cSend packet calls (Reply response) → length calls ≡ length packet + length response + 6
i2c-counts packet calls response (I2cWasUnstarted unstarted silent) = absurd (cc)
i2c-counts packet calls response (I2cWasUnwritten unwritten bad) = absurd (cc)
i2c-counts packet calls response (I2cWasUnread unread bad) = absurd (cc)
i2c-counts packet calls response (I2cWasServed served) = served-counts packet calls response served
