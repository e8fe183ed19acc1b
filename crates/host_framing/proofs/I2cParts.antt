-- A send on I2C, put together from its parts.
use Rattle.std.proofs.Common.{◌≡◌, refl, sym, ap, ◌∙◌, subst, ℕ, suc, ◌+◌, ◌<◌, ◌≤◌, Bool, true, false, if◌then◌else◌, List, [], ◌∷◌, ◌++◌, length, take, replicate, get_or, append_assoc, length-take, arith}
use Rattle.std.proofs.lemmas.List.{take_more, length-replicate, replicate-append-replicate}
use Rattle.ec_types.specs.declared.bus.BusKind.TheVariants.{I2c}
use Rattle.ec_model.specs.declared.event.Access.TheVariants.{I2cStartWrite, I2cStartRead, I2cWrite, I2cRead, I2cStop}
use Rattle.ec_model.specs.HostCalls.{HostCall, Did}
use Rattle.ec_model.specs.Heard.{Heard, Bad, Silent, i2c_writes, reads_in_row, heard_if, heard_with}
use Rattle.ec_model.specs.SendI2c.{I2cSend, I2cWasUnstarted, I2cWasUnwritten, I2cWasUnread, I2cWasServed, is_i2c_length}
use Rattle.ec_wire.specs.Calls.{WireView, Made}
use Rattle.ec_wire.proofs.Growth.{made-then, made-as}
use Rattle.host_framing.specs.Parts.{Quiets, Sends}
use Rattle.host_framing.specs.I2cParts.{IsRefused, IsCutShort, I2cReads, I2cHears, I2cTalks}

-- more writes in a row
pub i2c_writes-append : (bytes gots more others : List ℕ) → length gots ≡ length bytes → i2c_writes (bytes ++ more) (gots ++ others) ≡ i2c_writes bytes gots ++ i2c_writes more others
i2c_writes-append [] [] more others each = refl
i2c_writes-append [] (got ∷ gots) more others each = absurd (omega (arith, each))
i2c_writes-append (byte ∷ bytes) [] more others each = absurd (omega (arith, each))
i2c_writes-append (byte ∷ bytes) (got ∷ gots) more others each =
    ap (λ (calls : List HostCall). Did (I2cWrite byte) got ∷ calls) (i2c_writes-append bytes gots more others (omega (arith, each)))

-- the next byte of the packet was written behind those that were taken
written-next : (packet : List ℕ) (place got : ℕ) (old middle new : WireView) → place < length packet → Made (i2c_writes (0xDA ∷ take place packet) (replicate (1 + place) 0)) old middle → Made (Did (I2cWrite (get_or packet place 0)) got ∷ []) middle new →
    Made (i2c_writes (0xDA ∷ take (place + 1) packet) (replicate (1 + place) 0 ++ got ∷ [])) old new
written-next packet place got old middle new inside first next =
    let each : length (replicate (1 + place) 0) ≡ length (0xDA ∷ take place packet) = omega (arith, inside, length-replicate {A = ℕ} (1 + place) 0, length-take place packet) in
    let joined = i2c_writes-append (0xDA ∷ take place packet) (replicate (1 + place) 0) (get_or packet place 0 ∷ []) (got ∷ []) each in
    let more = ap (λ (xs : List ℕ). i2c_writes (0xDA ∷ xs) (replicate (1 + place) 0 ++ got ∷ [])) (take_more packet place 0 inside) in
    made-as _ _ _ _ (sym (more ∙ joined)) (made-then _ _ _ _ _ first next)

-- it was taken, too
pub written-more : (packet : List ℕ) (place : ℕ) (old middle new : WireView) → place < length packet → Made (i2c_writes (0xDA ∷ take place packet) (replicate (1 + place) 0)) old middle → Made (Did (I2cWrite (get_or packet place 0)) 0 ∷ []) middle new →
    Made (i2c_writes (0xDA ∷ take (place + 1) packet) (replicate (1 + (place + 1)) 0)) old new
written-more packet place old middle new inside first next =
    let zeros : replicate (1 + place) 0 ++ 0 ∷ [] ≡ replicate (1 + (place + 1)) 0 = replicate-append-replicate (1 + place) 1 0 ∙ ap (λ (n : ℕ). replicate n 0) (omega arith) in
    made-as _ _ _ _ (ap (λ (gots : List ℕ). i2c_writes (0xDA ∷ take (place + 1) packet) gots) zeros) (written-next packet place 0 old middle new inside first next)

-- it was not
pub written-short : (packet : List ℕ) (place : ℕ) (old middle new : WireView) → place < length packet → Made (i2c_writes (0xDA ∷ take place packet) (replicate (1 + place) 0)) old middle → IsRefused (I2cWrite (get_or packet place 0)) middle new → IsCutShort packet old new
written-short packet place old middle new inside first next =
    let made = written-next packet place next.got old middle new inside first next.made in
    let next_place : suc (place + 1) ≡ place + 1 + 1 = omega arith in
    let bytes : 0xDA ∷ take (place + 1) packet ≡ take (place + 1 + 1) (0xDA ∷ packet) = ap (λ (n : ℕ). take n (0xDA ∷ packet)) next_place in
    let few : place + 1 ≤ length packet = omega (arith, inside) in
    let counted : 1 + place ≡ place + 1 = omega arith in
    let zeros : replicate (1 + place) 0 ≡ replicate (place + 1) 0 = ap (λ (n : ℕ). replicate n 0) counted in
    record {
      taken = place + 1;
      got = next.got;
      some = few;
      refused = next.refused;
      made = made-as _ _ _ _ (ap (λ (xs : List ℕ). i2c_writes xs (replicate (1 + place) 0 ++ next.got ∷ [])) bytes ∙ ap (λ (gots : List ℕ). i2c_writes (take (place + 1 + 1) (0xDA ∷ packet)) (gots ++ next.got ∷ [])) zeros) made;
    }

-- what is heard where no packet has the length
heard_off : (fits : Bool) (heard : Heard) → fits ≡ false → Bad ≡ heard_if fits heard
heard_off false heard off = refl
heard_off true heard off = cc

-- what is heard where one has
heard_on : (fits : Bool) (heard : Heard) → fits ≡ true → heard ≡ heard_if fits heard
heard_on true heard on = refl
heard_on false heard on = cc

-- no byte is read behind a length that no packet has
none-read : (fits : Bool) (size : ℕ) → fits ≡ false → 0 ≡ (if fits then size else 0)
none-read false size off = refl
none-read true size off = cc

-- as many bytes as the length says are read behind one that a packet has
all-read : (fits : Bool) (size : ℕ) → fits ≡ true → size ≡ (if fits then size else 0)
all-read true size on = refl
all-read false size on = cc

-- a length that no packet has
pub hears-off : (outcome size : ℕ) (old first new : WireView) → is_i2c_length size ≡ false → Made (Did I2cRead outcome ∷ []) old first → Made (Did I2cRead size ∷ []) first new → I2cHears Bad old new
hears-off outcome size old first new off result length_read =
    record {
      outcome = outcome;
      size = size;
      bytes = [];
      whole = none-read (is_i2c_length size) size off;
      heard_is = heard_off (is_i2c_length size) _ off;
      made = made-then _ _ _ _ _ result length_read;
    }

-- a length, and as many bytes
pub hears-all : (outcome size : ℕ) (cleared bytes : List ℕ) (heard : Heard) (old first second new : WireView) → is_i2c_length size ≡ true → cleared ≡ [] → Made (Did I2cRead outcome ∷ []) old first → Made (Did I2cRead size ∷ []) first second →
    I2cReads size cleared bytes second new → heard ≡ heard_with outcome bytes → I2cHears heard old new
hears-all outcome size cleared bytes heard old first second new on none result length_read reads judged =
    let same : bytes ≡ reads.bytes = reads.appended ∙ ap (λ (xs : List ℕ). xs ++ reads.bytes) none in
    record {
      outcome = outcome;
      size = size;
      bytes = reads.bytes;
      whole = reads.each ∙ all-read (is_i2c_length size) size on;
      heard_is = judged ∙ ap (λ (xs : List ℕ). heard_with outcome xs) same ∙ heard_on (is_i2c_length size) (heard_with outcome reads.bytes) on;
      made = made-then _ _ _ _ _ result (made-then _ _ _ _ _ length_read reads.made);
    }

-- a start that was not taken
pub talks-unstarted : (packet : List ℕ) (old new : WireView) → IsRefused I2cStartWrite old new → I2cTalks packet Silent old new
talks-unstarted packet old new start =
    record {
      calls = Did I2cStartWrite start.got ∷ [];
      sends = λ stopped. I2cWasUnstarted (record { got = start.got; stopped = stopped; refused = start.refused; made = refl }) refl;
      made = start.made;
    }

-- a byte that was not taken
pub talks-unwritten : (packet bytes : List ℕ) (old first new : WireView) → bytes ≡ packet → Made (Did I2cStartWrite 0 ∷ []) old first → IsCutShort bytes first new → I2cTalks packet Bad old new
talks-unwritten packet bytes old first new same start writes =
    let short = subst (λ (xs : List ℕ). IsCutShort xs first new) same writes in
    record {
      calls = Did I2cStartWrite 0 ∷ i2c_writes (take (short.taken + 1) (0xDA ∷ packet)) (replicate short.taken 0 ++ short.got ∷ []);
      sends = λ stopped. I2cWasUnwritten (record { taken = short.taken; got = short.got; stopped = stopped; some = short.some; refused = short.refused; made = refl }) refl;
      made = made-then _ _ _ _ _ start short.made;
    }

-- the calls of a request that was taken
abbrev pub asked_calls : List ℕ → List HostCall
asked_calls packet = Did I2cStartWrite 0 ∷ i2c_writes (0xDA ∷ packet) (replicate (1 + length packet) 0)

-- a request that was taken
pub asked-made : (packet bytes : List ℕ) (old first second : WireView) → bytes ≡ packet → Made (Did I2cStartWrite 0 ∷ []) old first → Made (i2c_writes (0xDA ∷ bytes) (replicate (1 + length bytes) 0)) first second → Made (asked_calls packet) old second
asked-made packet bytes old first second same start writes =
    made-then _ _ _ _ _ start (subst (λ (xs : List ℕ). Made (i2c_writes (0xDA ∷ xs) (replicate (1 + length xs) 0)) first second) same writes)

-- a start of the read that was not taken
pub talks-unread : (packet bytes : List ℕ) (old first second new : WireView) → bytes ≡ packet → Made (Did I2cStartWrite 0 ∷ []) old first → Made (i2c_writes (0xDA ∷ bytes) (replicate (1 + length bytes) 0)) first second → IsRefused I2cStartRead second new → I2cTalks packet Bad old new
talks-unread packet bytes old first second new same start writes again =
    record {
      calls = asked_calls packet ++ Did I2cStartRead again.got ∷ [];
      sends = λ stopped. I2cWasUnread (record {
        first = asked_calls packet;
        got = again.got;
        stopped = stopped;
        asked = record { made = refl };
        refused = again.refused;
        made = append_assoc (asked_calls packet) (Did I2cStartRead again.got ∷ []) (Did I2cStop stopped ∷ []);
      }) refl;
      made = made-then _ _ _ _ _ (asked-made packet bytes old first second same start writes) again.made;
    }

-- a response that was read
pub talks-served : (packet bytes : List ℕ) (heard : Heard) (old first second third new : WireView) → bytes ≡ packet → Made (Did I2cStartWrite 0 ∷ []) old first → Made (i2c_writes (0xDA ∷ bytes) (replicate (1 + length bytes) 0)) first second → Made (Did I2cStartRead 0 ∷ []) second third →
    I2cHears heard third new → I2cTalks packet heard old new
talks-served packet bytes heard old first second third new same start writes again hears =
    record {
      calls = asked_calls packet ++ Did I2cStartRead 0 ∷ Did I2cRead hears.outcome ∷ Did I2cRead hears.size ∷ reads_in_row I2cRead hears.bytes;
      sends = λ stopped. I2cWasServed (record {
        first = asked_calls packet;
        outcome = hears.outcome;
        size = hears.size;
        bytes = hears.bytes;
        stopped = stopped;
        asked = record { made = refl };
        whole = hears.whole;
        made = refl;
        heard_is = hears.heard_is;
      });
      made = made-then _ _ _ _ _ (asked-made packet bytes old first second same start writes) (made-then _ _ _ _ _ again hears.made);
    }

-- the calls of a talk and a stop are a send
pub sends-stopped : (packet : List ℕ) (heard : Heard) (old first new : WireView) → I2cTalks packet heard old first → Quiets I2c first new → Sends I2c packet heard old new
sends-stopped packet heard old first new talks stop =
    let made = made-then _ _ _ _ _ talks.made (record { added = stop.added; grows = stop.grows; calls_are = stop.quiet.1.made }) in
    record { added = made.added; grows = made.grows; sent = (made.grows.calls, subst (λ (calls : List HostCall). I2cSend packet calls heard) (sym made.calls_are) (talks.sends stop.quiet.1.got)) }
