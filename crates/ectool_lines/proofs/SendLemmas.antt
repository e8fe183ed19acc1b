-- Commands of a line, one after the other.
use Rattle.std.proofs.Common.{◌≡◌, refl, sym, ap, ◌∙◌, subst, ℕ, zero, suc, ◌+◌, ◌-◌, ◌*◌, ◌/◌, ◌%◌, ◌^◌, ◌==◌, ◌<◌, ◌≤◌, Bool, true, false, not, ◌&&◌, if◌then◌else◌, List, [], ◌∷◌, ◌++◌, length, take, drop, append_assoc, append-nil, ◌⊎◌, inl, inr, arith}
use Rattle.std.proofs.Math.Nat.{div-le_of_le-mul, div-mul-le_self, mul-le-mul_right, suc-mul}
use Rattle.std.proofs.lemmas.Bool.{cases_lt}
use Rattle.std.proofs.lemmas.Bool.Decides.{eqb_tells}
use Rattle.ec_model.proofs.GuardSteps.{if_cases}
use Rattle.std.specs.Prelude.{replicate}
use Rattle.std.proofs.lemmas.List.{length-take, length-append, length-replicate}
use Rattle.ec_types.specs.Tables.{packet_limit}
use Rattle.ec_types.specs.declared.bus.BusKind.{BusKind}
use Rattle.ec_types.specs.declared.bus.BusKind.TheVariants.{Lpc, I2c, Spi}
use Rattle.ec_types.specs.LittleEndian.{u32_bytes}
use Rattle.ec_model.specs.Bodies.{flash_write_ask, test_ask, vboot_hash_ask}
use Rattle.ec_model.specs.InfoRows.{zero_padded}
use Rattle.ec_model.specs.declared.event.Entry.{Entry}
use Rattle.ec_model.specs.Heard.{Heard, Reply, Bad as HeardBad, Silent as HeardSilent}
use Rattle.ec_model.specs.HostCalls.{on_after}
use Rattle.ec_model.specs.Packet.{response_view}
use Rattle.ec_wire.specs.Calls.{WireView, Grows}
use Rattle.ec_wire.proofs.Growth.{grows-nil, grows-then}
use Rattle.exchange_laws.specs.Served.{IsPlain, is_cold_body}
use Rattle.exchange_laws.proofs.Spelled.{plain-spelled}
use Rattle.ec_model.specs.HostCalls.{HostView}
use Rattle.ec_model.specs.Tries.{Said, Answered}
use Rattle.command_laws.specs.Carried.{tells_any}
use Rattle.command_laws.specs.Restarting.{RestartEnd, Sent as RestartSent, NoPower as RestartNoPower, Upset as RestartUpset, Short as RestartShort}
use Rattle.command_laws.proofs.Sized.{tries-sized}
use Rattle.host_transport.specs.Asking.{host_view}
use Rattle.host_transport.specs.Once.{Ending, Said as Told, Bad as BadEnding, Silent as SilentEnding, NoPower as OffEnding, AskedOnce, AsksOnce, ended, heard_as}
use Rattle.host_transport.specs.Restarting.{RestartsOn}
use Rattle.host_transport.specs.Trying.{said_of, TriesOn}
use Rattle.host_transport.specs.declared.ending.Said.{Said as SaidOf}
use Rattle.host_transport.specs.declared.ending.Said.TheVariants.{Ok, Status, NoPower, Upset, Short}
use Rattle.host_transport.proofs.WireParts.{view-after}
use Rattle.ectool_lines.specs.declared.tool.Tool.{Tool}
use Rattle.ectool_lines.specs.declared.tool.Tool.TheVariants.{Hello, Version, ChipInfo, CmdVersions, ProtoInfo, FlashInfo, RegionInfo, FlashRead, FlashWrite, FlashErase, FlashProtect, Hash, HashAbort, HashStart, HashRange, Sysinfo, Reboot, RebootCold, Test, Resend}
use Rattle.ectool_lines.specs.Tools.{IsInRange}
use Rattle.ectool_lines.specs.Requests.{Asked, Way, Once, Restart, Try, way_of, is_cold, request_of, packet_of, first_of, parts_of, count_of, image_offset, command_of, commands_of}
use Rattle.ectool_lines.specs.Sending.{most_text, IsReply}
use Rattle.ectool_lines.specs.Texts.{Succeeded, Stopped, printed, replies_text, reply_text, closing_text, refusal_text}
use Rattle.ectool_lines.specs.Asking.{AllSucceed, IsSuccess, StopsAt, said_once, said_restart, GoesBy, Hears, HearsOn, CarriesTool}

-- one more success behind others
pub succeed-more : {State : Type 0} (asks : State → Asked → List Entry → Said → State → Type 0) (old : State) (commands : List Asked) (entries : List Entry) (bodies : List (List ℕ)) (middle : State) (asked : Asked) (last : List Entry) (body : List ℕ) (new : State) →
    AllSucceed asks old commands entries bodies middle → asks middle asked last (Answered 0 body) new → AllSucceed asks old (commands ++ asked ∷ []) (entries ++ last) (bodies ++ body ∷ []) new
succeed-more asks old [] entries bodies middle asked last body new before here =
    (last, [], body, [], new, ap (λ (front : List Entry). front ++ last) before.0 ∙ sym (append-nil last), ap (λ (front : List (List ℕ)). front ++ body ∷ []) before.1, subst (λ (state : _). asks state asked last (Answered 0 body) new) before.2 here, (refl, refl, refl))
succeed-more asks old (command ∷ commands) entries bodies middle asked last body new (first, rest, said, others, between, entries_are, bodies_are, asks_first, more) here = (
  first,
  rest ++ last,
  said,
  others ++ body ∷ [],
  between,
  ap (λ (front : List Entry). front ++ last) entries_are ∙ append_assoc first rest last,
  ap (λ (front : List (List ℕ)). front ++ body ∷ []) bodies_are,
  asks_first,
  succeed-more asks between commands rest others middle asked last body new more here,
)

-- what one more reply gives to a text
pub replies-more : (tool : Tool) (bodies : List (List ℕ)) (body : List ℕ) → replies_text tool (bodies ++ body ∷ []) ≡ replies_text tool bodies ++ reply_text tool body
replies-more tool [] body = append-nil (reply_text tool body)
replies-more tool (first ∷ bodies) body =
    ap (λ (rest : List ℕ). reply_text tool first ++ rest) (replies-more tool bodies body) ∙ sym (append_assoc (reply_text tool first) (replies_text tool bodies) (reply_text tool body))

-- what follows the first ones, and the one behind them
abbrev pub Behind : {T : Type 0} → (ℕ → T) → ℕ → ℕ → Type 0
Behind {T} f k count = (after : List T) × (first_of count f ≡ first_of k f ++ f k ∷ after)

-- one more behind them, or the last one itself
behind-by : {T : Type 0} (f : ℕ → T) (k count : ℕ) → (k ≡ count) ⊎ Behind f k count → Behind f k (suc count)
behind-by f k count (inl same) = rw same ([], refl)
behind-by f k count (inr (after, before)) = (after ++ f count ∷ [], ap (λ (front : List _). front ++ f count ∷ []) before ∙ append_assoc (first_of k f) (f k ∷ after) (f count ∷ []))

-- the commands behind the first ones
pub first_of-split : {T : Type 0} (f : ℕ → T) (k count : ℕ) → k < count → Behind f k count
first_of-split f k zero small = absurd (omega (arith, small))
first_of-split f k (suc count) small = behind-by f k count (elim (cases_lt k count) [ inl less ↦ inr (first_of-split f k count less) | inr more ↦ inl (omega (arith, small, more)) ])

-- two numbers that a test finds equal
pub eq-of : (a b : ℕ) → (a == b) ≡ true → a ≡ b
eq-of a b same = grind (arith, eqb_tells)

-- the parts of an end
abbrev told_status : Ending → ℕ
told_status (Told status body) = status
told_status other = 0

abbrev told_body : Ending → List ℕ
told_body (Told status body) = body
told_body other = []

abbrev said_body : Said → List ℕ
said_body (Answered status body) = body
said_body other = []

-- the status that is said
abbrev status_said : Said → ℕ
status_said (Answered status body) = status
status_said other = 0

-- what is said is no success
pub no-success : (said : SaidOf) (body : List ℕ) (test : Bool) → ((bytes : List ℕ) → said_of said bytes ≡ Answered 0 bytes → test ≡ true) → test ≡ false → ¬ IsSuccess (said_of said body)
no-success Ok body test succeeds none = λ success. let yes = succeeds body refl in cc
no-success (Status status) body test succeeds none = λ success.
    let zero_is : status ≡ 0 = ap status_said success.1 in
    let yes = succeeds body (ap (λ (n : ℕ). Answered n body) zero_is) in
    cc
no-success NoPower body test succeeds none = λ success. let same = success.1 in cc
no-success Upset body test succeeds none = λ success. let same = success.1 in cc
no-success Short body test succeeds none = λ success. let same = success.1 in cc

-- so many commands of a line were sent, and each was a success; this is the text so far
pub record Went (tool : Tool) (k : ℕ) (old new : WireView) (text : List ℕ) : Type 0 where
  pub added : List Entry
  pub bodies : List (List ℕ)
  pub grows : Grows added old new
  pub succeeded : AllSucceed (Hears old.bus) (host_view old) (first_of k (command_of (packet_limit old.bus) tool)) added bodies (host_view new)
  pub text_is : text ≡ replies_text tool bodies

-- nothing was sent yet
pub went-nothing : (tool : Tool) (view : WireView) → Went tool 0 view view []
went-nothing tool view = record { added = []; bodies = []; grows = grows-nil view; succeeded = (refl, refl, refl); text_is = refl }

-- how a command goes, by the two tests
way-once : (asked : Asked) → tells_any asked.command ≡ true → way_of asked ≡ Once
way-once asked once = ap (λ (test : Bool). if test then Once else if is_cold asked then Restart else Try) once

way-restart : (asked : Asked) → tells_any asked.command ≡ false → is_cold asked ≡ true → way_of asked ≡ Restart
way-restart asked other cold = ap (λ (test : Bool). if test then Once else if is_cold asked then Restart else Try) other ∙ ap (λ (test : Bool). if test then Restart else Try) cold

way-try : (asked : Asked) → tells_any asked.command ≡ false → is_cold asked ≡ false → way_of asked ≡ Try
way-try asked other warm = ap (λ (test : Bool). if test then Once else if is_cold asked then Restart else Try) other ∙ ap (λ (test : Bool). if test then Restart else Try) warm

-- the tests behind a way
pub once-test : (once cold : Bool) → (if once then Once else if cold then Restart else Try) ≡ Once → once ≡ true
once-test true cold same = refl
once-test false true same = absurd (cc)
once-test false false same = absurd (cc)

pub try-test : (once cold : Bool) → (if once then Once else if cold then Restart else Try) ≡ Try → (once ≡ false) × (cold ≡ false)
try-test true cold same = absurd (cc)
try-test false true same = absurd (cc)
try-test false false same = (refl, refl)

-- what is heard of a command that went its way
hears-by : (way : Way) (asked : Asked) (said : Said) (added : List Entry) (old new : WireView) → way_of asked ≡ way → Grows added old new → GoesBy way old.bus (host_view old) asked added said → HearsOn asked said old new
hears-by way asked said added old new is grows goes =
    record {
      added = added;
      grows = grows;
      hears = record {
        goes = subst (λ (w : Way). GoesBy w old.bus (host_view old) asked added said) (sym is) goes;
        steps = grows.steps;
        after_is = view-after added old new grows;
      };
    }

-- a command that was sent once
pub hears-once : (asked : Asked) (ending : Ending) (said : Said) (old new : WireView) → tells_any asked.command ≡ true → said ≡ said_once ending → AsksOnce (packet_of asked) asked.want ending old new → HearsOn asked said old new
hears-once asked ending said old new once same asks =
    hears-by Once asked said asks.added old new (way-once asked once) asks.grows (record { ending = ending; once = asks.asked; said_is = same })

-- a restart
pub hears-restart : (asked : Asked) (end : RestartEnd) (said : Said) (old new : WireView) → tells_any asked.command ≡ false → is_cold asked ≡ true → said ≡ said_restart end → RestartsOn 0 end old new → HearsOn asked said old new
hears-restart asked end said old new other cold same restarts =
    hears-by Restart asked said restarts.added old new (way-restart asked other cold) restarts.grows (record { end = end; restarts = restarts.part; said_is = same })

-- a command that was tried
pub hears-tried : (asked : Asked) (said : Said) (old new : WireView) → tells_any asked.command ≡ false → is_cold asked ≡ false → TriesOn 0 (request_of asked) asked.want said old new → HearsOn asked said old new
hears-tried asked said old new other warm tries =
    hears-by Try asked said tries.added old new (way-try asked other warm) tries.grows tries.part

-- a reply of a request that was sent once and answered with success, by two tests
told-by : (on success fits : Bool) (want status : ℕ) (told body : List ℕ) → (status == 0) ≡ success → (length told == want) ≡ fits → ended on (if success && not fits then BadEnding else Told status told) ≡ Told 0 body → length body ≡ want
told-by true true true want status told body zero_is sized same = sym (ap (λ (e : Ending). length (told_body e)) same) ∙ eq-of (length told) want sized
told-by true true false want status told body zero_is sized same = absurd (cc)
told-by true false fits want status told body zero_is sized same =
    let none : status ≡ 0 = ap told_status same in
    let yes : (status == 0) ≡ true = ap (λ (n : ℕ). n == 0) none in
    absurd (cc)
told-by false success fits want status told body zero_is sized same = absurd (cc)

heard-sized : (on : Bool) (want : ℕ) (heard : Heard) (body : List ℕ) → ended on (heard_as want heard) ≡ Told 0 body → length body ≡ want
heard-sized on want (Reply bytes) body same = let view = response_view bytes in told-by on (view.status == 0) (length view.body == want) want view.status view.body body refl refl same
heard-sized true want HeardBad body same = absurd (cc)
heard-sized false want HeardBad body same = absurd (cc)
heard-sized true want HeardSilent body same = absurd (cc)
heard-sized false want HeardSilent body same = absurd (cc)

asked-sized : (on : Bool) (bus : BusKind) (packet : List ℕ) (want : ℕ) (entries : List Entry) (ending : Ending) (body : List ℕ) → AskedOnce on bus packet want entries ending → ending ≡ Told 0 body → length body ≡ want
asked-sized true bus packet want entries ending body asked same = heard-sized (on_after entries true) want asked.heard body (sym asked.ending_is ∙ same)
asked-sized false bus packet want entries ending body asked same = let none = asked.ending_is in absurd (cc)

-- a success that was said of it
once-success : (ending : Ending) (body : List ℕ) → said_once ending ≡ Answered 0 body → ending ≡ Told 0 body
once-success (Told status told) body same =
    let number : status ≡ 0 = ap status_said same in
    let bytes : told ≡ body = ap said_body same in
    rw (number, bytes) refl
once-success BadEnding body same = absurd (cc)
once-success SilentEnding body same = absurd (cc)
once-success OffEnding body same = absurd (cc)

restart-sized : (end : RestartEnd) (body : List ℕ) → said_restart end ≡ Answered 0 body → body ≡ []
restart-sized RestartSent body same = sym (ap said_body same)
restart-sized RestartNoPower body same = absurd (cc)
restart-sized RestartUpset body same = absurd (cc)
restart-sized RestartShort body same = absurd (cc)

goes-sized : (way : Way) (bus : BusKind) (view : HostView) (asked : Asked) (entries : List Entry) (body : List ℕ) → GoesBy way bus view asked entries (Answered 0 body) → (length body ≡ asked.want) ⊎ (body ≡ [])
goes-sized Once bus view asked entries body goes = inl (asked-sized view.on bus (packet_of asked) asked.want entries goes.ending body goes.once (once-success goes.ending body (sym goes.said_is)))
goes-sized Restart bus view asked entries body goes = inr (restart-sized goes.end body (sym goes.said_is))
goes-sized Try bus view asked entries body goes = tries-sized (record { bus = bus; floor = 0 }) (request_of asked) asked.want view entries (Answered 0 body) body goes refl

-- a success has as many bytes as are wanted, or none
pub hears-sized : (asked : Asked) (said : Said) (body : List ℕ) (old new : WireView) → said ≡ Answered 0 body → HearsOn asked said old new → (length body ≡ asked.want) ⊎ (body ≡ [])
hears-sized asked said body old new same hears =
    goes-sized (way_of asked) old.bus (host_view old) asked hears.added body (subst (λ (s : Said). GoesBy (way_of asked) old.bus (host_view old) asked hears.added s) same (hears.hears).goes)

-- what is heard of a command of a line, behind others
heard-behind : (asked command : Asked) (said : Said) (old middle new : WireView) → asked ≡ command → middle.bus ≡ old.bus → (hears : HearsOn asked said middle new) → Hears old.bus (host_view middle) command hears.added said (host_view new)
heard-behind asked command said old middle new same bus hears =
    subst (λ (kind : BusKind). Hears kind (host_view middle) command hears.added said (host_view new)) bus
    (subst (λ (sent : Asked). Hears middle.bus (host_view middle) sent hears.added said (host_view new)) same hears.hears)

-- the next command was a success, too
pub went-on : (tool : Tool) (k : ℕ) (old middle new : WireView) (text body : List ℕ) (asked : Asked) → asked ≡ command_of (packet_limit old.bus) tool k → Went tool k old middle text → HearsOn asked (Answered 0 body) middle new → Went tool (k + 1) old new (text ++ reply_text tool body)
went-on tool k old middle new text body asked same went asks =
    let each = command_of (packet_limit old.bus) tool in
    let heard = heard-behind asked (each k) (Answered 0 body) old middle new same went.grows.bus asks in
    let next : suc k ≡ k + 1 = omega arith in
    subst (λ (count : ℕ). Went tool count old new (text ++ reply_text tool body)) next (record {
      added = went.added ++ asks.added;
      bodies = went.bodies ++ body ∷ [];
      grows = grows-then went.added asks.added old middle new went.grows asks.grows;
      succeeded = succeed-more (Hears old.bus) (host_view old) (first_of k each) went.added went.bodies (host_view middle) (each k) asks.added body (host_view new) went.succeeded heard;
      text_is = ap (λ (front : List ℕ). front ++ reply_text tool body) went.text_is ∙ sym (replies-more tool went.bodies body);
    })

-- a line whose commands were all a success
pub went-all : (tool : Tool) (old new : WireView) (text : List ℕ) → Went tool (count_of (packet_limit old.bus) tool) old new text → CarriesTool tool (printed (text ++ closing_text tool)) old new
went-all tool old new text went =
    record {
      added = went.added;
      end = Succeeded went.bodies;
      grows = went.grows;
      asks = went.succeeded;
      text_is = ap (λ (front : List ℕ). printed (front ++ closing_text tool)) went.text_is;
    }

-- a line one of whose commands was no success
pub went-stopped : (tool : Tool) (k : ℕ) (old middle new : WireView) (text : List ℕ) (asked : Asked) (said : Said) → k < count_of (packet_limit old.bus) tool → asked ≡ command_of (packet_limit old.bus) tool k → ¬ IsSuccess said → Went tool k old middle text → HearsOn asked said middle new →
    CarriesTool tool (printed (refusal_text said)) old new
went-stopped tool k old middle new text asked said there same refused went asks =
    let each = command_of (packet_limit old.bus) tool in
    let split = first_of-split each k (count_of (packet_limit old.bus) tool) there in
    let stops : StopsAt (Hears old.bus) (host_view old) (commands_of (packet_limit old.bus) tool) (went.added ++ asks.added) said (host_view new) = record {
      before = first_of k each;
      asked = each k;
      after = split.0;
      first = went.added;
      last = asks.added;
      bodies = went.bodies;
      middle = host_view middle;
      commands_are = split.1;
      entries_are = refl;
      succeeded = went.succeeded;
      asks_last = heard-behind asked (each k) said old middle new same went.grows.bus asks;
      refused = refused;
    } in
    record {
      added = went.added ++ asks.added;
      end = Stopped said;
      grows = grows-then went.added asks.added old middle new went.grows asks.grows;
      asks = stops;
      text_is = refl;
    }

-- the limits of the buses
pub limit-least : (bus : BusKind) → 128 ≤ packet_limit bus
limit-least Lpc = omega arith
limit-least I2c = omega arith
limit-least Spi = omega arith

pub limit-most : (bus : BusKind) → packet_limit bus ≤ 544
limit-most Lpc = omega arith
limit-most I2c = omega arith
limit-most Spi = omega arith

-- a limit by the bus that was told
pub limit-is : (limit : ℕ) (kind bus : BusKind) → limit ≡ packet_limit kind → kind ≡ bus → limit ≡ packet_limit bus
limit-is limit kind bus told same = told ∙ ap packet_limit same

-- the count of a line's commands, by an equal limit
pub count-is : (limit own count : ℕ) (tool : Tool) → limit ≡ own → count ≡ count_of limit tool → count ≡ count_of own tool
count-is limit own count tool same told = told ∙ ap (λ (n : ℕ). count_of n tool) same

-- a command of a line, by an equal limit
pub asked-is : (limit own k : ℕ) (tool : Tool) (asked : Asked) → limit ≡ own → asked ≡ command_of limit tool k → asked ≡ command_of own tool k
asked-is limit own k tool asked same told = told ∙ ap (λ (n : ℕ). command_of n tool k) same

-- in how few parts a short range goes
parts-few : (most size : ℕ) → 112 ≤ most → size ≤ 4096 → parts_of most size ≤ 38
parts-few most size large small =
    let parts : (size - 1) / most ≤ 37 = div-le_of_le-mul most (omega (arith, large, small)) in
    if_cases (λ (parts : ℕ). parts ≤ 38) (size == 0) 1 ((size - 1) / most + 1) (λ none. omega arith) (λ some. omega (arith, parts))

-- how many commands a line sends
pub count-few : (limit : ℕ) (tool : Tool) → 128 ≤ limit → IsInRange tool → count_of limit tool ≤ 38
count-few limit Hello large within = omega arith
count-few limit Version large within = omega arith
count-few limit ChipInfo large within = omega arith
count-few limit (CmdVersions number) large within = omega arith
count-few limit ProtoInfo large within = omega arith
count-few limit FlashInfo large within = omega arith
count-few limit (RegionInfo region) large within = omega arith
count-few limit (FlashRead at size) large within = parts-few (limit - 8) size (omega (arith, large)) within
count-few limit (FlashWrite at bytes) large within = parts-few (limit - 16) (length bytes) (omega (arith, large)) within.1
count-few limit (FlashErase at size) large within = omega arith
count-few limit (FlashProtect mask flags) large within = omega arith
count-few limit Hash large within = omega arith
count-few limit HashAbort large within = omega arith
count-few limit (HashStart image nonce) large within = omega arith
count-few limit (HashRange at size) large within = omega arith
count-few limit Sysinfo large within = omega arith
count-few limit (Reboot cmd) large within = omega arith
count-few limit RebootCold large within = omega arith
count-few limit (Test ec_result ret_len bytes) large within = omega arith
count-few limit Resend large within = omega arith

-- the parts of a short range before one of its parts
parts-before : (most size k : ℕ) → size ≤ 4096 → k < parts_of most size → k * most ≤ 4096
parts-before most size k small there =
    if_cases (λ (parts : ℕ). k < parts → k * most ≤ 4096) (size == 0) 1 ((size - 1) / most + 1) (λ none first. let zero_k : k ≡ 0 = omega (arith, first) in rw zero_k (omega arith))
    (λ some more. omega (arith, small, div-mul-le_self (size - 1) most, mul-le-mul_right most (le-of k ((size - 1) / most) more))) there where
      le-of : (a b : ℕ) → a < b + 1 → a ≤ b
      le-of a b less = omega (arith, less)

-- the text of some replies and of one more
pub more-text : (k most : ℕ) → (k + 1) * most ≡ k * most + most
more-text k most = omega (arith, suc-mul k most)

-- twice as much
twice : (k most : ℕ) → k * (2 * most) ≡ 2 * (k * most)
twice k most = omega arith

-- behind no command there is no text
none-before : (k most : ℕ) → k < 1 → most ≤ 2000 → k * most + most ≤ 10000
none-before k most first short = let zero_k : k ≡ 0 = omega (arith, first) in rw zero_k (omega (arith, short))

-- the text of a line's replies is short
pub text-short : (limit : ℕ) (tool : Tool) (k : ℕ) → limit ≤ 544 → IsInRange tool → k < count_of limit tool → k * most_text tool (limit - 8) + most_text tool (limit - 8) ≤ 10000
text-short limit Hello k small within there = none-before k 500 there (omega arith)
text-short limit Version k small within there = none-before k 500 there (omega arith)
text-short limit ChipInfo k small within there = none-before k 500 there (omega arith)
text-short limit (CmdVersions number) k small within there = none-before k 500 there (omega arith)
text-short limit ProtoInfo k small within there = none-before k 500 there (omega arith)
text-short limit FlashInfo k small within there = none-before k 500 there (omega arith)
text-short limit (RegionInfo region) k small within there = none-before k 500 there (omega arith)
text-short limit (FlashRead at size) k small within there = omega (arith, small, twice k (limit - 8), parts-before (limit - 8) size k within there)
text-short limit (FlashWrite at bytes) k small within there = omega arith
text-short limit (FlashErase at size) k small within there = none-before k 500 there (omega arith)
text-short limit (FlashProtect mask flags) k small within there = none-before k 500 there (omega arith)
text-short limit Hash k small within there = none-before k 500 there (omega arith)
text-short limit HashAbort k small within there = none-before k 500 there (omega arith)
text-short limit (HashStart image nonce) k small within there = none-before k 500 there (omega arith)
text-short limit (HashRange at size) k small within there = none-before k 500 there (omega arith)
text-short limit Sysinfo k small within there = none-before k 500 there (omega arith)
text-short limit (Reboot cmd) k small within there = none-before k 500 there (omega arith)
text-short limit RebootCold k small within there = omega (arith, there)
text-short limit (Test ec_result ret_len bytes) k small within there = none-before k (2 * (limit - 8)) there (omega (arith, small))
text-short limit Resend k small within there = none-before k 500 there (omega arith)

-- a longer body gives no shorter text
pub text-more : (tool : Tool) (size most : ℕ) → size ≤ most → most_text tool size ≤ most_text tool most
text-more Hello size most short = omega arith
text-more Version size most short = omega arith
text-more ChipInfo size most short = omega arith
text-more (CmdVersions number) size most short = omega arith
text-more ProtoInfo size most short = omega arith
text-more FlashInfo size most short = omega arith
text-more (RegionInfo region) size most short = omega arith
text-more (FlashRead at count) size most short = omega (arith, short)
text-more (FlashWrite at bytes) size most short = omega arith
text-more (FlashErase at count) size most short = omega arith
text-more (FlashProtect mask flags) size most short = omega arith
text-more Hash size most short = omega arith
text-more HashAbort size most short = omega arith
text-more (HashStart image nonce) size most short = omega arith
text-more (HashRange at count) size most short = omega arith
text-more Sysinfo size most short = omega arith
text-more (Reboot cmd) size most short = omega arith
text-more RebootCold size most short = omega arith
text-more (Test ec_result ret_len bytes) size most short = omega (arith, short)
text-more Resend size most short = omega arith

-- the body of a write of at most so many bytes
write-short : (limit at : ℕ) (bytes : List ℕ) → 128 ≤ limit → length bytes ≤ limit - 16 → 8 + length (flash_write_ask at bytes) ≤ limit
write-short limit at bytes large short = omega (arith, large, short)

-- part of some bytes
part-short : (most start : ℕ) (bytes : List ℕ) → length (take most (drop start bytes)) ≤ most
part-short most start bytes = omega (arith, length-take most (drop start bytes))

-- bytes that are padded have the length that they are padded to
pub padded-length : (size : ℕ) (bytes : List ℕ) → length bytes ≤ size → length (zero_padded size bytes) ≡ size
padded-length size bytes short = omega (arith, length-append bytes (replicate (size - length bytes) 0), length-replicate {A = ℕ} (size - length bytes) 0, short)

-- the body of a TEST_PROTOCOL
test-short : (ec_result ret_len : ℕ) (bytes : List ℕ) → length bytes ≤ 32 → length (test_ask ec_result ret_len (zero_padded 32 bytes)) ≤ 40
test-short ec_result ret_len bytes short = omega (arith, length-append (u32_bytes ec_result ++ u32_bytes ret_len) (zero_padded 32 bytes), padded-length 32 bytes short)

-- the body of a VBOOT_HASH
pub hash-length : (cmd count offset size : ℕ) (nonce : List ℕ) → length nonce ≤ 64 → length (vboot_hash_ask cmd 0 count 0 offset size (zero_padded 64 nonce)) ≡ 76
hash-length cmd count offset size nonce short =
    omega (arith, length-append ((cmd ∷ 0 ∷ count ∷ 0 ∷ []) ++ u32_bytes offset ++ u32_bytes size) (zero_padded 64 nonce), padded-length 64 nonce short)

-- each command of a line fits a packet of its bus
pub command-short : (limit : ℕ) (tool : Tool) (k : ℕ) → 128 ≤ limit → IsInRange tool → 8 + length (command_of limit tool k).body ≤ limit
command-short limit Hello k large within = omega (arith, large)
command-short limit Version k large within = omega (arith, large)
command-short limit ChipInfo k large within = omega (arith, large)
command-short limit (CmdVersions number) k large within = omega (arith, large)
command-short limit ProtoInfo k large within = omega (arith, large)
command-short limit FlashInfo k large within = omega (arith, large)
command-short limit (RegionInfo region) k large within = omega (arith, large)
command-short limit (FlashRead at size) k large within = omega (arith, large)
command-short limit (FlashWrite at bytes) k large within = write-short limit ((at + k * (limit - 16)) % 2 ^ 32) (take (limit - 16) (drop (k * (limit - 16)) bytes)) large (part-short (limit - 16) (k * (limit - 16)) bytes)
command-short limit (FlashErase at size) k large within = omega (arith, large)
command-short limit (FlashProtect mask flags) k large within = omega (arith, large)
command-short limit Hash k large within = omega (arith, large)
command-short limit HashAbort k large within = omega (arith, large)
command-short limit (HashStart image nonce) k large within = omega (arith, large, hash-length 2 (length nonce) (image_offset image) 0 nonce within)
command-short limit (HashRange at size) k large within = omega (arith, large)
command-short limit Sysinfo k large within = omega (arith, large)
command-short limit (Reboot cmd) k large within = omega (arith, large)
command-short limit RebootCold zero large within = omega (arith, large)
command-short limit RebootCold (suc k) large within = omega (arith, large)
command-short limit (Test ec_result ret_len bytes) k large within = omega (arith, large, test-short ec_result ret_len bytes within.2)
command-short limit Resend k large within = omega (arith, large)

-- what a success has at most
pub command-wants : (limit : ℕ) (tool : Tool) (k : ℕ) → 128 ≤ limit → IsInRange tool → (command_of limit tool k).want ≤ limit - 8
command-wants limit Hello k large within = omega (arith, large)
command-wants limit Version k large within = omega (arith, large)
command-wants limit ChipInfo k large within = omega (arith, large)
command-wants limit (CmdVersions number) k large within = omega (arith, large)
command-wants limit ProtoInfo k large within = omega (arith, large)
command-wants limit FlashInfo k large within = omega (arith, large)
command-wants limit (RegionInfo region) k large within = omega (arith, large)
command-wants limit (FlashRead at size) k large within = omega (arith, large)
command-wants limit (FlashWrite at bytes) k large within = omega (arith, large)
command-wants limit (FlashErase at size) k large within = omega (arith, large)
command-wants limit (FlashProtect mask flags) k large within = omega (arith, large)
command-wants limit Hash k large within = omega (arith, large)
command-wants limit HashAbort k large within = omega (arith, large)
command-wants limit (HashStart image nonce) k large within = omega (arith, large)
command-wants limit (HashRange at size) k large within = omega (arith, large)
command-wants limit Sysinfo k large within = omega (arith, large)
command-wants limit (Reboot cmd) k large within = omega (arith, large)
command-wants limit RebootCold zero large within = omega (arith, large)
command-wants limit RebootCold (suc k) large within = omega (arith, large)
command-wants limit (Test ec_result ret_len bytes) k large within = omega (arith, large, within.0)
command-wants limit Resend k large within = omega (arith, large)

-- a command that is no COLD, as it is spelled
pub plain-at : (asked : Asked) → asked.command < 65536 → is_cold asked ≡ false → 8 + length asked.body ≤ 544 → IsPlain (packet_of asked)
plain-at asked small other short = plain-spelled asked.command asked.version asked.body small (omega (arith, short)) other

-- a command that is sent once is no COLD
pub once-plain : (asked : Asked) → tells_any asked.command ≡ true → is_cold asked ≡ false
once-plain asked once = by (asked.command == 0xD2) refl where
  by : (test : Bool) → (asked.command == 0xD2) ≡ test → (test && is_cold_body asked.body) ≡ false
  by false same = refl
  by true same =
      let reboot : tells_any 0xD2 ≡ true = subst (λ (n : ℕ). tells_any n ≡ true) (eq-of asked.command 0xD2 same) once in
      absurd (cc)

-- a command that is sent once is the first of its line
pub once-first : (limit : ℕ) (tool : Tool) (k : ℕ) → k < count_of limit tool → tells_any (command_of limit tool k).command ≡ true → k ≡ 0
once-first limit Hello k there once = omega (arith, there)
once-first limit Version k there once = omega (arith, there)
once-first limit ChipInfo k there once = omega (arith, there)
once-first limit (CmdVersions number) k there once = omega (arith, there)
once-first limit ProtoInfo k there once = omega (arith, there)
once-first limit FlashInfo k there once = omega (arith, there)
once-first limit (RegionInfo region) k there once = omega (arith, there)
once-first limit (FlashRead at size) k there once = absurd (cc)
once-first limit (FlashWrite at bytes) k there once = absurd (cc)
once-first limit (FlashErase at size) k there once = omega (arith, there)
once-first limit (FlashProtect mask flags) k there once = omega (arith, there)
once-first limit Hash k there once = omega (arith, there)
once-first limit HashAbort k there once = omega (arith, there)
once-first limit (HashStart image nonce) k there once = omega (arith, there)
once-first limit (HashRange at size) k there once = omega (arith, there)
once-first limit Sysinfo k there once = omega (arith, there)
once-first limit (Reboot cmd) k there once = omega (arith, there)
once-first limit RebootCold zero there once = refl
once-first limit RebootCold (suc k) there once = absurd (cc)
once-first limit (Test ec_result ret_len bytes) k there once = omega (arith, there)
once-first limit Resend k there once = omega (arith, there)

-- a reply as add_reply wants it
pub reply-fits : (tool : Tool) (limit k : ℕ) (asked : Asked) (body reply : List ℕ) → asked ≡ command_of limit tool k → reply ≡ body → (length body ≡ asked.want) ⊎ (body ≡ []) → IsReply tool reply
reply-fits tool limit k asked body reply same is (inl sized) = inl (limit, k, ap (λ (bytes : List ℕ). length bytes) is ∙ sized ∙ ap (λ (command : Asked). command.want) same)
reply-fits tool limit k asked body reply same is (inr none) = inr (is ∙ none)

-- and how many bytes it has at most
pub reply-few : (limit : ℕ) (tool : Tool) (k : ℕ) (asked : Asked) (body : List ℕ) → 128 ≤ limit → IsInRange tool → asked ≡ command_of limit tool k → (length body ≡ asked.want) ⊎ (body ≡ []) → length body ≤ limit - 8
reply-few limit tool k asked body large within same (inl sized) = omega (arith, sized, ap (λ (command : Asked). command.want) same, command-wants limit tool k large within)
reply-few limit tool k asked body large within same (inr none) = omega (arith, ap (λ (bytes : List ℕ). length bytes) none)

-- a command's number has 16 bits
pub command-number : (limit : ℕ) (tool : Tool) (k : ℕ) → (command_of limit tool k).command < 65536
command-number limit Hello k = omega arith
command-number limit Version k = omega arith
command-number limit ChipInfo k = omega arith
command-number limit (CmdVersions number) k = omega arith
command-number limit ProtoInfo k = omega arith
command-number limit FlashInfo k = omega arith
command-number limit (RegionInfo region) k = omega arith
command-number limit (FlashRead at size) k = omega arith
command-number limit (FlashWrite at bytes) k = omega arith
command-number limit (FlashErase at size) k = omega arith
command-number limit (FlashProtect mask flags) k = omega arith
command-number limit Hash k = omega arith
command-number limit HashAbort k = omega arith
command-number limit (HashStart image nonce) k = omega arith
command-number limit (HashRange at size) k = omega arith
command-number limit Sysinfo k = omega arith
command-number limit (Reboot cmd) k = omega arith
command-number limit RebootCold zero = omega arith
command-number limit RebootCold (suc k) = omega arith
command-number limit (Test ec_result ret_len bytes) k = omega arith
command-number limit Resend k = omega arith
