-- What a request leaves, by its answer.
use Rattle.std.proofs.Common.{◌≡◌, refl, sym, ap, ◌∙◌, subst, ℕ, suc, ◌≤◌, Bool, List, [], length, drop, Option, Some, None, Result, Ok, Err, inl, inr, arith, ◌||◌, true, false}
use Rattle.std.specs.Prelude.{option_map, ◌⊎◌, IsTrue, IsNone}
use Rattle.flash_dev.specs.Told.{Changes}
use Rattle.ec_types.specs.declared.status.Status.{Status}
use Rattle.ec_types.specs.declared.bus.BusKind.{BusKind}
use Rattle.ec_types.specs.declared.bus.BusKind.TheVariants.{Lpc, I2c, Spi}
use Rattle.ec_types.specs.Tables.{packet_limit}
use Rattle.flash_dev.specs.declared.hurt.Hurt.{Hurt}
use Rattle.flash_dev.specs.declared.hurt.Hurt.TheVariants.{Whole, Failed, Cut}
use Rattle.ec_model.specs.declared.event.Event.{Event}
use Rattle.ec_model.specs.Packet.{RequestView, framing, response_packet}
use Rattle.ec_model.specs.Bus.{BusState, BusAnswer, due_now, OnLpc, OnI2c, OnSpi, kind_of, replied, fresh_bus}
use Rattle.ec_model.specs.Table.{Core, table_of, off_table}
use Rattle.ec_model.specs.Answer.{Outcome, Answered, Restarts, is_restart, unless_refused, done}
use Rattle.ec_model.specs.Handle.{Admitted, admitted, admitted_from, asked, row, row_operations, row_of, operations_by, handled, handled_reads, handled_operations}
use Rattle.ec_model.specs.Work.{Serve, After as AfterEvent, work_on, lost_answer}
use Rattle.ec_model.specs.WholeStep.{after_outcome}
use Rattle.ec_model.specs.Step.{after_unread, error_replied, failed_core}
use Rattle.ec_packet.specs.declared.request.Request.{Request}
use Rattle.ec_packet.specs.Read.{request_view, IsReadAs}
use Rattle.ec_wire.specs.Dues.{waiting_request}
use Rattle.ec_boot.specs.declared.awake.Awake.{Awake}
use Rattle.ec_boot.specs.Either.{run_of}
use Rattle.ec_boot.specs.States.{RunView, OffView, core_at, told_core, Follows}
use Rattle.flash_dev.specs.View.{DeviceView}
use Rattle.flash_dev.proofs.Accounting.{account-same}
use Rattle.flash_dev.proofs.Costing.{costs-none}
use Rattle.ec_model.specs.Operations.{Operation}
use Rattle.ec_boot.specs.Ran.{IsStopped, AllBegun, ReadFailed}
use Rattle.command_table.specs.Leaves.{FoundLeaves, HasReply}
use Rattle.command_table.specs.After.{IsLostIn, StaysOn, RestartsAs, GoesOff, boot_hurt}
use Rattle.command_table.specs.Serving.{WearsFor, IsServed, IsDealtWith}
use Rattle.command_table.proofs.WearLemmas.{wears-none, wears-nine}
use Rattle.command_table.specs.declared.reboot.Next.{Next}
use Rattle.ec_boot.specs.declared.awake.Awake.TheVariants.{Ro as AwakeRo}
use Rattle.flash_protect.specs.Setting.{IsLookedAt}
use Rattle.flash_dev.specs.Costs.{Account, Costs}
use Rattle.ec_types.specs.declared.reset.ResetCause.TheVariants.{Cold}
use Rattle.ec_types.specs.LittleEndian.{u32_at}
use Rattle.ec_model.specs.Boot.{booted, booted_table}
use Rattle.ec_model.specs.Commands.{Command, Proto, Hello, Version, Chip, CmdVersions, Comms, Test, ProtoInfo, FlashInfo, FlashRead, FlashWrite, FlashErase, FlashProtect, RegionInfo, Sysinfo, VbootHash, Reboot, Resend}
use Rattle.ec_model.specs.FlashRows.{write_refusal, written}
use Rattle.ec_core.specs.Held.{awake_of, up_table, down_table, answer_by}
use Rattle.ec_core.specs.Task.{IsTakenUp, IsStepped}
use Rattle.ec_core.specs.declared.held.Held.TheVariants.{Down, Up}
use Rattle.ec_core.specs.declared.task.Task.TheVariants.{Serve as ServeTask}
use Rattle.ec_core.proofs.TaskLemmas.{WorkBegun, WorkTold, event-told, step-up, Spends, on-alive, on-after, lost-silent}
use Rattle.ec_core.proofs.BootLemmas.{boot-account, boot-on, boot-spent, fresh-none, same-core}

read-ok : (read : Result RequestView ℕ) (request : Request) → IsReadAs read (Ok request) → read ≡ Ok (request_view request)
read-ok (Ok view) request same = ap (λ (v : RequestView). let r : Result RequestView ℕ = Ok v in r) (sym same)
read-ok (Err number) request wrong = absurd wrong

read-err : (read : Result RequestView ℕ) (status : Status) → IsReadAs read (Err status) → read ≡ Err status.0
read-err (Ok view) status wrong = absurd wrong
read-err (Err number) status same = ap (λ (n : ℕ). let r : Result RequestView ℕ = Err n in r) (sym same)

-- what is done for a packet is what is done for its request
pub packet-served : (next : Next) (limit : ℕ) (bytes : List ℕ) (request : Request) (hurt : Hurt) (status : ℕ) (body : List ℕ) (old new : RunView) → IsReadAs (framing bytes) (Ok request) →
    IsServed next limit (λ core. admitted core (request_view request)) hurt status body old new → IsServed next limit (λ core. asked core bytes) hurt status body old new
packet-served next limit bytes request hurt status body old new read served =
    subst (λ (r : Result RequestView ℕ). IsServed next limit (λ core. admitted_from core r) hurt status body old new) (sym (read-ok (framing bytes) request read)) served

-- the most bytes of a packet
pub record IsLimit (limit : ℕ) : Type 0 where
  pub least : 8 ≤ limit
  pub most : limit ≤ 544

pub limits : (kind : BusKind) → IsLimit (packet_limit kind)
limits Lpc = record { least = omega arith; most = omega arith }
limits I2c = record { least = omega arith; most = omega arith }
limits Spi = record { least = omega arith; most = omega arith }

-- what is done for a packet that is no request
pub packet-refused : (kind : BusKind) (bytes : List ℕ) (error : Status) (hurt : Hurt) (status : ℕ) (body : List ℕ) (on : RunView) → IsReadAs (framing bytes) (Err error) → hurt ≡ Whole → status ≡ error.0 → body ≡ [] →
    IsDealtWith (packet_limit kind) (λ core. asked core bytes) hurt status body on on
packet-refused kind bytes error hurt status body on read whole status_is body_is =
    subst (λ (h : Hurt). IsDealtWith (packet_limit kind) (λ core. asked core bytes) h status body on on) (sym whole)
    (subst (λ (n : ℕ). IsDealtWith (packet_limit kind) (λ core. asked core bytes) Whole n body on on) (sym status_is)
    (subst (λ (b : List ℕ). IsDealtWith (packet_limit kind) (λ core. asked core bytes) Whole error.0 b on on) (sym body_is)
    (record {
      stays = λ core same. ap (λ (r : Result RequestView ℕ). is_restart (row_of core (packet_limit kind) (admitted_from core r))) (read-err (framing bytes) error read);
      leaves = leaves on.device.held;
      pin = refl;
      short = (limits kind).least;
      spent = costs-none 1024 on.device;
      wear = wears-none (λ core. asked core bytes) on on.device refl;
    }))) where
      leaves : (o : Option (List ℕ)) → Changes (λ before after. FoundLeaves (asked before bytes) Whole (packet_limit kind) on.device on.device before after error.0 []) (option_map (core_at on) o) (option_map (core_at on) o)
      leaves None = tt
      leaves (Some f) =
          let core : Core = core_at on f in
          let none = ap (λ (r : Result RequestView ℕ). operations_by core (admitted_from core r)) (read-err (framing bytes) error read) in (
            ap (λ (r : Result RequestView ℕ). row_of core (packet_limit kind) (admitted_from core r)) (read-err (framing bytes) error read),
            subst (λ (operations : List Operation). AllBegun operations on.device on.device core core) (sym none) (account-same [] on.device on.device f f refl),
          )

-- a row that reads
reads-of : (reads restarts : Bool) → IsTrue reads → IsTrue (reads || restarts)
reads-of true restarts is = refl
reads-of false restarts is = cc

unread-of : (core : Core) (bus : BusAnswer) (lost : ℕ) (outcome : Outcome) → HasReply outcome →
    ◌≡◌ {A = AfterEvent} (record { table = table_of core (error_replied bus.state); answer = bus.answer }) (after_unread core bus lost outcome)
unread-of core bus lost (Answered after status body) has = refl
unread-of core bus lost Restarts has = absurd has

-- a table with a reply
abbrev pub with_reply : Core → BusState → ℕ → ℕ → List ℕ → AfterEvent
with_reply core bus answer status body = record { table = table_of core (replied (response_packet status body) bus); answer = answer }

with-error : (core : Core) (bus : BusState) (answer status : ℕ) (body : List ℕ) → status ≡ 2 → body ≡ [] → with_reply core bus answer status body ≡ with_reply core bus answer 2 []
with-error core bus answer status body status_is body_is =
    ap (λ (n : ℕ). with_reply core bus answer n body) status_is ∙ ap (λ (b : List ℕ). with_reply core bus answer 2 b) body_is

-- the work of a request that was replied to
replied-leaves : (hurt : Hurt) (device changed : DeviceView) (before after : Core) (bus : BusState) (answer lost : ℕ) (bytes : List ℕ) (status : ℕ) (body : List ℕ) → (hurt ≡ Cut → ⊥) →
    FoundLeaves (asked before bytes) hurt (packet_limit (kind_of bus)) device changed before after status body →
    WorkBegun hurt (record { state = bus; answer = answer }) lost (Serve bytes) (answer_by hurt answer lost) device changed before (table_of after (replied (response_packet status body) bus))
replied-leaves Whole device changed before after bus answer lost bytes status body alive same = record {
  begun = length (handled_operations before bytes);
  leaves = (refl, sym (ap (after_outcome before (record { state = bus; answer = answer }) lost) same.0));
  account = same.1;
}
replied-leaves Cut device changed before after bus answer lost bytes status body alive leaves = absurd (alive refl)
replied-leaves Failed device changed before after bus answer lost bytes status body alive failed = by failed.what where
  by : (IsTrue (handled_reads before (packet_limit (kind_of bus)) bytes) × HasReply (handled before (packet_limit (kind_of bus)) bytes) × ReadFailed (handled_operations before bytes) device changed before after)
      ⊎ IsStopped Failed (handled_operations before bytes) device changed before after →
      WorkBegun Failed (record { state = bus; answer = answer }) lost (Serve bytes) answer device changed before (table_of after (replied (response_packet status body) bus))
  by (inl read) = record {
    begun = 0;
    leaves = inl (
      refl,
      record {
        reads = reads-of (handled_reads before (packet_limit (kind_of bus)) bytes) (is_restart (handled before (packet_limit (kind_of bus)) bytes)) read.0;
        leaves = ap (λ (c : Core). with_reply c bus answer status body) read.2.0 ∙ with-error before bus answer status body failed.status_is failed.body_is
            ∙ unread-of before (record { state = bus; answer = answer }) lost (handled before (packet_limit (kind_of bus)) bytes) read.1;
      },
    );
    account = read.2.1;
  }
  by (inr stopped) = record {
    begun = suc stopped.place;
    leaves = inr (
      record {
        place = stopped.place;
        flash = after.flash;
        stops = stopped.stops;
        leaves = ap (λ (c : Core). with_reply c bus answer status body) stopped.leaves
            ∙ with-error (failed_core before after.flash (handled_operations before bytes) stopped.place) bus answer status body failed.status_is failed.body_is;
      },
      refl,
    );
    account = stopped.account;
  }

-- the same, where the flash tells its bytes
replied-told : (hurt : Hurt) (old new : RunView) (bus : BusState) (answer lost : ℕ) (bytes : List ℕ) (status : ℕ) (body : List ℕ) → (hurt ≡ Cut → ⊥) →
    Changes (λ before after. FoundLeaves (asked before bytes) hurt (packet_limit (kind_of bus)) old.device new.device before after status body) (told_core old) (told_core new) →
    WorkTold hurt (record { state = bus; answer = answer }) lost (Serve bytes) (answer_by hurt answer lost) new.device old (up_table (replied (response_packet status body) bus) new)
replied-told hurt old new bus answer lost bytes status body alive leaves = by old.device.held new.device.held leaves where
  by : (o p : Option (List ℕ)) → Changes (λ before after. FoundLeaves (asked before bytes) hurt (packet_limit (kind_of bus)) old.device new.device before after status body) (option_map (core_at old) o) (option_map (core_at new) p) →
      Follows (WorkBegun hurt (record { state = bus; answer = answer }) lost (Serve bytes) (answer_by hurt answer lost) old.device new.device)
      (option_map (core_at old) o) (option_map (λ flash. table_of (core_at new flash) (replied (response_packet status body) bus)) p)
  by None None told = tt
  by None (Some g) told = told
  by (Some f) None told = told
  by (Some f) (Some g) told = replied-leaves hurt old.device new.device (core_at old f) (core_at new g) bus answer lost bytes status body alive told

-- power was lost, where the flash tells its bytes
lost-told : (old : RunView) (off : OffView) (bus : BusState) (kind : BusKind) (answer lost : ℕ) (bytes : List ℕ) → kind_of bus ≡ kind →
    Follows (IsLostIn (λ core. asked core bytes) old.device off.device) (told_core old) off.device.held →
    WorkTold Cut (record { state = bus; answer = answer }) lost (Serve bytes) lost off.device old (down_table kind old.pin off)
lost-told old off bus kind answer lost bytes kind_is leaves = by old.device.held off.device.held leaves where
  by : (o p : Option (List ℕ)) → Follows (IsLostIn (λ core. asked core bytes) old.device off.device) (option_map (core_at old) o) p →
      Follows (WorkBegun Cut (record { state = bus; answer = answer }) lost (Serve bytes) lost old.device off.device)
      (option_map (core_at old) o) (option_map (λ flash. off_table flash old.pin kind) p)
  by None None told = tt
  by None (Some g) told = told
  by (Some f) None told = told
  by (Some f) (Some g) told = record {
    begun = suc told.place;
    leaves = (
      record {
        place = told.place;
        flash = g;
        stops = told.stops;
        leaves = ap (λ (k : BusKind). let a : AfterEvent = record { table = off_table g old.pin k; answer = lost } in a) (sym kind_is);
      },
      refl,
    );
    account = told.account;
  }

-- nothing is due once a reply is there
replied-none : (packet : List ℕ) (bus : BusState) → IsNone (due_now (replied packet bus))
replied-none packet (OnLpc state) = refl
replied-none packet (OnI2c state) = refl
replied-none packet (OnSpi state) = refl

same-some : (a b : List ℕ) (o : Option (List ℕ)) → o ≡ Some a → o ≡ Some b → a ≡ b
same-some a b o first second = cc

-- what is spent on a request
served-spends : (hurt : Hurt) (bytes : List ℕ) (run : RunView) (device : DeviceView) → Costs hurt 1024 run.device device → WearsFor (λ core. asked core bytes) run device → Spends hurt run.device device
served-spends hurt bytes run device costs wears = record { costs = costs; wears = wears-nine (λ core. asked core bytes) run device wears }

-- a request that was answered
pub served-up : {F : Type 0} (kind : BusKind) (event : Event) (answer : ℕ) (old_bus bus new_bus : BusState) (up later : Awake F) (hurt : Hurt) (status : ℕ) (body bytes : List ℕ) → kind_of bus ≡ kind → waiting_request bus ≡ Some bytes →
    new_bus ≡ replied (response_packet status body) bus → StaysOn (packet_limit kind) (λ core. asked core bytes) hurt status body (run_of up) (run_of later) →
    IsTakenUp event old_bus (Some ServeTask) bus answer (run_of up) → IsStepped {F = F} kind event hurt (answer_by hurt answer (lost_answer event)) old_bus new_bus (Some (Up up)) (Some (Up later))
served-up {F} kind event answer old_bus bus new_bus up later hurt status body bytes kind_is asked_is bus_is stays_on taken =
    let work_is : work_on (awake_of (run_of up) old_bus) event ≡ Serve bytes = taken.task_is.serves ∙ ap (λ (r : List ℕ). Serve r) (same-some taken.task_is.request bytes (waiting_request bus) taken.task_is.asked asked_is) in
    let leaves = subst (λ (k : BusKind). Changes (λ before after. FoundLeaves (asked before bytes) hurt (packet_limit k) (run_of up).device (run_of later).device before after status body) (told_core (run_of up)) (told_core (run_of later))) (sym kind_is) stays_on.leaves in
    subst (λ (b : BusState). IsStepped {F = F} kind event hurt (answer_by hurt answer (lost_answer event)) old_bus b (Some (Up up)) (Some (Up later))) (sym bus_is)
    (step-up {F = F} kind event hurt answer old_bus bus (replied (response_packet status body) bus) (Some ServeTask) up (Up later) taken
    (event-told hurt event old_bus bus answer (answer_by hurt answer (lost_answer event)) (run_of later).device (run_of up) (Serve bytes) (up_table (replied (response_packet status body) bus) (run_of later)) taken.state taken.answer_is work_is
    (replied-told hurt (run_of up) (run_of later) bus answer (lost_answer event) bytes status body stays_on.alive leaves))
    (on-alive hurt stays_on.alive) stays_on.pin (replied-none (response_packet status body) bus) (served-spends hurt bytes (run_of up) (run_of later).device stays_on.spent stays_on.wear))

-- a request in which power was lost
pub served-down : {F : Type 0} (kind : BusKind) (event : Event) (answer : ℕ) (old_bus bus : BusState) (up : Awake F) (off : OffView) (pin : Bool) (hurt : Hurt) (bytes : List ℕ) → kind_of bus ≡ kind → waiting_request bus ≡ Some bytes → pin ≡ (run_of up).pin →
    GoesOff (packet_limit kind) (λ core. asked core bytes) hurt (run_of up) off →
    IsTakenUp event old_bus (Some ServeTask) bus answer (run_of up) → IsStepped {F = F} kind event Cut (lost_answer event) old_bus bus (Some (Up up)) (Some (Down off pin))
served-down {F} kind event answer old_bus bus up off pin hurt bytes kind_is asked_is pin_is goes_off taken =
    let work_is : work_on (awake_of (run_of up) old_bus) event ≡ Serve bytes = taken.task_is.serves ∙ ap (λ (r : List ℕ). Serve r) (same-some taken.task_is.request bytes (waiting_request bus) taken.task_is.asked asked_is) in
    subst (λ (p : Bool). IsStepped {F = F} kind event Cut (lost_answer event) old_bus bus (Some (Up up)) (Some (Down off p))) (sym pin_is)
    (step-up {F = F} kind event Cut answer old_bus bus bus (Some ServeTask) up (Down off (run_of up).pin) taken
    (event-told Cut event old_bus bus answer (lost_answer event) off.device (run_of up) (Serve bytes) (down_table kind (run_of up).pin off) taken.state taken.answer_is work_is
    (lost-told (run_of up) off bus kind answer (lost_answer event) bytes kind_is goes_off.leaves))
    refl refl tt (served-spends Cut bytes (run_of up) off.device goes_off.spent goes_off.wear))

-- a row that restarts the controller has no operations
unless-restarts : (refusal : Option ℕ) (core after : Core) → unless_refused refusal core (done after) ≡ Restarts → ⊥
unless-restarts None core after same = cc
unless-restarts (Some status) core after same = cc

none-restarting : (core : Core) (limit : ℕ) (command : Command) (version : ℕ) (body : List ℕ) → row core limit command version body ≡ Restarts → row_operations core command version body ≡ []
none-restarting core limit Proto version body same = refl
none-restarting core limit Hello version body same = refl
none-restarting core limit Version version body same = refl
none-restarting core limit Chip version body same = refl
none-restarting core limit CmdVersions version body same = refl
none-restarting core limit Comms version body same = refl
none-restarting core limit Test version body same = refl
none-restarting core limit ProtoInfo version body same = refl
none-restarting core limit FlashInfo version body same = refl
none-restarting core limit FlashRead version body same = refl
none-restarting core limit FlashWrite version body same = absurd (unless-restarts (write_refusal core version body) core (written (u32_at 0 body) (drop 8 body) core) same)
none-restarting core limit FlashErase version body same = refl
none-restarting core limit FlashProtect version body same = cc
none-restarting core limit RegionInfo version body same = refl
none-restarting core limit Sysinfo version body same = refl
none-restarting core limit VbootHash version body same = refl
none-restarting core limit Reboot version body same = refl
none-restarting core limit Resend version body same = refl

found-none : (core : Core) (limit : ℕ) (found : Result Admitted ℕ) → row_of core limit found ≡ Restarts → operations_by core found ≡ []
found-none core limit (Err status) same = cc
found-none core limit (Ok found) same = none-restarting core limit found.command found.version found.body same

-- a restart, by its parts
or-right : (a b : Bool) → b ≡ true → (a || b) ≡ true
or-right true b is = refl
or-right false b is = is

restart-leaves : (bad : Bool) (device changed : DeviceView) (before after : Core) (bus : BusState) (kind : BusKind) (answer lost : ℕ) (bytes : List ℕ) → kind_of bus ≡ kind → IsLookedAt bad device changed → handled before (packet_limit kind) bytes ≡ Restarts →
    after ≡ booted before.flash before.pin Cold bad → WorkBegun (boot_hurt bad) (record { state = bus; answer = answer }) lost (Serve bytes) lost device changed before (table_of after (fresh_bus kind))
restart-leaves bad device changed before after bus kind answer lost bytes kind_is looked restarts after_is = by bad looked after_is where
  here : handled before (packet_limit (kind_of bus)) bytes ≡ Restarts
  here = ap (λ (k : BusKind). handled before (packet_limit k) bytes) kind_is ∙ restarts

  none : handled_operations before bytes ≡ []
  none = found-none before (packet_limit kind) (asked before bytes) restarts

  table : (unread : Bool) → after ≡ booted before.flash before.pin Cold unread →
      ◌≡◌ {A = AfterEvent} (record { table = table_of after (fresh_bus kind); answer = lost }) (record { table = booted_table before.flash before.pin (kind_of bus) Cold unread; answer = lost })
  table unread is =
      ap (λ (c : Core). let a : AfterEvent = record { table = table_of c (fresh_bus kind); answer = lost } in a) is
      ∙ ap (λ (k : BusKind). let a : AfterEvent = record { table = booted_table before.flash before.pin k Cold unread; answer = lost } in a) (sym kind_is)

  by : (bad : Bool) → IsLookedAt bad device changed → after ≡ booted before.flash before.pin Cold bad →
      WorkBegun (boot_hurt bad) (record { state = bus; answer = answer }) lost (Serve bytes) lost device changed before (table_of after (fresh_bus kind))
  by true looked is = record {
    begun = 0;
    leaves = inl (
      refl,
      record {
        reads = or-right (handled_reads before (packet_limit (kind_of bus)) bytes) (is_restart (handled before (packet_limit (kind_of bus)) bytes)) (ap is_restart here);
        leaves = table true is ∙ ap (after_unread before (record { state = bus; answer = answer }) lost) (sym here);
      },
    );
    account = subst (λ (operations : List Operation). Account 0 Failed operations device changed before.flash after.flash) (sym none) (boot-account true device changed before.flash after.flash looked);
  }
  by false looked is = record {
    begun = 0;
    leaves = (ap (λ (operations : List Operation). length operations) (sym none), table false is ∙ ap (after_outcome before (record { state = bus; answer = answer }) lost) (sym here));
    account = subst (λ (operations : List Operation). Account 0 Whole operations device changed before.flash after.flash) (sym none) (boot-account false device changed before.flash after.flash looked);
  }

-- the same, where the flash tells its bytes
restart-told : (old new : RunView) (bus : BusState) (kind : BusKind) (answer lost : ℕ) (bytes : List ℕ) (hurt : Hurt) → kind_of bus ≡ kind → RestartsAs (packet_limit kind) (λ core. asked core bytes) hurt old new →
    WorkTold (boot_hurt new.live.pstate_bad) (record { state = bus; answer = answer }) lost (Serve bytes) lost new.device old (up_table (fresh_bus kind) new)
restart-told old new bus kind answer lost bytes hurt kind_is restarts = by old.device.held new.device.held restarts.booted where
  by : (o p : Option (List ℕ)) → option_map (core_at new) p ≡ option_map (λ flash. booted flash old.pin Cold new.live.pstate_bad) o →
      Follows (WorkBegun (boot_hurt new.live.pstate_bad) (record { state = bus; answer = answer }) lost (Serve bytes) lost old.device new.device)
      (option_map (core_at old) o) (option_map (λ flash. table_of (core_at new flash) (fresh_bus kind)) p)
  by None None same = tt
  by None (Some g) same = cc
  by (Some f) None same = cc
  by (Some f) (Some g) same =
      restart-leaves new.live.pstate_bad old.device new.device (core_at old f) (core_at new g) bus kind answer lost bytes kind_is restarts.looked (restarts.restarts (core_at old f) refl)
      (same-core (core_at new g) (booted f old.pin Cold new.live.pstate_bad) (Some (core_at new g)) refl same)

-- a request that restarted the controller
pub served-restart : {F : Type 0} (kind : BusKind) (event : Event) (answer : ℕ) (old_bus bus new_bus : BusState) (up : Awake F) (next : RunView) (hurt : Hurt) (status : ℕ) (body bytes : List ℕ) → kind_of bus ≡ kind → waiting_request bus ≡ Some bytes →
    new_bus ≡ fresh_bus kind → RestartsAs (packet_limit kind) (λ core. asked core bytes) hurt (run_of up) next →
    IsTakenUp event old_bus (Some ServeTask) bus answer (run_of up) → IsStepped {F = F} kind event hurt (lost_answer event) old_bus new_bus (Some (Up up)) (Some (Up (AwakeRo next)))
served-restart {F} kind event answer old_bus bus new_bus up next hurt status body bytes kind_is asked_is bus_is restarts taken =
    let bad : Bool = next.live.pstate_bad in
    let spends = boot-spent bad (run_of up).device next.device restarts.looked in
    let work_is : work_on (awake_of (run_of up) old_bus) event ≡ Serve bytes = taken.task_is.serves ∙ ap (λ (r : List ℕ). Serve r) (same-some taken.task_is.request bytes (waiting_request bus) taken.task_is.asked asked_is) in
    subst (λ (h : Hurt). IsStepped {F = F} kind event h (lost_answer event) old_bus new_bus (Some (Up up)) (Some (Up (AwakeRo next)))) (sym restarts.hurt_is)
    (subst (λ (b : BusState). IsStepped {F = F} kind event (boot_hurt bad) (lost_answer event) old_bus b (Some (Up up)) (Some (Up (AwakeRo next)))) (sym bus_is)
    (record {
      told = event-told (boot_hurt bad) event old_bus bus answer (lost_answer event) next.device (run_of up) (Serve bytes) (up_table (fresh_bus kind) next) taken.state taken.answer_is work_is
          (restart-told (run_of up) next bus kind answer (lost_answer event) bytes hurt kind_is restarts);
      on = sym (boot-on bad true) ∙ sym (on-after (boot_hurt bad) event true true taken.like.on_is);
      pin = restarts.pin ∙ sym (taken.like.pin_is (run_of up).pin);
      off = λ down. cc;
      lost = λ cut. refl;
      alive = λ cut. refl;
      silent = lost-silent event;
      calm = fresh-none kind;
      spent = spends.costs;
      wears = spends.wears;
    }))
