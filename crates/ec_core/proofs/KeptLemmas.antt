-- What a request leaves of what a controller holds.
use Rattle.std.proofs.Common.{◌≡◌, ◌∙◌, ℕ, ◌+◌, ◌≤◌, Bool, List, length, Option, Some, None}
use Rattle.ec_types.specs.declared.bus.BusKind.{BusKind}
use Rattle.ec_types.specs.Tables.{packet_limit}
use Rattle.flash_dev.specs.declared.hurt.Hurt.{Hurt}
use Rattle.flash_dev.specs.declared.hurt.Hurt.TheVariants.{Cut}
use Rattle.ec_model.specs.declared.event.Event.{Event}
use Rattle.ec_model.specs.Packet.{response_packet}
use Rattle.ec_model.specs.Bus.{BusState, kind_of, replied, fresh_bus}
use Rattle.ec_model.specs.Handle.{asked}
use Rattle.ec_model.specs.Work.{lost_answer}
use Rattle.ec_wire.specs.Dues.{waiting_request}
use Rattle.ec_boot.specs.declared.awake.Awake.{Awake}
use Rattle.ec_boot.specs.declared.awake.Awake.TheVariants.{Ro as AwakeRo}
use Rattle.ec_boot.specs.Either.{run_of}
use Rattle.ec_boot.specs.States.{RunView, OffView}
use Rattle.command_table.specs.After.{StaysOn, RestartsAs, GoesOff}
use Rattle.command_table.specs.Serving.{Finds, IsServed}
use Rattle.command_table.specs.declared.reboot.Next.{Next}
use Rattle.command_table.specs.declared.reboot.Next.TheVariants.{Stays, Jumps}
use Rattle.command_table.proofs.AfterLemmas.{dealt-on, served-idle}
use Rattle.command_table.proofs.GuardLemmas.{served-pin}
use Rattle.ec_core.specs.Held.{answer_by}
use Rattle.ec_core.specs.Task.{IsTaken, IsStepped, IsKeptServed}
use Rattle.ec_core.specs.declared.held.Held.{Held}
use Rattle.ec_core.specs.declared.held.Held.TheVariants.{Down, Up}
use Rattle.ec_core.specs.declared.task.Task.TheVariants.{Serve as ServeTask}
use Rattle.ec_core.proofs.ServeLemmas.{served-up, served-down, served-restart}

-- a reply to a request that is answered is short
pub kept-short : {F : Type 0} (next : Next) (limit : ℕ) (finds : Finds) (hurt : Hurt) (status : ℕ) (body : List ℕ) (old new : Option (Held F)) → next ≡ Stays → IsKeptServed {F = F} next limit finds hurt status body old new → 8 + length body ≤ limit
kept-short next limit finds hurt status body (Some (Up old)) (Some (Up new)) same served = (rw same at served).short
kept-short next limit finds hurt status body (Some (Up old)) (Some (Down off pin)) same served = absurd served
kept-short next limit finds hurt status body (Some (Up old)) None same served = absurd served
kept-short next limit finds hurt status body (Some (Down off pin)) new same served = absurd served
kept-short next limit finds hurt status body None new same served = absurd served

-- a jump that is left to do finds no erase pending
pub kept-idle : {F : Type 0} (next : Next) (limit : ℕ) (finds : Finds) (hurt : Hurt) (status : ℕ) (body : List ℕ) (old : Option (Held F)) (on : Awake F) → IsKeptServed {F = F} next limit finds hurt status body old (Some (Up on)) → next ≡ Jumps → (run_of on).live.erase ≡ None
kept-idle next limit finds hurt status body (Some (Up old)) on served = served-idle next limit finds hurt status body (run_of old) (run_of on) served
kept-idle next limit finds hurt status body (Some (Down off pin)) on served = absurd served
kept-idle next limit finds hurt status body None on served = absurd served

-- what is left to do makes a reply that is short
pub finished-short : {F : Type 0} (next : Next) (limit : ℕ) (finds : Finds) (hurt said : Hurt) (status told : ℕ) (body text : List ℕ) (old : Option (Held F)) (on : Awake F) (new : RunView) → IsKeptServed {F = F} next limit finds hurt status body old (Some (Up on)) →
    ((from : RunView) → IsServed next limit finds hurt status body from (run_of on) → StaysOn limit finds said told text from new) → 8 + length text ≤ limit
finished-short next limit finds hurt said status told body text (Some (Up old)) on new served row = (row (run_of old) served).short
finished-short next limit finds hurt said status told body text (Some (Down off pin)) on new served row = absurd served
finished-short next limit finds hurt said status told body text None on new served row = absurd served

-- a request that was answered where the state lies
pub kept-answered : {F : Type 0} (kind : BusKind) (event : Event) (answer : ℕ) (old_bus bus new_bus : BusState) (next : Next) (hurt : Hurt) (status : ℕ) (body bytes : List ℕ) (old new : Option (Held F)) → kind_of bus ≡ kind → waiting_request bus ≡ Some bytes →
    new_bus ≡ replied (response_packet status body) bus → next ≡ Stays → (hurt ≡ Cut → ⊥) → IsKeptServed {F = F} next (packet_limit kind) (λ core. asked core bytes) hurt status body old new →
    IsTaken {F = F} event old_bus (Some ServeTask) bus answer old → IsStepped {F = F} kind event hurt (answer_by hurt answer (lost_answer event)) old_bus new_bus old new
kept-answered {F} kind event answer old_bus bus new_bus next hurt status body bytes (Some (Up old)) (Some (Up new)) kind_is asked_is bus_is same alive served taken =
    served-up {F = F} kind event answer old_bus bus new_bus old new hurt status body bytes kind_is asked_is bus_is
    (dealt-on (packet_limit kind) (λ core. asked core bytes) hurt status body (run_of old) (run_of new) alive (rw same at served)) taken
kept-answered kind event answer old_bus bus new_bus next hurt status body bytes (Some (Up old)) (Some (Down off pin)) kind_is asked_is bus_is same alive served taken = absurd served
kept-answered kind event answer old_bus bus new_bus next hurt status body bytes (Some (Up old)) None kind_is asked_is bus_is same alive served taken = absurd served
kept-answered kind event answer old_bus bus new_bus next hurt status body bytes (Some (Down off pin)) new kind_is asked_is bus_is same alive served taken = absurd served
kept-answered kind event answer old_bus bus new_bus next hurt status body bytes None new kind_is asked_is bus_is same alive served taken = absurd served

-- a request behind which the controller goes on, once what was left is done
pub finished-up : {F : Type 0} (kind : BusKind) (event : Event) (answer : ℕ) (old_bus bus new_bus : BusState) (next : Next) (hurt said : Hurt) (status told : ℕ) (body text bytes : List ℕ) (old : Option (Held F)) (on later : Awake F) → kind_of bus ≡ kind → waiting_request bus ≡ Some bytes →
    new_bus ≡ replied (response_packet told text) bus → IsKeptServed {F = F} next (packet_limit kind) (λ core. asked core bytes) hurt status body old (Some (Up on)) →
    ((from : RunView) → IsServed next (packet_limit kind) (λ core. asked core bytes) hurt status body from (run_of on) → StaysOn (packet_limit kind) (λ core. asked core bytes) said told text from (run_of later)) →
    IsTaken {F = F} event old_bus (Some ServeTask) bus answer old → IsStepped {F = F} kind event said (answer_by said answer (lost_answer event)) old_bus new_bus old (Some (Up later))
finished-up {F} kind event answer old_bus bus new_bus next hurt said status told body text bytes (Some (Up old)) on later kind_is asked_is bus_is served row taken =
    served-up {F = F} kind event answer old_bus bus new_bus old later said told text bytes kind_is asked_is bus_is (row (run_of old) served) taken
finished-up kind event answer old_bus bus new_bus next hurt said status told body text bytes (Some (Down off pin)) on later kind_is asked_is bus_is served row taken = absurd served
finished-up kind event answer old_bus bus new_bus next hurt said status told body text bytes None on later kind_is asked_is bus_is served row taken = absurd served

-- a request that restarted the controller
pub finished-anew : {F : Type 0} (kind : BusKind) (event : Event) (answer : ℕ) (old_bus bus new_bus : BusState) (next : Next) (hurt said : Hurt) (status told : ℕ) (body text bytes : List ℕ) (old : Option (Held F)) (on : Awake F) (later : RunView) → kind_of bus ≡ kind → waiting_request bus ≡ Some bytes →
    new_bus ≡ fresh_bus kind → IsKeptServed {F = F} next (packet_limit kind) (λ core. asked core bytes) hurt status body old (Some (Up on)) →
    ((from : RunView) → IsServed next (packet_limit kind) (λ core. asked core bytes) hurt status body from (run_of on) → RestartsAs (packet_limit kind) (λ core. asked core bytes) said from later) →
    IsTaken {F = F} event old_bus (Some ServeTask) bus answer old → IsStepped {F = F} kind event said (lost_answer event) old_bus new_bus old (Some (Up (AwakeRo later)))
finished-anew {F} kind event answer old_bus bus new_bus next hurt said status told body text bytes (Some (Up old)) on later kind_is asked_is bus_is served row taken =
    served-restart {F = F} kind event answer old_bus bus new_bus old later said told text bytes kind_is asked_is bus_is (row (run_of old) served) taken
finished-anew kind event answer old_bus bus new_bus next hurt said status told body text bytes (Some (Down off pin)) on later kind_is asked_is bus_is served row taken = absurd served
finished-anew kind event answer old_bus bus new_bus next hurt said status told body text bytes None on later kind_is asked_is bus_is served row taken = absurd served

-- a request in which power was lost
pub finished-down : {F : Type 0} (kind : BusKind) (event : Event) (answer : ℕ) (old_bus bus : BusState) (next : Next) (hurt said : Hurt) (status : ℕ) (body bytes : List ℕ) (old : Option (Held F)) (on : Awake F) (off : OffView) (pin : Bool) → kind_of bus ≡ kind → waiting_request bus ≡ Some bytes →
    pin ≡ (run_of on).pin → IsKeptServed {F = F} next (packet_limit kind) (λ core. asked core bytes) hurt status body old (Some (Up on)) →
    ((from : RunView) → IsServed next (packet_limit kind) (λ core. asked core bytes) hurt status body from (run_of on) → GoesOff (packet_limit kind) (λ core. asked core bytes) said from off) →
    IsTaken {F = F} event old_bus (Some ServeTask) bus answer old → IsStepped {F = F} kind event Cut (lost_answer event) old_bus bus old (Some (Down off pin))
finished-down {F} kind event answer old_bus bus next hurt said status body bytes (Some (Up old)) on off pin kind_is asked_is pin_is served row taken =
    served-down {F = F} kind event answer old_bus bus old off pin said bytes kind_is asked_is (pin_is ∙ served-pin next (packet_limit kind) (λ core. asked core bytes) hurt status body (run_of old) (run_of on) served) (row (run_of old) served) taken
finished-down kind event answer old_bus bus next hurt said status body bytes (Some (Down off p)) on off_ pin kind_is asked_is pin_is served row taken = absurd served
finished-down kind event answer old_bus bus next hurt said status body bytes None on off pin kind_is asked_is pin_is served row taken = absurd served
