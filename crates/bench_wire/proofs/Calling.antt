-- Accesses and waits, behind the events that are due.
use Rattle.std.proofs.Common.{◌≡◌, refl, sym, ap, ◌∙◌, subst, ℕ, ◌+◌, Bool, true, false, if◌then◌else◌, List, [], ◌∷◌, ◌++◌, length, append_assoc, append-nil, arith, eq-eqb, Option, Some, None}
use Rattle.std.specs.Prelude.{unwrap_or}
use Rattle.std.specs.List.{list_all}
use Rattle.std.proofs.lemmas.Bool.{and_from, and_parts}
use Rattle.std.proofs.lemmas.List.{nil_from_length}
use Rattle.std.proofs.lemmas.List.Folds.{list_all-append}
use Rattle.flash_dev.specs.declared.hurt.Hurt.{Hurt}
use Rattle.ec_model.specs.declared.event.Access.{Access}
use Rattle.ec_model.specs.declared.event.Event.{Event}
use Rattle.ec_model.specs.declared.event.Event.TheVariants.{Access as AccessEvent, Tick, Reset, Power as PowerEvent, Pin as PinEvent}
use Rattle.ec_model.specs.declared.event.WorldEvent.{WorldEvent}
use Rattle.ec_model.specs.declared.event.Entry.{Entry}
use Rattle.ec_model.specs.declared.event.Entry.TheVariants.{Step, Mark}
use Rattle.ec_model.specs.HostCalls.{HostCall, with_byte, calls_of, are_calls, on_after}
use Rattle.ec_model.specs.Upset.{access_byte, event_byte, is_world, is_changed, is_cut_entry}
use Rattle.ec_model.specs.Table.{Table}
use Rattle.ec_model.specs.Bench.{Armed, Bench, BenchCall, Accesses, Waits, due_events, still_armed, events_among, byte_among}
use Rattle.ec_model.specs.Played.{PlaysEntry, PlaysEvents, Played, brings_byte}
use Rattle.ec_model.proofs.PlayRuns.{calls-run}
use Rattle.ec_wire.specs.Calls.{WireView, RunsAlong, PlaysAlong, KeepsQuiet, Grows, AccessAdds, WaitAdds, ArePowerless, bench_of, is_host_call, is_failed_entry, is_wire_step}
use Rattle.ec_wire.proofs.Appends.{calls_of-append, on_after-append}
use Rattle.ec_wire.proofs.Calm.{with_byte-access_byte}
use Rattle.ec_wire.proofs.Growth.{powerless-then}
use Rattle.bench_wire.specs.Falling.{EntryTold, EventsTold, Steps, Falls, come_nearer}
use Rattle.bench_wire.specs.Calling.{arriving, seen_instead, CallAdds}
use Rattle.bench_wire.proofs.Extending.{rose-along}
use Rattle.bench_wire.proofs.Falling.{falls-none}

-- the world makes no calls
world-calls : (world : List Entry) → list_all is_world world ≡ true → calls_of world ≡ []
world-calls [] worldly = refl
world-calls (Step (AccessEvent access) answer meant seen hurt ∷ world) worldly = cc
world-calls (Step Tick answer meant seen hurt ∷ world) worldly = cc
world-calls (Step (Reset cause) answer meant seen hurt ∷ world) worldly = world-calls world worldly
world-calls (Step (PowerEvent on) answer meant seen hurt ∷ world) worldly = world-calls world worldly
world-calls (Step (PinEvent on) answer meant seen hurt ∷ world) worldly = world-calls world worldly
world-calls (Mark line ∷ world) worldly = cc

-- events of the world, and then an entry of the host's
calls-behind : (world : List Entry) (own : Entry) → list_all is_world world ≡ true → are_calls (own ∷ []) ≡ true → are_calls (world ++ own ∷ []) ≡ true
calls-behind [] own worldly host = host
calls-behind (Mark line ∷ world) own worldly host = cc
calls-behind (Step event answer meant seen hurt ∷ []) own worldly host = host
calls-behind (Step event answer meant seen hurt ∷ entry ∷ world) own worldly host =
    calls-behind (entry ∷ world) own (and_parts (is_world (Step event answer meant seen hurt)) (list_all is_world (entry ∷ world)) worldly).1 host

-- calls that are played are a run
pub run-along : (added : List Entry) (old new : WireView) (o p : Option Table) → PlaysAlong added old new o p → RunsAlong added o p
run-along added old new None None played = tt
run-along added old new None (Some b) played = played
run-along added old new (Some a) None played = played
run-along added old new (Some a) (Some b) played = calls-run (bench_of old a) played.calls added (bench_of new b) played.played

-- an entry of the host's, behind the events that are due, is its call
abbrev IsPlayedAs : BenchCall → Event → (answer meant seen : ℕ) → Hurt → WireView → Type 0
IsPlayedAs call event answer meant seen hurt old =
    (table : Table) (middle last : Bench) (world : List Entry)
    → PlaysEvents (bench_of (come_nearer old) table) (events_among (due_events old.armed)) world middle
    → PlaysEntry middle event answer meant seen hurt last → Played (bench_of old table) call (world ++ Step event answer meant seen hurt ∷ []) last

played-behind : (call : BenchCall) (event : Event) (answer meant seen : ℕ) (hurt : Hurt) (world : List Entry) (old middle new : WireView) (o p q : Option Table) → is_host_call call ≡ true
    → IsPlayedAs call event answer meant seen hurt old → EventsTold (events_among (due_events old.armed)) world (come_nearer old) middle o p → EntryTold event answer meant seen hurt middle new p q
    → PlaysAlong (world ++ Step event answer meant seen hurt ∷ []) old new o q
played-behind call event answer meant seen hurt world old middle new None None None host plays_as events own = tt
played-behind call event answer meant seen hurt world old middle new None None (Some c) host plays_as events own = own
played-behind call event answer meant seen hurt world old middle new None (Some b) q host plays_as events own = absurd events
played-behind call event answer meant seen hurt world old middle new (Some a) None q host plays_as events own = absurd events
played-behind call event answer meant seen hurt world old middle new (Some a) (Some b) None host plays_as events own = own
played-behind call event answer meant seen hurt world old middle new (Some a) (Some b) (Some c) host plays_as events own =
    let entries = world ++ Step event answer meant seen hurt ∷ [] in
    record {
      calls = call ∷ [];
      hosts = rw host refl;
      played = (entries, [], bench_of new c, sym (append-nil entries), plays_as a (bench_of middle b) (bench_of new c) world events own, (refl, refl));
    }

-- where nothing was armed, nothing of the world came before an own entry
quiet-behind : (due : List WorldEvent) (world : List Entry) (own : Entry) (armed : List Armed) → due ≡ [] → length world ≡ length (events_among due) → armed ≡ [] → is_world own ≡ false → is_changed own ≡ false
    → KeepsQuiet (world ++ own ∷ []) armed
quiet-behind due world own armed none count disarmed host own_byte =
    let empty : world ≡ [] = nil_from_length world (count ∙ ap (λ (events : List WorldEvent). length (events_among events)) none) in
    subst (λ (list : List Entry). KeepsQuiet (list ++ own ∷ []) armed) (sym empty)
    (record { disarmed = disarmed; no_event = rw host refl; no_byte = rw own_byte refl })

-- what the entry of one call of the host's is, whatever came before it
record IsOwn (event : Event) (answer meant seen : ℕ) (hurt : Hurt) (old : WireView) : Type 0 where
  pub wire_step : is_wire_step (Step event answer meant seen hurt) ≡ true
  pub call : are_calls (Step event answer meant seen hurt ∷ []) ≡ true
  pub one : length (calls_of (Step event answer meant seen hurt ∷ [])) ≡ 1
  pub host : is_world (Step event answer meant seen hurt) ≡ false
  pub same : old.armed ≡ [] → is_changed (Step event answer meant seen hurt) ≡ false

-- an entry of the host's behind the events that are due is what one call of a wire adds
grows-behind : (call : BenchCall) (event : Event) (answer meant seen : ℕ) (hurt : Hurt) (old middle new : WireView) → is_host_call call ≡ true → IsOwn event answer meant seen hurt old
    → IsPlayedAs call event answer meant seen hurt old → (falls : Falls (due_events old.armed) (come_nearer old) middle) → Steps event answer meant seen hurt middle new
    → Grows (falls.added ++ Step event answer meant seen hurt ∷ []) old new
grows-behind call event answer meant seen hurt old middle new host is_own plays_as falls steps =
    let world = falls.added in
    let own = Step event answer meant seen hurt in
    let entries : new.entries ≡ old.entries ++ (world ++ own ∷ []) = steps.entries ∙ ap (λ (list : List Entry). list ++ own ∷ []) falls.entries ∙ append_assoc old.entries world (own ∷ []) in
    let called : calls_of (world ++ own ∷ []) ≡ calls_of (own ∷ []) =
    calls_of-append world (own ∷ []) ∙ ap (λ (list : List HostCall). list ++ calls_of (own ∷ [])) (world-calls world falls.worldly) in
    let counted : length (calls_of (world ++ own ∷ [])) ≡ 1 = ap (λ (list : List HostCall). length list) called ∙ is_own.one in
    let played = played-behind call event answer meant seen hurt world old middle new old.table middle.table new.table host plays_as falls.plays steps.plays in
    record {
      entries = entries;
      room = omega (arith, counted, falls.count, falls.room, steps.room);
      on = steps.on ∙ ap (λ (on : Bool). on_after (own ∷ []) on) falls.on ∙ sym (on_after-append world (own ∷ []) old.on);
      bus = steps.bus ∙ falls.bus;
      calls = calls-behind world own falls.worldly is_own.call;
      steps = list_all-append is_wire_step world (own ∷ []) ∙ and_from _ _ falls.steps (rw is_own.wire_step refl);
      quiet = λ off. quiet-behind (due_events old.armed) world own new.armed (ap due_events off) falls.count (steps.armed ∙ falls.armed ∙ ap still_armed off) is_own.host (is_own.same off);
      powerless = powerless-then old.on world (own ∷ []) falls.powerless (subst (λ (on : Bool). ArePowerless on (own ∷ [])) falls.on (steps.powerless, tt));
      faults = rose-along is_failed_entry world (own ∷ []) old.faults middle.faults new.faults falls.faults steps.faults;
      cuts = rose-along is_cut_entry world (own ∷ []) old.cuts middle.cuts new.cuts falls.cuts steps.cuts;
      run = run-along (world ++ own ∷ []) old new old.table new.table played;
      played = played;
    }

-- a choice of the byte that arrives is a choice of the access
arrives-by : (brings : Bool) (access : Access) (byte : ℕ) → (if brings then with_byte access byte else access) ≡ with_byte access (if brings then byte else access_byte access)
arrives-by true access byte = refl
arrives-by false access byte = sym (with_byte-access_byte access)

-- where no byte is changed, an access arrives and is seen as it is
arrives-same : (brings : Bool) (access : Access) → (if brings then with_byte access (access_byte access) else access) ≡ access
arrives-same true access = with_byte-access_byte access
arrives-same false access = refl

seen-same : (brings : Bool) (answer : ℕ) → (if brings then answer else answer) ≡ answer
seen-same true answer = refl
seen-same false answer = refl

-- an entry whose bytes are the same is not changed
unchanged : (event : Event) (answer meant seen : ℕ) (hurt : Hurt) → seen ≡ answer → event_byte event ≡ meant → is_changed (Step event answer meant seen hurt) ≡ false
unchanged event answer meant seen hurt answered sent = rw (eq-eqb seen answer answered, eq-eqb (event_byte event) meant sent) refl

-- an access as it arrives, and what is seen of it, behind these events
pub record IsTurned (access : Access) (due : List WorldEvent) (arrived : Access) (answer seen : ℕ) : Type 0 where
  pub arrived_is : arrived ≡ (if brings_byte access then with_byte access (byte_among due (access_byte access)) else access)
  pub seen_is : seen ≡ (if brings_byte access then answer else byte_among due answer)

-- where nothing is due, nothing is changed
turned-same : (access : Access) (due : List WorldEvent) (arrived : Access) (answer seen : ℕ) (hurt : Hurt) → due ≡ [] → IsTurned access due arrived answer seen
    → is_changed (Step (AccessEvent arrived) answer (access_byte access) seen hurt) ≡ false
turned-same access due arrived answer seen hurt none turned =
    unchanged (AccessEvent arrived) answer (access_byte access) seen hurt
    (turned.seen_is ∙ ap (λ (events : List WorldEvent). if brings_byte access then answer else byte_among events answer) none ∙ seen-same (brings_byte access) answer)
    (ap access_byte
    (turned.arrived_is ∙ ap (λ (events : List WorldEvent). if brings_byte access then with_byte access (byte_among events (access_byte access)) else access) none ∙ arrives-same (brings_byte access) access))

-- an access, behind the events that are due
access-adds : (access arrived : Access) (answer seen : ℕ) (hurt : Hurt) (old middle new : WireView) → IsTurned access (due_events old.armed) arrived answer seen
    → Falls (due_events old.armed) (come_nearer old) middle → Steps (AccessEvent arrived) answer (access_byte access) seen hurt middle new → AccessAdds access seen old new
access-adds access arrived answer seen hurt old middle new turned falls steps =
    let due = due_events old.armed in
    let byte : ℕ = if brings_byte access then byte_among due (access_byte access) else access_byte access in
    let is : arrived ≡ with_byte access byte = turned.arrived_is ∙ arrives-by (brings_byte access) access (byte_among due (access_byte access)) in
    record {
      world = falls.added;
      arrived = byte;
      answer = answer;
      hurt = hurt;
      worldly = falls.worldly;
      grows = subst (λ (a : Access). Grows (falls.added ++ Step (AccessEvent a) answer (access_byte access) seen hurt ∷ []) old new) is
          (grows-behind (Accesses access) (AccessEvent arrived) answer (access_byte access) seen hurt old middle new refl
          (record { wire_step = refl; call = refl; one = refl; host = refl; same = λ off. turned-same access due arrived answer seen hurt (ap due_events off) turned })
          (λ table second last world events plays. record {
            world = world;
            own = Step (AccessEvent arrived) answer (access_byte access) seen hurt;
            middle = second;
            parts = refl;
            events = events;
            own_is = (ap (λ (a : Access). AccessEvent a) turned.arrived_is, refl, turned.seen_is, plays);
          })
          falls steps);
    }

-- a wait, behind the events that are due
wait-adds : (answer : ℕ) (hurt : Hurt) (old middle new : WireView) → Falls (due_events old.armed) (come_nearer old) middle → Steps Tick answer 0 answer hurt middle new → WaitAdds old new
wait-adds answer hurt old middle new falls steps =
    let bare : Steps Tick 0 0 0 hurt middle new = subst (λ (a : ℕ). Steps Tick a 0 a hurt middle new) steps.silent steps in
    record {
      world = falls.added;
      hurt = hurt;
      worldly = falls.worldly;
      grows = grows-behind Waits Tick 0 0 0 hurt old middle new refl
          (record { wire_step = refl; call = refl; one = refl; host = refl; same = λ off. refl })
          (λ table second last world events plays. record {
            world = world;
            own = Step Tick 0 0 0 hurt;
            middle = second;
            parts = refl;
            events = events;
            own_is = (refl, refl, refl, plays);
          })
          falls bare;
    }

-- where nothing is armed, nothing falls
pub falls-unarmed : (view : WireView) → view.armed ≡ [] → Falls (due_events view.armed) (come_nearer view) view
falls-unarmed view none =
    let spare_same : view.spare + length (events_among (due_events view.armed)) ≡ view.spare = omega (arith, ap (λ (armed : List Armed). length (events_among (due_events armed))) none) in
    let still : come_nearer view ≡ view =
    ap (λ (n : ℕ). with_arms n (still_armed view.armed) view) spare_same ∙ ap (λ (armed : List Armed). with_arms view.spare armed view) (ap still_armed none ∙ sym none) in
    subst (λ (from : WireView). Falls (due_events view.armed) from view) (sym still)
    (falls-none (due_events view.armed) view (ap (λ (armed : List Armed). events_among (due_events armed)) none)) where
      with_arms : ℕ → List Armed → WireView → WireView
      with_arms spare armed view = record view { spare = spare; armed = armed }

-- where nothing is armed, a call has just its own entry
pub access-unarmed : (access : Access) (answer : ℕ) (hurt : Hurt) (old new : WireView) → old.armed ≡ [] → Steps (AccessEvent access) answer (access_byte access) answer hurt old new → AccessAdds access answer old new
access-unarmed access answer hurt old new none steps =
    let turned : IsTurned access (due_events old.armed) access answer answer = rw none (record { arrived_is = sym (arrives-same (brings_byte access) access); seen_is = sym (seen-same (brings_byte access) answer) }) in
    access-adds access access answer answer hurt old old new turned (falls-unarmed old none) steps

pub wait-unarmed : (answer : ℕ) (hurt : Hurt) (old new : WireView) → old.armed ≡ [] → Steps Tick answer 0 answer hurt old new → WaitAdds old new
wait-unarmed answer hurt old new none steps = wait-adds answer hurt old old new (falls-unarmed old none) steps

-- the last changed byte turns an access
turned-by : (access arrived : Access) (due : List WorldEvent) (changed seen : Option ℕ) (answer : ℕ) → ((byte : ℕ) → unwrap_or changed byte ≡ byte_among due byte)
    → arrived ≡ (if brings_byte access then with_byte access (unwrap_or changed (access_byte access)) else access) → seen ≡ (if brings_byte access then None else changed)
    → IsTurned access due arrived answer (unwrap_or seen answer)
turned-by access arrived due changed seen answer bytes arrived_is seen_is = record {
  arrived_is = arrived_is ∙ ap (λ (byte : ℕ). if brings_byte access then with_byte access byte else access) (bytes (access_byte access));
  seen_is = ap (λ (other : Option ℕ). unwrap_or other answer) seen_is ∙ seen-by (brings_byte access) changed due answer bytes;
} where
  seen-by : (brings : Bool) (changed : Option ℕ) (due : List WorldEvent) (answer : ℕ) → ((byte : ℕ) → unwrap_or changed byte ≡ byte_among due byte)
      → unwrap_or (if brings then None else changed) answer ≡ (if brings then answer else byte_among due answer)
  seen-by true changed due answer bytes = refl
  seen-by false changed due answer bytes = bytes answer

-- one event of the host's, behind the events that are due
pub call-adds : (event arrived : Event) (changed seen : Option ℕ) (answer meant : ℕ) (hurt : Hurt) (old middle new : WireView) → ((byte : ℕ) → unwrap_or changed byte ≡ byte_among (due_events old.armed) byte)
    → arrived ≡ arriving event changed → meant ≡ event_byte event → seen ≡ seen_instead event changed
    → Falls (due_events old.armed) (come_nearer old) middle → Steps arrived answer meant (unwrap_or seen answer) hurt middle new → CallAdds event (unwrap_or seen answer) old new
call-adds (AccessEvent access) arrived changed seen answer meant hurt old middle new bytes arrived_is meant_is seen_is falls steps =
    let own : Access = if brings_byte access then with_byte access (unwrap_or changed (access_byte access)) else access in
    access-adds access own answer (unwrap_or seen answer) hurt old middle new (turned-by access own (due_events old.armed) changed seen answer bytes refl seen_is) falls
    (subst (λ (event : Event). Steps event answer (access_byte access) (unwrap_or seen answer) hurt middle new) arrived_is
    (subst (λ (byte : ℕ). Steps arrived answer byte (unwrap_or seen answer) hurt middle new) meant_is steps))
call-adds Tick arrived changed seen answer meant hurt old middle new bytes arrived_is meant_is seen_is falls steps =
    wait-adds answer hurt old middle new falls
    (subst (λ (event : Event). Steps event answer 0 answer hurt middle new) arrived_is
    (subst (λ (byte : ℕ). Steps arrived answer byte answer hurt middle new) meant_is
    (subst (λ (other : Option ℕ). Steps arrived answer meant (unwrap_or other answer) hurt middle new) seen_is steps)))
call-adds (Reset cause) arrived changed seen answer meant hurt old middle new bytes arrived_is meant_is seen_is falls steps = tt
call-adds (PowerEvent on) arrived changed seen answer meant hurt old middle new bytes arrived_is meant_is seen_is falls steps = tt
call-adds (PinEvent on) arrived changed seen answer meant hurt old middle new bytes arrived_is meant_is seen_is falls steps = tt
