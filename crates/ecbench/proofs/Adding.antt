-- Entries that a line adds.
use Rattle.std.proofs.Common.{◌≡◌, refl, sym, ap, ◌∙◌, subst, ℕ, ◌+◌, ◌≤◌, List, [], ◌∷◌, length, codes, ◌⊎◌, inl, inr, Option, Some, None, Result, Ok, Err, arith}
use Rattle.std.specs.Prelude.{IsErr, IsErrAnd, IfSome, count_by, sum_by}
use Rattle.ec_model.specs.Upset.{is_cut_entry}
use Rattle.ec_types.specs.Tables.{packet_limit}
use Rattle.ec_model.specs.declared.event.WorldEvent.{WorldEvent}
use Rattle.ec_model.specs.declared.event.Entry.{Entry}
use Rattle.ec_model.specs.declared.event.Entry.TheVariants.{Step, Mark}
use Rattle.ec_model.specs.Table.{Table}
use Rattle.ec_model.specs.Bench.{BenchCall, Happens as HappensNow, Marks, Arms as ArmEvent, ArmsCut, has_place}
use Rattle.ec_wire.specs.Calls.{WireView, IsAgreed, RunsAlong, with_spare}
use Rattle.bench_wire.specs.Adding.{Extends}
use Rattle.bench_wire.specs.declared.arms.ArmsFull.{ArmsFull}
use Rattle.bench_wire.proofs.Extending.{extends-then, extends-grows}
use Rattle.ectool_lines.specs.declared.tool.Tool.{Tool}
use Rattle.ectool_lines.specs.Tools.{IsInRange}
use Rattle.ectool_lines.specs.Requests.{commands_of}
use Rattle.ectool_lines.specs.Texts.{LineEnd, printed}
use Rattle.ectool_lines.specs.Asking.{AsksEach, Hears}
use Rattle.host_transport.specs.Asking.{host_view}
use Rattle.ectool_lines.specs.Running.{Carries, RunsTool, Appends}
use Rattle.bench_io.specs.Printing.{Prints}
use Rattle.bench_io.specs.declared.printing.PrintErr.{PrintErr}
use Rattle.bench_io.specs.declared.printing.PrintErr.TheVariants.{Sink, NoMemory as NoMemoryLeft}
use Rattle.bench_shelf.specs.declared.shelf.Loaded.{Loaded}
use Rattle.bench_shelf.specs.declared.shelf.Loaded.TheVariants.{Whole, TooLong}
use Rattle.sync_lines.specs.Syncing.{SyncsLoaded, RunsSync}
use Rattle.sync_lines.specs.declared.line.SyncLineErr.{SyncLineErr}
use Rattle.sync_lines.specs.declared.line.SyncLineErr.TheVariants as sync_err
use Rattle.drill_lines.specs.Drilling.{RunsDrill}
use Rattle.ecbench.proofs.OneCall.{extends-spare, marks-extends, extends-none, arm-extends, cut-extends}
use Rattle.ecbench.proofs.DrillRounds.{rounds-add}
use Rattle.ectool_lines.proofs.AnswerLemmas.{Ready, tool-proper}
use Rattle.script_lines.specs.declared.line.BusLine.{BusLine}
use Rattle.ecbench.specs.declared.run.Exit.{Exit}
use Rattle.ecbench.specs.declared.run.Exit.TheVariants.{Done, BadWords, BadFlash, BadLine, SourceFault, SinkFault, ShelfFault, NoMemory, ScriptTooLong}
use Rattle.ecbench.specs.Lines.{Deed, Asks, Around, Happens, Makes, Arms, Cuts, Syncs, Drills, Traces, deed_of, MarksLine, FollowsEach, CarriesLine, ArmsLine, IsLeft, Unmarked, JustMarked, DrilledInPart, DoesLine, Carried, Happened, Made, HasArmed, HasCut, Synced, Drilled, Traced, armed_text}
use Rattle.ecbench.specs.Tracing.{trace_text}
use Rattle.ecbench.specs.Cutting.{CutsBy, cuts_in, cuts_of}
use Rattle.ecbench.specs.Playing.{AreOwn, IsCalled, PlaysOn}
use Rattle.ecbench.proofs.PlayLines.{on-then, on-none, on-mark, on-arm, on-cut, on-event, on-host}
use Rattle.ecbench.proofs.CutCounts.{told-then, told-as, host-told, happens-told, still-told, armed-told}
use Rattle.ecbench.specs.Serving.{exit_of, ServesLine, ServesEvent, ServesCalls, ServesArm, ServesCut, ServesSync, ServesDrill, ServesTrace, exit_of_sync}
use Rattle.ecbench.proofs.FollowLemmas.{each-followed, run-ready}

-- how many cuts a line arms
pub arms-as : (line : List ℕ) (deed : Deed) (count : ℕ) → deed_of line ≡ Ok deed → cuts_of (Ok deed) ≡ count → sum_by cuts_in (line ∷ []) ≡ count
arms-as line deed count wants is =
    let here : cuts_in line ≡ count = ap cuts_of wants ∙ is in
    omega (arith, here)

pub arms-none : (line : List ℕ) (deed : Deed) → deed_of line ≡ Ok deed → cuts_of (Ok deed) ≡ 0 → sum_by cuts_in (line ∷ []) ≡ 0
arms-none line deed wants none = arms-as line deed 0 wants none

-- what a line that was done added, how often power was lost in it, and its calls
pub record LineAdds (number : ℕ) (line : List ℕ) (old new : WireView) : Type 0 where
  pub added : List Entry
  pub some : 1 ≤ length added
  pub extends : Extends added old new
  pub cuts : IfSome old.table (λ table. CutsBy (sum_by cuts_in (line ∷ [])) (count_by is_cut_entry added) old.cut old.own_cuts new.cut new.own_cuts)
  pub calls : List BenchCall
  pub called : IsCalled number line calls
  pub played : PlaysOn calls added old new

-- a mark changes neither the armed cut nor the counts
mark-told : (number : ℕ) (old new : WireView) (o : Option Table) → MarksLine number old new → IfSome o (λ table. CutsBy 0 0 old.cut old.own_cuts new.cut new.own_cuts)
mark-told number old new o marks = still-told old new o (ap (λ (view : WireView). view.cut) marks.marked) (ap (λ (view : WireView). view.own_cuts) marks.marked)

-- what a line added behind its mark
behind-mark : (number : ℕ) (line : List ℕ) (deed : Deed) (calls : List BenchCall) (own : List Entry) (armings : ℕ) (old marked new : WireView) → deed_of line ≡ Ok deed → AreOwn deed calls → PlaysOn calls own marked new → MarksLine number old marked → sum_by cuts_in (line ∷ []) ≡ armings → Extends own marked new →
    IfSome marked.table (λ table. CutsBy armings (count_by is_cut_entry own) marked.cut marked.own_cuts new.cut new.own_cuts) → LineAdds number line old new
behind-mark number line deed calls own armings old marked new wants own_are played marks arms extends cuts =
    let mark = marks-extends number old marked marks in
    record {
      added = Mark number ∷ own;
      some = omega arith;
      extends = extends-then (Mark number ∷ []) own old marked new mark extends;
      cuts = told-as (0 + armings) (sum_by cuts_in (line ∷ [])) (0 + count_by is_cut_entry own) (count_by is_cut_entry (Mark number ∷ own)) old new old.table (omega (arith, arms)) (omega arith)
          (told-then 0 armings 0 (count_by is_cut_entry own) old.cut marked.cut new.cut old.own_cuts marked.own_cuts new.own_cuts (Mark number ∷ []) old.table marked.table mark.run (mark-told number old marked old.table marks) cuts);
      calls = Marks number ∷ calls;
      called = inr (record { deed = deed; own = calls; wants = wants; calls_are = refl; own_are = own_are });
      played = on-then (Marks number ∷ []) calls (Mark number ∷ []) own old marked new (on-mark number marks.spare old marked marks.marked) played;
    }

-- what a sync added behind the mark of its line
sync-adds : (size : ℕ) (words : List ℕ) (number : ℕ) (line name : List ℕ) (old marked new : WireView) → deed_of line ≡ Ok (Syncs name) → MarksLine number old marked → (loaded : Loaded) → SyncsLoaded loaded size words marked new → LineAdds number line old new
sync-adds size words number line name old marked new wants marks (Whole image) (end, some, synced, said) =
    let room = with_spare synced.spare marked in
    let part = synced.synced in
    let host = on-host part.added room new marked.table new.table part.grows.played in
    behind-mark number line (Syncs name) host.calls part.added 0 old marked new wants host.hosts host.played marks (arms-none line (Syncs name) wants refl)
    (extends-spare synced.spare part.added marked new (extends-grows part.added room new part.grows)) (host-told part.added room new marked.table new.table part.grows.played)
sync-adds size words number line name old marked new wants marks TooLong (same, said) =
    subst (λ (view : WireView). LineAdds number line old view) (sym same)
    (behind-mark number line (Syncs name) [] [] 0 old marked marked wants refl (on-none marked) marks (arms-none line (Syncs name) wants refl) (extends-none marked) (still-told marked marked marked.table refl refl))

pub line-adds : {around : Around} → (number : ℕ) (last : List Entry) (line text : List ℕ) (old new : WireView) → DoesLine around number last line text old new → LineAdds number line old new
line-adds number last line text old new (Carried carries) =
    let marked = carries.marked in
    let room = with_spare carries.carries.spare marked in
    let tool = carries.carries.carried in
    let host = on-host tool.added room new marked.table new.table tool.grows.played in
    behind-mark number line (Asks carries.tool) host.calls tool.added 0 old marked new carries.wants host.hosts host.played carries.marks (arms-none line (Asks carries.tool) carries.wants refl)
    (extends-spare carries.carries.spare tool.added marked new (extends-grows tool.added room new tool.grows)) (host-told tool.added room new marked.table new.table tool.grows.played)
line-adds number last line text old new (Happened happened wants happens said) =
    let marked = happens.marked in
    let now = happens.happens in
    let step = Step now.event 0 0 0 now.hurt ∷ [] in
    behind-mark number line (Happens happened) (HappensNow happened ∷ []) step 0 old marked new wants refl (on-event happened step marked new now.played) happens.marks (arms-none line (Happens happened) wants refl) now.adds.extends (happens-told happened step marked new marked.table new.table now.played)
line-adds number last line text old new (Made calls words wants makes said) =
    let marked = makes.marked in
    let room = with_spare makes.makes.spare marked in
    let made = makes.makes.made in
    let host = on-host made.added room new marked.table new.table made.grows.played in
    behind-mark number line (Makes calls) host.calls made.added 0 old marked new wants host.hosts host.played makes.marks (arms-none line (Makes calls) wants refl)
    (extends-spare makes.makes.spare made.added marked new (extends-grows made.added room new made.grows)) (host-told made.added room new marked.table new.table made.grows.played)
line-adds number last line text old new (HasArmed call event result wants arms said) =
    let marked = arms.marked in
    let same = arms.armed.armed in
    behind-mark number line (Arms call event) (ArmEvent call event (has_place marked.armed) ∷ []) [] 0 old marked new wants (has_place marked.armed, refl) (on-arm call event result marked new arms.armed) arms.marks (arms-none line (Arms call event) wants refl) (arm-extends call event result marked new arms.armed)
    (still-told marked new marked.table (ap (λ (view : WireView). view.cut) same) (ap (λ (view : WireView). view.own_cuts) same))
line-adds number last line text old new (HasCut operation torn wants cuts said) =
    let marked = cuts.marked in
    behind-mark number line (Cuts operation torn) (ArmsCut operation torn ∷ []) [] 1 old marked new wants refl (on-cut operation torn marked new cuts.armed) cuts.marks (arms-as line (Cuts operation torn) 1 wants refl) (cut-extends operation torn marked new cuts.armed)
    (armed-told operation torn marked new marked.table (ap (λ (view : WireView). view.cut) cuts.armed) (ap (λ (view : WireView). view.own_cuts) cuts.armed))
line-adds number last line text old new (Synced name words wants syncs said) = sync-adds _ words number line name old (syncs.marked) new wants syncs.marks (syncs.synced).loaded (syncs.synced).synced
line-adds number last line text old new (Drilled x rounds words wants drills said) =
    let part = rounds-add _ x rounds drills.marked new (drills.drill).cuts (drills.drill).done (drills.drill).drilled in
    behind-mark number line (Drills x rounds) part.calls part.added rounds old drills.marked new wants part.called part.played drills.marks (arms-as line (Drills x rounds) rounds wants refl) part.extends part.cuts
line-adds number last line text old new (Traced wants marks said) =
    behind-mark number line Traces [] [] 0 old new new wants refl (on-none new) marks (arms-none line Traces wants refl) (extends-none new) (still-told new new new.table refl refl)

-- where the tables are told, commands that the host heard followed
follows-told : (view new : WireView) (tool : Tool) (added : List Entry) (end : LineEnd) (before after : Option Table) → IsAgreed (record view { table = before }) → IsInRange tool →
    AsksEach (Hears view.bus) (host_view view) (commands_of (packet_limit view.bus) tool) added end (host_view new) → RunsAlong added before after → FollowsEach (commands_of (packet_limit view.bus) tool) added end view.spare new.spare before after
follows-told view new tool added end None None agreed within asks runs = tt
follows-told view new tool added end None (Some b) agreed within asks runs = runs
follows-told view new tool added end (Some a) None agreed within asks runs = runs
follows-told view new tool added end (Some a) (Some b) agreed within asks runs =
    let ready : Ready view.bus view.on a = record { valid = agreed.valid; kind = agreed.kind_is; on_is = agreed.on_is } in
    (each-followed (host_view view) a b (commands_of (packet_limit view.bus) tool) added end (host_view new) ready (tool-proper view.bus tool within) asks runs).asks

-- a line whose commands were sent, behind its mark
pub line-carried : (number : ℕ) (line text : List ℕ) (tool : Tool) (old marked new : WireView) → deed_of line ≡ Ok (Asks tool) → IsInRange tool → IsAgreed marked → MarksLine number old marked → Carries tool text marked new → CarriesLine number line text old new
line-carried number line text tool old marked new wants within agreed marks carries =
    let carried = carries.carried in
    record {
      tool = tool;
      wants = wants;
      within = within;
      marked = marked;
      marks = marks;
      carries = carries;
      follows = follows-told (with_spare carries.spare marked) new tool carried.added carried.end marked.table new.table agreed within carried.asks carried.grows.run;
    }

-- of a line there is at most its mark
left-of : (around : Around) (number : ℕ) (line : List ℕ) (old new : WireView) → (new ≡ old) ⊎ MarksLine number old new → IsLeft around number line old new
left-of around number line old new (inl still) = Unmarked still
left-of around number line old new (inr marks) = JustMarked marks

-- what was done with a line that sends commands
pub tool-done : (around : Around) (number : ℕ) (last : List Entry) (line text : List ℕ) (tool : Tool) (old marked new : WireView) (before after : Option (List ℕ)) → deed_of line ≡ Ok (Asks tool) → IsInRange tool → IsAgreed marked → MarksLine number old marked →
    Carries tool text marked new → Appends text before after → ServesLine around (Ok tt) number last line old new before after
tool-done around number last line text tool old marked new before after wants within agreed marks carries said =
    inr (record { text = text; does = Carried (line-carried number line text tool old marked new wants within agreed marks carries); printed = said })

pub tool-stopped : (around : Around) (error : PrintErr) (number : ℕ) (last : List Entry) (line : List ℕ) (tool : Tool) (old marked new : WireView) (before after : Option (List ℕ)) → deed_of line ≡ Ok (Asks tool) → IsInRange tool → IsAgreed marked → MarksLine number old marked →
    RunsTool (Err error) tool marked new before after → ServesLine around (Err (exit_of error)) number last line old new before after
tool-stopped around Sink number last line tool old marked new before after wants within agreed marks (text, carries, front) =
    (text, Carried (line-carried number line text tool old marked new wants within agreed marks carries), front)
tool-stopped around NoMemoryLeft number last line tool old marked new before after wants within agreed marks (still, unsaid) =
    (JustMarked (subst (λ (view : WireView). MarksLine number old view) (sym still) marks), unsaid)

-- an error of printing as an exit
pub as-exit : (around : Around) (result : Result (Unit {0}) Exit) (error : PrintErr) (number : ℕ) (last : List Entry) (line : List ℕ) (old new : WireView) (before after : Option (List ℕ)) → IsErr result × IsErrAnd result (λ exit. exit ≡ exit_of error) → ServesLine around (Err (exit_of error)) number last line old new before after →
    ServesLine around result number last line old new before after
as-exit around (Ok done) error number last line old new before after (never, same) serves = cc
as-exit around (Err exit) error number last line old new before after (is, same) serves = subst (λ (e : Exit). ServesLine around (Err e) number last line old new before after) (sym same) serves

-- what a controller tells agrees with its table behind entries, too
agreed-told : (old new : WireView) (added : List Entry) (before after : Option Table) → IsAgreed (record old { table = before }) → Extends added old new → RunsAlong added before after → IsAgreed (record new { table = after })
agreed-told old new added None None agreed extends runs = tt
agreed-told old new added None (Some b) agreed extends runs = absurd runs
agreed-told old new added (Some a) None agreed extends runs = tt
agreed-told old new added (Some a) (Some b) agreed extends runs =
    let before : Ready old.bus old.on a = record { valid = agreed.valid; kind = agreed.kind_is; on_is = agreed.on_is } in
    let ready = run-ready old.on a added b before runs in
    record { valid = ready.valid; kind_is = ready.kind ∙ sym extends.bus; on_is = ready.on_is ∙ sym extends.on }

pub agreed-behind : (old new : WireView) (added : List Entry) → IsAgreed old → Extends added old new → IsAgreed new
agreed-behind old new added agreed extends = agreed-told old new added old.table new.table agreed extends extends.run

-- what was done with an event, for a line that wants it
pub event-serves : (around : Around) (result : Result (Unit {0}) Exit) (number : ℕ) (last : List Entry) (line : List ℕ) (happened : WorldEvent) (old new : WireView) (before after : Option (List ℕ)) → deed_of line ≡ Ok (Happens happened) → ServesEvent result number happened old new before after → ServesLine around result number last line old new before after
event-serves around (Ok done) number last line happened old new before after wants (happens, said) = inr (record { text = printed (codes "ok"); does = Happened happened wants happens refl; printed = said })
event-serves around (Err SinkFault) number last line happened old new before after wants (happens, said) = (printed (codes "ok"), Happened happened wants happens refl, said)
event-serves around (Err NoMemory) number last line happened old new before after wants (still, unsaid) = (Unmarked still, unsaid)
event-serves around (Err Done) number last line happened old new before after wants never = absurd never
event-serves around (Err BadWords) number last line happened old new before after wants never = absurd never
event-serves around (Err BadFlash) number last line happened old new before after wants never = absurd never
event-serves around (Err (BadLine at reason)) number last line happened old new before after wants never = absurd never
event-serves around (Err SourceFault) number last line happened old new before after wants never = absurd never
event-serves around (Err ShelfFault) number last line happened old new before after wants never = absurd never
event-serves around (Err ScriptTooLong) number last line happened old new before after wants never = absurd never

-- what was done with calls of the host, for a line that wants them
pub calls-serves : (around : Around) (result : Result (Unit {0}) Exit) (number : ℕ) (last : List Entry) (line : List ℕ) (calls : BusLine) (old new : WireView) (before after : Option (List ℕ)) → deed_of line ≡ Ok (Makes calls) → ServesCalls result number calls old new before after → ServesLine around result number last line old new before after
calls-serves around (Ok done) number last line calls old new before after wants (words, makes, said) = inr (record { text = printed words; does = Made calls words wants makes refl; printed = said })
calls-serves around (Err SinkFault) number last line calls old new before after wants (words, makes, said) = (printed words, Made calls words wants makes refl, said)
calls-serves around (Err NoMemory) number last line calls old new before after wants (marked, unsaid) = (left-of around number line old new marked, unsaid)
calls-serves around (Err Done) number last line calls old new before after wants never = absurd never
calls-serves around (Err BadWords) number last line calls old new before after wants never = absurd never
calls-serves around (Err BadFlash) number last line calls old new before after wants never = absurd never
calls-serves around (Err (BadLine at reason)) number last line calls old new before after wants never = absurd never
calls-serves around (Err SourceFault) number last line calls old new before after wants never = absurd never
calls-serves around (Err ShelfFault) number last line calls old new before after wants never = absurd never
calls-serves around (Err ScriptTooLong) number last line calls old new before after wants never = absurd never

-- what was done with an event that is to be armed, for a line that wants it
pub arm-serves : (around : Around) (result : Result (Unit {0}) Exit) (number : ℕ) (last : List Entry) (line : List ℕ) (call : ℕ) (event : WorldEvent) (old new : WireView) (before after : Option (List ℕ)) → deed_of line ≡ Ok (Arms call event) → ServesArm result number call event old new before after → ServesLine around result number last line old new before after
arm-serves around (Ok done) number last line call event old new before after wants (armed, arms, said) = inr (record { text = printed (armed_text armed); does = HasArmed call event armed wants arms refl; printed = said })
arm-serves around (Err SinkFault) number last line call event old new before after wants (armed, arms, said) = (printed (armed_text armed), HasArmed call event armed wants arms refl, said)
arm-serves around (Err NoMemory) number last line call event old new before after wants (still, unsaid) = (Unmarked still, unsaid)
arm-serves around (Err Done) number last line call event old new before after wants never = absurd never
arm-serves around (Err BadWords) number last line call event old new before after wants never = absurd never
arm-serves around (Err BadFlash) number last line call event old new before after wants never = absurd never
arm-serves around (Err (BadLine at reason)) number last line call event old new before after wants never = absurd never
arm-serves around (Err SourceFault) number last line call event old new before after wants never = absurd never
arm-serves around (Err ShelfFault) number last line call event old new before after wants never = absurd never
arm-serves around (Err ScriptTooLong) number last line call event old new before after wants never = absurd never

-- an event was to be armed, and printing failed
pub arm-stopped : (result : Result (Unit {0}) Exit) (error : PrintErr) (number call : ℕ) (event : WorldEvent) (armed : Result (Unit {0}) ArmsFull) (old new : WireView) (before after : Option (List ℕ)) → IsErr result × IsErrAnd result (λ exit. exit ≡ exit_of error) →
    ArmsLine number call event armed old new → Prints (Err error) (printed (armed_text armed)) before after → ServesArm result number call event old new before after
arm-stopped (Ok done) error number call event armed old new before after (never, same) arms prints = cc
arm-stopped (Err exit) Sink number call event armed old new before after (is, same) arms prints = subst (λ (e : Exit). ServesArm (Err e) number call event old new before after) (sym same) (armed, arms, prints)
arm-stopped (Err exit) NoMemoryLeft number call event armed old new before after (is, same) arms prints = absurd prints

-- what was done with a cut that is to be armed, for a line that wants it
pub cut-serves : (around : Around) (result : Result (Unit {0}) Exit) (number : ℕ) (last : List Entry) (line : List ℕ) (operation : ℕ) (torn : List ℕ) (old new : WireView) (before after : Option (List ℕ)) → deed_of line ≡ Ok (Cuts operation torn) → ServesCut result number operation torn old new before after → ServesLine around result number last line old new before after
cut-serves around (Ok done) number last line operation torn old new before after wants (cuts, said) = inr (record { text = printed (codes "ok"); does = HasCut operation torn wants cuts refl; printed = said })
cut-serves around (Err SinkFault) number last line operation torn old new before after wants (cuts, said) = (printed (codes "ok"), HasCut operation torn wants cuts refl, said)
cut-serves around (Err NoMemory) number last line operation torn old new before after wants (still, unsaid) = (Unmarked still, unsaid)
cut-serves around (Err Done) number last line operation torn old new before after wants never = absurd never
cut-serves around (Err BadWords) number last line operation torn old new before after wants never = absurd never
cut-serves around (Err BadFlash) number last line operation torn old new before after wants never = absurd never
cut-serves around (Err (BadLine at reason)) number last line operation torn old new before after wants never = absurd never
cut-serves around (Err SourceFault) number last line operation torn old new before after wants never = absurd never
cut-serves around (Err ShelfFault) number last line operation torn old new before after wants never = absurd never
cut-serves around (Err ScriptTooLong) number last line operation torn old new before after wants never = absurd never

-- what was done with entries that are to be counted, for a line that wants it
pub trace-serves : (around : Around) (result : Result (Unit {0}) Exit) (number : ℕ) (last : List Entry) (line : List ℕ) (old new : WireView) (before after : Option (List ℕ)) → deed_of line ≡ Ok Traces → ServesTrace result number last old new before after → ServesLine around result number last line old new before after
trace-serves around (Ok done) number last line old new before after wants (marks, said) = inr (record { text = printed (trace_text last); does = Traced wants marks refl; printed = said })
trace-serves around (Err SinkFault) number last line old new before after wants (marks, said) = (printed (trace_text last), Traced wants marks refl, said)
trace-serves around (Err NoMemory) number last line old new before after wants (still, unsaid) = (Unmarked still, unsaid)
trace-serves around (Err Done) number last line old new before after wants never = absurd never
trace-serves around (Err BadWords) number last line old new before after wants never = absurd never
trace-serves around (Err BadFlash) number last line old new before after wants never = absurd never
trace-serves around (Err (BadLine at reason)) number last line old new before after wants never = absurd never
trace-serves around (Err SourceFault) number last line old new before after wants never = absurd never
trace-serves around (Err ShelfFault) number last line old new before after wants never = absurd never
trace-serves around (Err ScriptTooLong) number last line old new before after wants never = absurd never

-- what was done with an image that is to be synced, for a line that wants it
pub sync-serves : (result : Result (Unit {0}) Exit) (around : Around) (number : ℕ) (last : List Entry) (line name : List ℕ) (old new : WireView) (before after : Option (List ℕ)) → deed_of line ≡ Ok (Syncs name) → ServesSync result around number name old new before after → ServesLine around result number last line old new before after
sync-serves (Ok done) around number last line name old new before after wants (words, syncs, said) = inr (record { text = printed words; does = Synced name words wants syncs refl; printed = said })
sync-serves (Err SinkFault) around number last line name old new before after wants (words, syncs, said) = (printed words, Synced name words wants syncs refl, said)
sync-serves (Err ShelfFault) around number last line name old new before after wants (marks, unsaid) = (name, wants, marks, unsaid)
sync-serves (Err NoMemory) around number last line name old new before after wants (marked, unsaid) = (left-of around number line old new marked, unsaid)
sync-serves (Err Done) around number last line name old new before after wants never = absurd never
sync-serves (Err BadWords) around number last line name old new before after wants never = absurd never
sync-serves (Err BadFlash) around number last line name old new before after wants never = absurd never
sync-serves (Err (BadLine at reason)) around number last line name old new before after wants never = absurd never
sync-serves (Err SourceFault) around number last line name old new before after wants never = absurd never
sync-serves (Err ScriptTooLong) around number last line name old new before after wants never = absurd never

-- a line that syncs, behind its mark, was not printed whole, or not carried out
pub sync-stopped : (result : Result (Unit {0}) Exit) (error : SyncLineErr) (around : Around) (number : ℕ) (name : List ℕ) (old marked new : WireView) (before after : Option (List ℕ)) → IsErr result × IsErrAnd result (λ exit. exit ≡ exit_of_sync error) → MarksLine number old marked →
    RunsSync (Err error) around.files around.size name marked new before after → ServesSync result around number name old new before after
sync-stopped (Ok done) error around number name old marked new before after (never, same) marks runs = cc
sync-stopped (Err exit) sync_err.Sink around number name old marked new before after (is, same) marks (words, synced, front) =
    subst (λ (e : Exit). ServesSync (Err e) around number name old new before after) (sym same) (words, record { marked = marked; marks = marks; synced = synced }, front)
sync-stopped (Err exit) sync_err.Shelf around number name old marked new before after (is, same) marks (still, unsaid) =
    subst (λ (e : Exit). ServesSync (Err e) around number name old new before after) (sym same) (subst (λ (view : WireView). MarksLine number old view) (sym still) marks, unsaid)
sync-stopped (Err exit) sync_err.NoMemory around number name old marked new before after (is, same) marks (still, unsaid) =
    subst (λ (e : Exit). ServesSync (Err e) around number name old new before after) (sym same) (inr (subst (λ (view : WireView). MarksLine number old view) (sym still) marks), unsaid)

-- the same by the bytes of the name
pub sync-named : (result : Result (Unit {0}) Exit) (around : Around) (number : ℕ) (last : List Entry) (line bytes name : List ℕ) (old new : WireView) (before after : Option (List ℕ)) → bytes ≡ name → deed_of line ≡ Ok (Syncs name) → ServesSync result around number bytes old new before after → ServesLine around result number last line old new before after
sync-named result around number last line bytes name old new before after same wants serves =
    sync-serves result around number last line name old new before after wants (subst (λ (n : List ℕ). ServesSync result around number n old new before after) same serves)

-- what was done with a drill, for a line that wants it
pub drill-serves : (result : Result (Unit {0}) Exit) (around : Around) (number : ℕ) (last : List Entry) (line : List ℕ) (x rounds : ℕ) (old new : WireView) (before after : Option (List ℕ)) → deed_of line ≡ Ok (Drills x rounds) → ServesDrill result around.size number x rounds old new before after → ServesLine around result number last line old new before after
drill-serves (Ok done) around number last line x rounds old new before after wants (words, drills, said) = inr (record { text = printed words; does = Drilled x rounds words wants drills refl; printed = said })
drill-serves (Err SinkFault) around number last line x rounds old new before after wants (words, drills, said) = (printed words, Drilled x rounds words wants drills refl, said)
drill-serves (Err NoMemory) around number last line x rounds old new before after wants (inl still, unsaid) = (Unmarked still, unsaid)
drill-serves (Err NoMemory) around number last line x rounds old new before after wants (inr part, unsaid) = (DrilledInPart x rounds wants part, unsaid)
drill-serves (Err Done) around number last line x rounds old new before after wants never = absurd never
drill-serves (Err BadWords) around number last line x rounds old new before after wants never = absurd never
drill-serves (Err BadFlash) around number last line x rounds old new before after wants never = absurd never
drill-serves (Err (BadLine at reason)) around number last line x rounds old new before after wants never = absurd never
drill-serves (Err SourceFault) around number last line x rounds old new before after wants never = absurd never
drill-serves (Err ShelfFault) around number last line x rounds old new before after wants never = absurd never
drill-serves (Err ScriptTooLong) around number last line x rounds old new before after wants never = absurd never

-- a drill, behind its line's mark, was not printed whole, or not carried out whole
pub drill-stopped : (result : Result (Unit {0}) Exit) (error : PrintErr) (size number x rounds : ℕ) (old marked new : WireView) (before after : Option (List ℕ)) → IsErr result × IsErrAnd result (λ exit. exit ≡ exit_of error) → MarksLine number old marked →
    RunsDrill (Err error) size x rounds marked new before after → ServesDrill result size number x rounds old new before after
drill-stopped (Ok done) error size number x rounds old marked new before after (never, same) marks runs = cc
drill-stopped (Err exit) Sink size number x rounds old marked new before after (is, same) marks (words, drill, front) =
    subst (λ (e : Exit). ServesDrill (Err e) size number x rounds old new before after) (sym same) (words, record { marked = marked; marks = marks; drill = drill }, front)
drill-stopped (Err exit) NoMemoryLeft size number x rounds old marked new before after (is, same) marks (part, unsaid) =
    subst (λ (e : Exit). ServesDrill (Err e) size number x rounds old new before after) (sym same) (inr (record { marked = marked; marks = marks; part = part }), unsaid)
