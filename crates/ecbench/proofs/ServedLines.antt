-- A script, line by line: what a line that was read leaves, done or not.
use Rattle.std.proofs.Common.{◌≡◌, refl, sym, ap, ◌∙◌, subst, ℕ, ◌+◌, ◌≤◌, Bool, true, false, nat_lt, if◌then◌else◌, List, [], ◌∷◌, ◌++◌, drop, length, length-append, map, append_assoc, append-nil, ◌⊎◌, inl, inr, Option, Some, Result, Ok, Err, arith}
use Rattle.std.proofs.lemmas.Bool.{lt-ltb, le-ltb}
use Rattle.std.proofs.Math.Seq.{drop-append_seam}
use Rattle.ec_model.specs.declared.event.Entry.{Entry}
use Rattle.ec_model.specs.declared.event.Entry.TheVariants.{Mark}
use Rattle.ec_wire.specs.Calls.{WireView}
use Rattle.line_reader.specs.declared.reader.Next.TheVariants.{Line, Last}
use Rattle.line_reader.specs.Finding.{ReaderView, IsLast, Finds}
use Rattle.line_reader.specs.Lines.{most_bytes, without_return, lines_of, script_lines}
use Rattle.line_reader.specs.Taking.{Takes}
use Rattle.line_reader.proofs.Splitting.{line-splits, line-read, last-lines}
use Rattle.ectool_lines.specs.Running.{Appends}
use Rattle.ecbench.specs.declared.run.Exit.{Exit}
use Rattle.ecbench.specs.declared.run.Exit.TheVariants.{Done, BadWords, BadFlash, BadLine, SourceFault, SinkFault, ShelfFault, NoMemory, ScriptTooLong}
use Rattle.bench_shelf.specs.Shelves.{File}
use Rattle.ecbench.specs.Lines.{Around, IsLeft, Unmarked, JustMarked, DrilledInPart, Nothing, MarksLine, DoesLine, PassesOver, IsDone, WasPassed, WasDone, AreDone}
use Rattle.ecbench.specs.Scripts.{Plays}
use Rattle.bench_wire.specs.Adding.{Extends}
use Rattle.bench_wire.proofs.Extending.{extends-then}
use Rattle.ecbench.specs.Serving.{Serves, ServesLine, PrintsLine}
use Rattle.ecbench.proofs.Doing.{done-more}
use Rattle.std.specs.Prelude.{IfSome, count_by, sum_by}
use Rattle.std.proofs.lemmas.List.Sums.{sum_by-append}
use Rattle.ec_model.specs.Upset.{is_cut_entry}
use Rattle.ec_wire.specs.Calls.{RunsAlong}
use Rattle.ec_wire.proofs.Appends.{count_by-append}
use Rattle.ec_model.specs.Bench.{BenchCall}
use Rattle.ecbench.specs.Cutting.{CutsBy, CutsAlong, cuts_in}
use Rattle.ecbench.specs.Playing.{IsCalled, AreCalled, PlaysOn, PlaysLines}
use Rattle.ecbench.proofs.PlayLines.{on-then, on-none, called-more}
use Rattle.ecbench.proofs.CutCounts.{told-then, told-as, still-told}
use Rattle.ecbench.proofs.Adding.{arms-none, line-adds}
use Rattle.ecbench.proofs.OneCall.{extends-none, marks-extends}
use Rattle.ecbench.proofs.DrillRounds.{in-part-adds}
use Rattle.ecbench.proofs.ServedLemmas.{AtLine, Served, along, plays-lines, appends-then, before-line, line-number, script-fits, taken-more}

-- where the entries of the last line begin that did something, once one more was read
abbrev pub since_behind : ℕ → (old new : WireView) → ℕ
since_behind since old new = if nat_lt (length old.entries) (length new.entries) then length old.entries else since

-- they begin within the entries
since-within : (since : ℕ) (old new : WireView) (added : List Entry) → new.entries ≡ old.entries ++ added → since ≤ length old.entries → since_behind since old new ≤ length new.entries
since-within since old new added entries within = by (nat_lt (length old.entries) (length new.entries)) where
  by : (b : Bool) → (if b then length old.entries else since) ≤ length new.entries
  by true = omega (arith, ap length entries, length-append old.entries added)
  by false = omega (arith, ap length entries, length-append old.entries added, within)

-- nothing was added
since-same : (since : ℕ) (old new : WireView) (last : List Entry) → new ≡ old → drop since old.entries ≡ last → drop (since_behind since old new) new.entries ≡ last
since-same since old new last same is =
    let count = length old.entries in
    let still : since_behind since old new ≡ since =
    ap (λ (view : WireView). if nat_lt count (length view.entries) then count else since) same ∙ ap (λ (b : Bool). if b then count else since) (le-ltb count count (omega arith)) in
    ap (λ (n : ℕ). drop n new.entries) still ∙ ap (λ (view : WireView). drop since view.entries) same ∙ is

-- some entries were added
since-more : (since : ℕ) (old new : WireView) (added : List Entry) → new.entries ≡ old.entries ++ added → 1 ≤ length added → drop (since_behind since old new) new.entries ≡ added
since-more since old new added entries some =
    let count = length old.entries in
    let more : since_behind since old new ≡ count =
    ap (λ (b : Bool). if b then count else since) (lt-ltb count (length new.entries) (omega (arith, ap length entries, length-append old.entries added, some))) in
    ap (λ (n : ℕ). drop n new.entries) more ∙ ap (drop count) entries ∙ drop-append_seam old.entries added

-- a line that was done on the wire, or passed over
record LineDid (around : Around) (number : ℕ) (last : List Entry) (line : List ℕ) (old new : WireView) (before after : Option (List ℕ)) : Type 0 where
  pub own : List Entry
  pub said : List ℕ
  pub extends : Extends own old new
  pub behind : List Entry
  pub done : IsDone around number last line said old new behind
  pub since_is : (since : ℕ) → drop since old.entries ≡ last → drop (since_behind since old new) new.entries ≡ behind
  pub printed : Appends said before after
  pub cuts : IfSome old.table (λ table. CutsBy (sum_by cuts_in (line ∷ [])) (count_by is_cut_entry own) old.cut old.own_cuts new.cut new.own_cuts)
  pub calls : List BenchCall
  pub called : IsCalled number line calls
  pub played : PlaysOn calls own old new

line-did : {around : Around} → (number : ℕ) (last : List Entry) (line : List ℕ) (old new : WireView) (before after : Option (List ℕ)) → (PassesOver line [] old new × Appends [] before after) ⊎ PrintsLine around number last line old new before after → LineDid around number last line old new before after
line-did number last line old new before after (inl (passes, unprinted)) =
    record {
      own = [];
      said = [];
      extends = subst (λ (view : WireView). Extends [] old view) (sym passes.same) (extends-none old);
      behind = last;
      done = WasPassed passes refl;
      since_is = λ since is. since-same since old new last passes.same is;
      printed = unprinted;
      cuts = told-as 0 (sum_by cuts_in (line ∷ [])) 0 0 old new old.table (sym (arms-none line Nothing passes.wants refl)) refl
          (still-told old new old.table (ap (λ (view : WireView). view.cut) passes.same) (ap (λ (view : WireView). view.own_cuts) passes.same));
      calls = [];
      called = inl (passes.wants, refl);
      played = subst (λ (view : WireView). PlaysOn [] [] old view) (sym passes.same) (on-none old);
    }
line-did number last line old new before after (inr prints) =
    let adds = line-adds number last line prints.text old new prints.does in
    record { own = adds.added; said = prints.text; extends = adds.extends; behind = adds.added; done = WasDone prints.does adds.extends.entries; since_is = λ since is. since-more since old new adds.added adds.extends.entries adds.some; printed = prints.printed; cuts = adds.cuts; calls = adds.calls; called = adds.called; played = adds.played }

-- what was done with a line, by the files that the shelf had at first, and by the reader's line
pub serves-as : (size : ℕ) (files now : Option (List File)) (read line : List ℕ) (result : Result (Unit {0}) Exit) (number : ℕ) (last : List Entry) (old new : WireView) (before after : Option (List ℕ)) → now ≡ files → read ≡ line →
    ServesLine (record { size = size; files = now }) result number last read old new before after → ServesLine (record { size = size; files = files }) result number last line old new before after
serves-as size files now read line result number last old new before after kept same serves =
    subst (λ (all : Option (List File)). ServesLine (record { size = size; files = all }) result number last line old new before after) kept
    (subst (λ (bytes : List ℕ). ServesLine (record { size = size; files = now }) result number last bytes old new before after) same serves)

-- what was done with a line, behind the entries of the last one
pub told-by : {around : Around} → {number since : ℕ} {opened now : WireView} {reader : ReaderView} {left rest before after : Option (List ℕ)} → (served : Served around number since opened now reader left rest before after) → (result : Result (Unit {0}) Exit) (at : ℕ) (line : List ℕ) (new : WireView) (middle printed : Option (List ℕ)) →
    ServesLine around result at (drop since now.entries) line now new middle printed → ServesLine around result at served.last line now new middle printed
told-by {around = around} {now = now} served result at line new middle printed serves =
    subst (λ (last : List Entry). ServesLine around result at last line now new middle printed) served.since_is serves

-- how often power was lost in lines and in one more
cuts-more : (lines : List (List ℕ)) (line : List ℕ) (first second : List Entry) (old middle new : WireView) → RunsAlong first old.table middle.table →
    IfSome old.table (λ table. CutsBy (sum_by cuts_in lines) (count_by is_cut_entry first) old.cut old.own_cuts middle.cut middle.own_cuts) →
    IfSome middle.table (λ table. CutsBy (sum_by cuts_in (line ∷ [])) (count_by is_cut_entry second) middle.cut middle.own_cuts new.cut new.own_cuts) →
    IfSome old.table (λ table. CutsBy (sum_by cuts_in (lines ++ line ∷ [])) (count_by is_cut_entry (first ++ second)) old.cut old.own_cuts new.cut new.own_cuts)
cuts-more lines line first second old middle new runs once again =
    told-as (sum_by cuts_in lines + sum_by cuts_in (line ∷ [])) (sum_by cuts_in (lines ++ line ∷ [])) (count_by is_cut_entry first + count_by is_cut_entry second) (count_by is_cut_entry (first ++ second)) old new old.table
    (sym (sum_by-append cuts_in lines (line ∷ []))) (sym (count_by-append is_cut_entry first second))
    (told-then (sum_by cuts_in lines) (sum_by cuts_in (line ∷ [])) (count_by is_cut_entry first) (count_by is_cut_entry second) old.cut middle.cut new.cut old.own_cuts middle.own_cuts new.own_cuts first old.table middle.table runs once again)

-- a line behind others
record DidMore (around : Around) (number since : ℕ) (raws : List (List ℕ)) (line : List ℕ) (opened now new : WireView) (before later : Option (List ℕ)) : Type 0 where
  pub own : List Entry
  pub extends : Extends own opened new
  pub text : List ℕ
  pub last : List Entry
  pub since_is : drop (since_behind since now new) new.entries ≡ last
  pub within : since_behind since now new ≤ length new.entries
  pub done : AreDone around 1 opened.entries (map without_return raws ++ line ∷ []) text opened new last
  pub printed : Appends text before later
  pub cuts : IfSome opened.table (λ table. CutsBy (sum_by cuts_in (map without_return raws ++ line ∷ [])) (count_by is_cut_entry own) opened.cut opened.own_cuts new.cut new.own_cuts)
  pub calls : List BenchCall
  pub called : AreCalled 1 (map without_return raws ++ line ∷ []) calls
  pub played : PlaysOn calls own opened new

did-more : {around : Around} → {since : ℕ} (number : ℕ) (opened now new : WireView) (reader : ReaderView) (line : List ℕ) (left rest before after printed : Option (List ℕ)) → (served : Served around number since opened now reader left rest before after) →
    ServesLine around (Ok tt) number served.last line now new after printed → DidMore around number since served.raws line opened now new before printed
did-more {since} number opened now new reader line left rest before after printed served line_done =
    let did = line-did number served.last line now new after printed line_done in
    record {
      own = served.own ++ did.own;
      extends = extends-then served.own did.own opened now new served.extends did.extends;
      text = served.text ++ did.said;
      last = did.behind;
      since_is = did.since_is since served.since_is;
      within = since-within since now new did.own did.extends.entries served.within;
      done = done-more 1 opened.entries (map without_return served.raws) served.text opened now served.last number line did.said new did.behind
          (omega (arith, line-number number served.raws served.number_is)) served.done did.done;
      printed = appends-then served.text did.said before after printed served.printed did.printed;
      cuts = cuts-more (map without_return served.raws) line served.own did.own opened now new served.extends.run served.cuts did.cuts;
      calls = served.calls ++ did.calls;
      called = called-more 1 (map without_return served.raws) line number served.calls did.calls (omega (arith, line-number number served.raws served.number_is)) served.called did.called;
      played = on-then served.calls did.calls served.own did.own opened now new served.played did.played;
    }

-- the lines with one more
map-more : (raws : List (List ℕ)) (raw : List ℕ) → map without_return (raws ++ raw ∷ []) ≡ map without_return raws ++ without_return raw ∷ []
map-more [] raw = refl
map-more (first ∷ raws) raw = ap (λ (rest : List (List ℕ)). without_return first ∷ rest) (map-more raws raw)

-- one more line was done
pub served-more : {around : Around} → {since : ℕ} (number : ℕ) (opened now new : WireView) (reader after_reader : ReaderView) (left rest more before after printed : Option (List ℕ)) → (served : Served around number since opened now reader left rest before after) →
    Finds (Ok Line) reader after_reader rest more → ServesLine around (Ok tt) number served.last after_reader.line now new after printed → Served around (number + 1) (since_behind since now new) opened new after_reader left more before printed
served-more {around = around} number opened now new reader after_reader left rest more before after printed served finds line_done =
    let all = reader.ahead ++ finds.came in
    let found = finds.says in
    let taken = taken-more number opened now reader left rest more before after finds.came served finds.taken in
    let did = did-more number opened now new reader after_reader.line left rest before after printed served line_done in
    let used = served.used ++ (found.raw ++ 10 ∷ []) in
    let bytes : served.used ++ all ≡ used ++ after_reader.ahead =
    ap (λ (b : List ℕ). served.used ++ b) (found.bytes ∙ sym (append_assoc found.raw (10 ∷ []) after_reader.ahead)) ∙ sym (append_assoc served.used (found.raw ++ 10 ∷ []) after_reader.ahead) in
    let lines_are : map without_return (served.raws ++ found.raw ∷ []) ≡ map without_return served.raws ++ after_reader.line ∷ [] =
    map-more served.raws found.raw ∙ ap (λ (line : List ℕ). map without_return served.raws ++ line ∷ []) (sym found.stripped) in
    let read = line-read served.raws served.used served.splits reader after_reader all served.read found in
    record {
      raws = served.raws ++ found.raw ∷ [];
      used = used;
      splits = line-splits served.raws served.used served.splits reader after_reader all served.read found;
      read = read;
      takes = subst (λ (b : List ℕ). Takes b left more) bytes taken;
      number_is = omega (arith, served.number_is, length-append served.raws (found.raw ∷ []));
      few = omega (arith, served.few, served.read, read, found.read);
      own = did.own;
      extends = did.extends;
      text = did.text;
      last = did.last;
      since_is = did.since_is;
      within = did.within;
      cuts = subst (λ (ls : List (List ℕ)). IfSome opened.table (λ table. CutsBy (sum_by cuts_in ls) (count_by is_cut_entry did.own) opened.cut opened.own_cuts new.cut new.own_cuts)) (sym lines_are) did.cuts;
      calls = did.calls;
      called = subst (λ (ls : List (List ℕ)). AreCalled 1 ls did.calls) (sym lines_are) did.called;
      played = did.played;
      done = subst (λ (ls : List (List ℕ)). AreDone around 1 opened.entries ls did.text opened new did.last) (sym lines_are) did.done;
      printed = did.printed;
    }

-- the last line was done
pub serves-last : {around : Around} → {since : ℕ} (number : ℕ) (opened now new : WireView) (reader after_reader : ReaderView) (left rest more before after printed : Option (List ℕ)) → (served : Served around number since opened now reader left rest before after) → after_reader.given ≤ most_bytes →
    Finds (Ok Last) reader after_reader rest more → ServesLine around (Ok tt) number served.last after_reader.line now new after printed → Serves around Done opened new left more before printed
serves-last {around = around} number opened now new reader after_reader left rest more before after printed served within finds line_done =
    let all = reader.ahead ++ finds.came in
    let last = finds.says in
    let taken = taken-more number opened now reader left rest more before after finds.came served finds.taken in
    let did = did-more number opened now new reader after_reader.line left rest before after printed served line_done in
    let script = served.used ++ all in
    let fits : length script ≤ most_bytes = omega (arith, length-append served.used all, ap length last.bytes, served.read, last.read, within) in
    let told : IsLast reader after_reader all (Some []) =
    record { feedless = last.feedless; bytes = last.bytes; read = last.read; some = last.some; fits = last.fits; ahead = last.ahead; left = refl } in
    let lines = last-lines served.raws served.used served.splits reader after_reader all served.read within [] told in
    let lines_are : lines_of script ≡ map without_return served.raws ++ after_reader.line ∷ [] =
    sym (script-fits script fits) ∙ ap (λ (b : List ℕ). script_lines (served.used ++ b)) (sym (append-nil all)) ∙ lines in
    record {
      own = did.own;
      extends = did.extends;
      plays = (
        script,
        record { takes = taken; end = last.left; fits = fits },
        record {
          text = did.text;
          own = did.last;
          done = subst (λ (ls : List (List ℕ)). AreDone around 1 opened.entries ls did.text opened new did.last) (sym lines_are) did.done;
          printed = did.printed;
          cuts = subst (λ (ls : List (List ℕ)). CutsAlong (sum_by cuts_in ls) opened new) (sym lines_are) (record { added = did.own; entries = did.extends.entries; counted = did.cuts });
          played = subst (λ (ls : List (List ℕ)). PlaysLines ls opened new) (sym lines_are) (record { calls = did.calls; called = did.called; added = did.own; entries = did.extends.entries; played = did.played });
        },
      );
    }

-- what there is of a line for which memory was refused
left-extends : (around : Around) (number : ℕ) (line : List ℕ) (old new : WireView) → IsLeft around number line old new → (last : List Entry) × Extends last old new
left-extends around number line old new (Unmarked same) = ([], subst (λ (view : WireView). Extends [] old view) (sym same) (extends-none old))
left-extends around number line old new (JustMarked marks) = (Mark number ∷ [], marks-extends number old new marks)
left-extends around number line old new (DrilledInPart x rounds wants drills) =
    let part = in-part-adds around.size x rounds drills.marked new drills.part in
    (Mark number ∷ part.0, extends-then (Mark number ∷ []) part.0 old drills.marked new (marks-extends number old drills.marked drills.marks) part.1)

-- texts of which nothing follows
appends-last : (text : List ℕ) (old middle new : Option (List ℕ)) → Appends text old middle → Appends [] middle new → Appends text old new
appends-last text old middle new once again = subst (λ (bytes : List ℕ). Appends bytes old new) (append-nil text) (appends-then text [] old middle new once again)

-- a line ended the script
pub serves-stopped : {around : Around} → {since : ℕ} (exit : Exit) (number : ℕ) (opened now new : WireView) (reader : ReaderView) (line : List ℕ) (left rest more before after printed : Option (List ℕ)) → (served : Served around number since opened now reader left rest before after) →
    AtLine served.raws line left more → ServesLine around (Err exit) number served.last line now new after printed → Serves around exit opened new left more before printed
serves-stopped {around = around} (BadLine at reason) number opened now new reader line left rest more before after printed served at_line (same, faulty, still, unprinted) =
    record {
      own = served.own;
      extends = subst (λ (view : WireView). Extends served.own opened view) (sym still) served.extends;
      plays = (
        at_line.script,
        at_line.taken,
        line,
        map without_return served.raws,
        at_line.is_script,
        faulty,
        record {
          is_line = at_line.is_line;
          number_is = same ∙ line-number number served.raws served.number_is;
          plays = subst (λ (view : WireView). Plays around opened.entries (map without_return served.raws) opened view before printed) (sym still)
              (record { text = served.text; own = served.last; done = served.done; printed = appends-last served.text before after printed served.printed unprinted; cuts = along served; played = plays-lines served });
        },
      );
    }
serves-stopped {around = around} SinkFault number opened now new reader line left rest more before after printed served at_line (text, does, front) =
    let adds = line-adds number served.last line text now new does in
    record {
      own = served.own ++ adds.added;
      extends = extends-then served.own adds.added opened now new served.extends adds.extends;
      plays = (
        at_line.script,
        at_line.taken,
        line,
        map without_return served.raws,
        at_line.is_script,
        at_line.is_line,
        record {
          middle = now;
          between = after;
          text = text;
          plays = before-line number opened now reader left rest before after served;
          does = subst (λ (n : ℕ). DoesLine around n served.last line text now new) (line-number number served.raws served.number_is) does;
          printed = front;
          cuts = record {
            added = served.own ++ adds.added;
            entries = (extends-then served.own adds.added opened now new served.extends adds.extends).entries;
            counted = cuts-more (map without_return served.raws) line served.own adds.added opened now new served.extends.run served.cuts adds.cuts;
          };
          played = record {
            calls = served.calls ++ adds.calls;
            called = called-more 1 (map without_return served.raws) line number served.calls adds.calls (omega (arith, line-number number served.raws served.number_is)) served.called adds.called;
            added = served.own ++ adds.added;
            entries = (extends-then served.own adds.added opened now new served.extends adds.extends).entries;
            played = on-then served.calls adds.calls served.own adds.added opened now new served.played adds.played;
          };
        },
      );
    }
serves-stopped {around = around} NoMemory number opened now new reader line left rest more before after printed served at_line (left_of, unprinted) =
    let mark = left-extends around number line now new left_of in
    record {
      own = served.own ++ mark.0;
      extends = extends-then served.own mark.0 opened now new served.extends mark.1;
      plays = (
        at_line.script,
        at_line.taken,
        line,
        map without_return served.raws,
        at_line.is_script,
        at_line.is_line,
        record {
          middle = now;
          plays = record { text = served.text; own = served.last; done = served.done; printed = appends-last served.text before after printed served.printed unprinted; cuts = along served; played = plays-lines served };
          left = subst (λ (n : ℕ). IsLeft around n line now new) (line-number number served.raws served.number_is) left_of;
        },
      );
    }
serves-stopped ShelfFault number opened now new reader line left rest more before after printed served at_line (name, wants, marks, unprinted) =
    let mark = marks-extends number now new marks in
    record {
      own = served.own ++ Mark number ∷ [];
      extends = extends-then served.own (Mark number ∷ []) opened now new served.extends mark;
      plays = (
        at_line.script,
        at_line.taken,
        line,
        map without_return served.raws,
        at_line.is_script,
        at_line.is_line,
        record {
          middle = now;
          name = name;
          wants = wants;
          plays = record { text = served.text; own = served.last; done = served.done; printed = appends-last served.text before after printed served.printed unprinted; cuts = along served; played = plays-lines served };
          marks = subst (λ (n : ℕ). MarksLine n now new) (line-number number served.raws served.number_is) marks;
        },
      );
    }
serves-stopped Done number opened now new reader line left rest more before after printed served at_line never = absurd never
serves-stopped BadWords number opened now new reader line left rest more before after printed served at_line never = absurd never
serves-stopped BadFlash number opened now new reader line left rest more before after printed served at_line never = absurd never
serves-stopped SourceFault number opened now new reader line left rest more before after printed served at_line never = absurd never
serves-stopped ScriptTooLong number opened now new reader line left rest more before after printed served at_line never = absurd never

-- the same, where the last line begins
pub served-since : {around : Around} → {number since : ℕ} {opened now : WireView} {reader : ReaderView} {left rest before after : Option (List ℕ)} → (other : ℕ) → other ≡ since → Served around number since opened now reader left rest before after → Served around number other opened now reader left rest before after
served-since {around = around} {number = number} {opened = opened} {now = now} {reader = reader} {left = left} {rest = rest} {before = before} {after = after} other same served =
    subst (λ (place : ℕ). Served around number place opened now reader left rest before after) (sym same) served

pub since-is : (since start end result : ℕ) (old new : WireView) → result ≡ (if nat_lt start end then start else since) → start ≡ length old.entries → end ≡ length new.entries → result ≡ since_behind since old new
since-is since start end result old new same start_is end_is =
    same
    ∙ ap (λ (n : ℕ). if nat_lt n end then n else since) start_is
    ∙ ap (λ (n : ℕ). if nat_lt (length old.entries) n then length old.entries else since) end_is
