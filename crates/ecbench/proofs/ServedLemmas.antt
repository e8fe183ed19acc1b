-- A script, line by line: what was done so far, and what each exit says.
use Rattle.std.proofs.Common.{◌≡◌, refl, sym, ap, ◌∙◌, subst, ℕ, ◌+◌, ◌≤◌, ◌<◌, Bool, true, false, nat_lt, if◌then◌else◌, List, [], ◌++◌, length, length-append, map, take, drop, ◌-◌, append_assoc, length-drop, append-nil, inl, inr, Option, Some, None, Result, Ok, Err, arith}
use Rattle.std.specs.Prelude.{IfSome, count_by, sum_by}
use Rattle.ec_model.specs.Upset.{is_cut_entry}
use Rattle.std.proofs.lemmas.Bool.{le-leb, lt-ltb}
use Rattle.std.proofs.lemmas.List.{length-map, take-append-drop}
use Rattle.ec_types.specs.declared.why.Why.{Why}
use Rattle.ec_types.specs.declared.why.Why.TheVariants as why
use Rattle.flash_dev.specs.declared.device.Failed.{Failed}
use Rattle.ec_model.specs.declared.event.Entry.{Entry}
use Rattle.ec_wire.specs.Calls.{WireView}
use Rattle.line_reader.specs.declared.reader.Next.{Next}
use Rattle.line_reader.specs.declared.reader.Next.TheVariants.{Line, Last, End, TooLong, Full}
use Rattle.line_reader.specs.Bytes.{NoneLeft, IsWithin}
use Rattle.line_reader.specs.Finding.{ReaderView, IsLast, IsEnd, IsOver, IsTooLong, Keeps, Finds}
use Rattle.line_reader.specs.Lines.{most_bytes, longest_line, without_return, lines_of, lines_within, script_lines}
use Rattle.line_reader.specs.Taking.{Takes}
use Rattle.line_reader.proofs.Takings.{Takes-then}
use Rattle.line_reader.proofs.Splitting.{Splits, splits-nothing, line-lines, last-lines, end-lines, long-lines, full-lines, failed-lines, front-lines}
use Rattle.std.specs.Prelude.{codes, nat_eq, is_ok, ◌&&◌, ◌||◌, ◌==◌}
use Rattle.std.specs.List.{list_any, starts_with}
use Rattle.script_words.specs.Words.{words_of}
use Rattle.script_words.specs.Lines.{checked, is_unprintable, does_nothing}
use Rattle.script_words.specs.Forms.{◌>>=◌}
use Rattle.ectool_lines.specs.Running.{Appends}
use Rattle.ecbench.specs.declared.run.Exit.{Exit}
use Rattle.ecbench.specs.declared.run.Exit.TheVariants.{Done, BadLine, SourceFault, ScriptTooLong}
use Rattle.ecbench.specs.Lines.{Around, AreDone, IsFaulty, deed_by}
use Rattle.bench_wire.specs.Adding.{Extends}
use Rattle.script_lines.specs.declared.line.Line.{Line as ScriptLine}
use Rattle.script_lines.specs.declared.line.Line.TheVariants.{Nothing}
use Rattle.script_lines.specs.Lines.{line_of, line_by}
use Rattle.ecbench.specs.Scripts.{IsScript, ReadsNoFurther, Plays, IsLine}
use Rattle.ecbench.specs.Serving.{Serves, exit_at}
use Rattle.ec_model.specs.Bench.{BenchCall}
use Rattle.ecbench.specs.Cutting.{CutsBy, CutsAlong, cuts_in}
use Rattle.ecbench.specs.Playing.{AreCalled, PlaysOn, PlaysLines}
use Rattle.ecbench.proofs.PlayLines.{on-none}
use Rattle.ecbench.proofs.CutCounts.{still-told}
use Rattle.ecbench.proofs.OneCall.{extends-none}

-- what is left of a source; nothing where that is not told
abbrev rest_of : Option (List ℕ) → List ℕ
rest_of None = []
rest_of (Some rest) = rest

-- nothing is left
none-left : (rest : Option (List ℕ)) → NoneLeft rest → rest_of rest ≡ []
none-left None none = refl
none-left (Some rest) none = none

-- what was taken and what is left is the whole script
script-whole : (taken : List ℕ) (left rest : Option (List ℕ)) → Takes taken left rest → IfSome left (λ all. taken ++ rest_of rest ≡ all)
script-whole taken None rest takes = tt
script-whole taken (Some left) None takes = absurd takes
script-whole taken (Some left) (Some rest) takes = takes

is-script : (taken : List ℕ) (left rest : Option (List ℕ)) → Takes taken left rest → IsScript (taken ++ rest_of rest) taken left rest
is-script taken left rest takes = record { takes = takes; more = rest_of rest; begins = refl; whole = script-whole taken left rest takes }

-- texts one after the other
pub appends-then : (first second : List ℕ) (old middle new : Option (List ℕ)) → Appends first old middle → Appends second middle new → Appends (first ++ second) old new
appends-then first second None None None once again = tt
appends-then first second None None (Some new) once again = again
appends-then first second None (Some middle) new once again = absurd once
appends-then first second (Some old) None new once again = absurd once
appends-then first second (Some old) (Some middle) None once again = again
appends-then first second (Some old) (Some middle) (Some new) once again = again ∙ ap (λ (front : List ℕ). front ++ second) once ∙ append_assoc old first second

pub appends-nothing : (written : Option (List ℕ)) → Appends [] written written
appends-nothing None = tt
appends-nothing (Some written) = sym (append-nil written)

-- So many lines of a script were done: their parts and their bytes, which were read; the entries that they added, and what
-- they printed. The last line that did something has the entries from `since` on.
pub record Served (around : Around) (number since : ℕ) (opened now : WireView) (reader : ReaderView) (left rest before after : Option (List ℕ)) : Type 0 where
  pub raws : List (List ℕ)
  pub used : List ℕ
  pub splits : Splits raws used
  pub read : length used ≡ reader.given
  pub takes : Takes (used ++ reader.ahead) left rest
  pub number_is : number ≡ length raws + 1
  pub few : number ≤ length used + 1
  pub own : List Entry
  pub extends : Extends own opened now
  pub text : List ℕ
  pub last : List Entry
  pub since_is : drop since now.entries ≡ last
  pub within : since ≤ length now.entries
  pub cuts : IfSome opened.table (λ table. CutsBy (sum_by cuts_in (map without_return raws)) (count_by is_cut_entry own) opened.cut opened.own_cuts now.cut now.own_cuts)
  pub calls : List BenchCall
  pub called : AreCalled 1 (map without_return raws) calls
  pub played : PlaysOn calls own opened now
  pub done : AreDone around 1 opened.entries (map without_return raws) text opened now last
  pub printed : Appends text before after

-- nothing was read yet
pub served-nothing : {around : Around} → (opened : WireView) (left before : Option (List ℕ)) (reader : ReaderView) → reader ≡ record { ahead = []; given = 0; line = [] } → Takes [] left left → Served around 1 0 opened opened reader left left before before
served-nothing opened left before reader fresh none =
    record {
      raws = [];
      used = [];
      splits = splits-nothing;
      read = ap (λ (r : ReaderView). r.given) (sym fresh);
      takes = subst (λ (ahead : List ℕ). Takes ahead left left) (ap (λ (r : ReaderView). r.ahead) (sym fresh)) none;
      number_is = refl;
      few = omega arith;
      own = [];
      extends = extends-none opened;
      text = [];
      last = opened.entries;
      since_is = refl;
      within = omega arith;
      cuts = still-told opened opened opened.table refl refl;
      calls = [];
      called = refl;
      played = on-none opened;
      done = (refl, refl, refl);
      printed = appends-nothing before;
    }

-- how often power was lost in them
pub along : {around : Around} → {number since : ℕ} {opened now : WireView} {reader : ReaderView} {left rest before after : Option (List ℕ)} → (served : Served around number since opened now reader left rest before after) → CutsAlong (sum_by cuts_in (map without_return served.raws)) opened now
along served = record { added = served.own; entries = served.extends.entries; counted = served.cuts }

-- the calls that they are
pub plays-lines : {around : Around} → {number since : ℕ} {opened now : WireView} {reader : ReaderView} {left rest before after : Option (List ℕ)} → (served : Served around number since opened now reader left rest before after) → PlaysLines (map without_return served.raws) opened now
plays-lines served = record { calls = served.calls; called = served.called; added = served.own; entries = served.extends.entries; played = served.played }

-- what was taken once the next line was looked for
pub taken-more : {around : Around} → {since : ℕ} (number : ℕ) (opened now : WireView) (reader : ReaderView) (left rest more before after : Option (List ℕ)) (came : List ℕ) → (served : Served around number since opened now reader left rest before after) → Takes came rest more →
    Takes (served.used ++ (reader.ahead ++ came)) left more
taken-more number opened now reader left rest more before after came served takes =
    subst (λ (taken : List ℕ). Takes taken left more) (append_assoc served.used reader.ahead came) (Takes-then (served.used ++ reader.ahead) came left rest more served.takes takes)

-- the number of a line
pub line-number : (number : ℕ) (raws : List (List ℕ)) → number ≡ length raws + 1 → number ≡ length (map without_return raws) + 1
line-number number raws same = omega (arith, same, length-map raws without_return)

-- the source failed
pub serves-failed : {around : Around} → {since : ℕ} (number : ℕ) (opened now : WireView) (reader after_reader : ReaderView) (left rest more before after : Option (List ℕ)) (failed : Failed) → Served around number since opened now reader left rest before after → Finds (Err failed) reader after_reader rest more →
    Serves around SourceFault opened now left more before after
serves-failed {around = around} number opened now reader after_reader left rest more before after failed served finds =
    let all = reader.ahead ++ finds.came in
    let lines = failed-lines served.raws served.used served.splits reader after_reader all served.read finds.says in
    record {
      own = served.own;
      extends = served.extends;
      plays = (
        served.used ++ all,
        taken-more number opened now reader left rest more before after finds.came served finds.taken,
        omega (arith, length-append served.used all, served.read, finds.says.read),
        record {
          text = served.text;
          own = served.last;
          done = subst (λ (ls : List (List ℕ)). AreDone around 1 opened.entries ls served.text opened now served.last) (sym lines) served.done;
          printed = served.printed;
          cuts = subst (λ (ls : List (List ℕ)). CutsAlong (sum_by cuts_in ls) opened now) (sym lines) (along served);
          played = subst (λ (ls : List (List ℕ)). PlaysLines ls opened now) (sym lines) (plays-lines served);
        },
      );
    }

-- a script that is short enough
pub script-fits : (bytes : List ℕ) → length bytes ≤ most_bytes → script_lines bytes ≡ lines_of bytes
script-fits bytes short = ap (λ (test : Bool). if test then lines_of bytes else lines_within (take most_bytes bytes)) (le-leb (length bytes) most_bytes short)

-- the script was read to its end
pub serves-end : {around : Around} → {since : ℕ} (number : ℕ) (opened now : WireView) (reader after_reader : ReaderView) (left rest more before after : Option (List ℕ)) → Served around number since opened now reader left rest before after → after_reader.given ≤ most_bytes → Finds (Ok End) reader after_reader rest more →
    Serves around Done opened now left more before after
serves-end {around = around} number opened now reader after_reader left rest more before after served within finds =
    let all = reader.ahead ++ finds.came in
    let end = finds.says in
    let taken = taken-more number opened now reader left rest more before after finds.came served finds.taken in
    let whole : served.used ++ all ≡ served.used = ap (λ (bytes : List ℕ). served.used ++ bytes) end.bytes ∙ append-nil served.used in
    let fits : length served.used ≤ most_bytes = omega (arith, served.read, end.read, within) in
    let ended : IsEnd reader after_reader all (Some []) = record { bytes = end.bytes; read = end.read; ahead = end.ahead; left = refl } in
    let lines : script_lines (served.used ++ (all ++ [])) ≡ map without_return served.raws = end-lines served.raws served.used served.splits reader after_reader all served.read within [] ended in
    let same : served.used ++ (all ++ []) ≡ served.used = ap (λ (bytes : List ℕ). served.used ++ bytes) (append-nil all) ∙ whole in
    let lines_are : lines_of served.used ≡ map without_return served.raws = sym (script-fits served.used fits) ∙ ap script_lines (sym same) ∙ lines in
    record {
      own = served.own;
      extends = served.extends;
      plays = (
        served.used,
        record { takes = subst (λ (bytes : List ℕ). Takes bytes left more) whole taken; end = end.left; fits = fits },
        record {
          text = served.text;
          own = served.last;
          done = subst (λ (ls : List (List ℕ)). AreDone around 1 opened.entries ls served.text opened now served.last) (sym lines_are) served.done;
          printed = served.printed;
          cuts = subst (λ (ls : List (List ℕ)). CutsAlong (sum_by cuts_in ls) opened now) (sym lines_are) (along served);
          played = subst (λ (ls : List (List ℕ)). PlaysLines ls opened now) (sym lines_are) (plays-lines served);
        },
      );
    }

-- how many bytes were taken
all-read : {around : Around} → {since : ℕ} (number : ℕ) (opened now : WireView) (reader after_reader : ReaderView) (left rest before after : Option (List ℕ)) (all : List ℕ) → (served : Served around number since opened now reader left rest before after) → Keeps reader after_reader all →
    length (served.used ++ all) ≡ after_reader.given + length after_reader.ahead
all-read number opened now reader after_reader left rest before after all served keeps =
    omega (arith, length-append served.used all, served.read, ap length keeps.bytes, length-append keeps.read after_reader.ahead, keeps.given)

-- it was read no further than to the end of the line behind those that were done, and at most 4,096 bytes wait
no-further : {around : Around} → {since : ℕ} (number : ℕ) (opened now : WireView) (reader after_reader : ReaderView) (left rest before after : Option (List ℕ)) (all : List ℕ) → (served : Served around number since opened now reader left rest before after) → length after_reader.ahead ≤ 4096 → Keeps reader after_reader all →
    ReadsNoFurther (map without_return served.raws) (served.used ++ all)
no-further number opened now reader after_reader left rest before after all served few keeps =
    let count = length keeps.read - 1 in
    let first = take count keeps.read in
    let last = drop count keeps.read in
    record {
      front = served.used ++ first;
      behind = last ++ after_reader.ahead;
      taken_is = ap (λ (bytes : List ℕ). served.used ++ bytes) (keeps.bytes ∙ ap (λ (read : List ℕ). read ++ after_reader.ahead) (sym (take-append-drop count keeps.read)) ∙ append_assoc first last after_reader.ahead)
          ∙ sym (append_assoc served.used first (last ++ after_reader.ahead));
      before = front-lines served.raws served.used served.splits first keeps.front;
      soon = omega (arith, few, length-append last after_reader.ahead, length-drop count keeps.read);
    }

-- a script that is too long
pub serves-full : {around : Around} → {since : ℕ} (number : ℕ) (opened now : WireView) (reader after_reader : ReaderView) (left rest more before after : Option (List ℕ)) → Served around number since opened now reader left rest before after → IsWithin after_reader.ahead after_reader.given → Finds (Ok Full) reader after_reader rest more →
    Serves around ScriptTooLong opened now left more before after
serves-full {around = around} number opened now reader after_reader left rest more before after served within finds =
    let all = reader.ahead ++ finds.came in
    let full = finds.says in
    let taken = taken-more number opened now reader left rest more before after finds.came served finds.taken in
    let lines = full-lines served.raws served.used served.splits reader after_reader all served.read (rest_of more) full in
    let script = (served.used ++ all) ++ rest_of more in
    let lines_are : script_lines script ≡ map without_return served.raws = ap script_lines (append_assoc served.used all (rest_of more)) ∙ lines in
    let size : length (served.used ++ all) ≡ length served.used + (length full.raw + length full.more) =
    length-append served.used all ∙ ap (λ (n : ℕ). length served.used + n) (ap length full.bytes ∙ length-append full.raw full.more) in
    record {
      own = served.own;
      extends = served.extends;
      plays = (
        script,
        record { taken = served.used ++ all; is_script = is-script (served.used ++ all) left more taken; long = omega (arith, size, served.read, full.read, full.some, within.came, all-read number opened now reader after_reader left rest before after all served finds.keeps) },
        record {
          text = served.text;
          own = served.last;
          done = subst (λ (ls : List (List ℕ)). AreDone around 1 opened.entries ls served.text opened now served.last) (sym lines_are) served.done;
          printed = served.printed;
          cuts = subst (λ (ls : List (List ℕ)). CutsAlong (sum_by cuts_in ls) opened now) (sym lines_are) (along served);
          played = subst (λ (ls : List (List ℕ)). PlaysLines ls opened now) (sym lines_are) (plays-lines served);
        },
      );
    }

-- what was done before a line
abbrev pub before-line : {around : Around} → {since : ℕ} (number : ℕ) (opened now : WireView) (reader : ReaderView) (left rest before after : Option (List ℕ)) → (served : Served around number since opened now reader left rest before after) → Plays around opened.entries (map without_return served.raws) opened now before after
before-line number opened now reader left rest before after served = record { text = served.text; own = served.last; done = served.done; printed = served.printed; cuts = along served; played = plays-lines served }

-- a test and one that does not hold
and-none : (a : Bool) → (a && false) ≡ false
and-none true = refl
and-none false = refl

-- a line that is too long is outside the grammar
long-faulty : (line : List ℕ) → longest_line < length line → IsFaulty line why.TooLong
long-faulty line long =
    let test : nat_lt 16384 (length line) ≡ true = lt-ltb longest_line (length line) long in
    let checked_is : checked line ≡ Err why.TooLong = ap (λ (b : Bool). if b then Err why.TooLong else if list_any is_unprintable line then Err why.Ascii else Ok tt) test in
    let front = starts_with nat_eq line (codes "#") || (length (words_of line) == 0) in
    let something : does_nothing line ≡ false = ap (λ (outcome : Result (Unit {0}) Why). front && is_ok outcome) checked_is ∙ and-none front in
    let read : line_of line ≡ Err why.TooLong =
    ap (λ (b : Bool). if b then Ok Nothing else (checked line >>= λ _. line_by (words_of line))) something ∙ ap (λ (outcome : Result (Unit {0}) Why). outcome >>= λ _. line_by (words_of line)) checked_is in
    ap (λ (outcome : Result ScriptLine Why). outcome >>= λ found. deed_by line found) read

-- the same, as if what is left were told
told-over : (given : ℕ) (raw others : List ℕ) (rest : Option (List ℕ)) → IsOver given raw others rest → IsOver given raw others (Some (rest_of rest))
told-over given raw others rest (inl over) = inl over
told-over given raw others rest (inr (inl over)) = inr (inl over)
told-over given raw others rest (inr (inr (inl over))) = inr (inr (inl (over.0, over.1, over.2, none-left rest over.3)))
told-over given raw others rest (inr (inr (inr over))) = inr (inr (inr over))

told-long : (old : ReaderView) (all : List ℕ) (rest : Option (List ℕ)) → IsTooLong old all rest → IsTooLong old all (Some (rest_of rest))
told-long old all rest long = record { raw = long.raw; more = long.more; feedless = long.feedless; bytes = long.bytes; over = told-over old.given long.raw long.more rest long.over }

-- the next line is too long
pub serves-long : {around : Around} → {since : ℕ} (number : ℕ) (opened now : WireView) (reader after_reader : ReaderView) (left rest more before after : Option (List ℕ)) → Served around number since opened now reader left rest before after → IsWithin after_reader.ahead after_reader.given → Finds (Ok TooLong) reader after_reader rest more →
    Serves around (BadLine number why.TooLong) opened now left more before after
serves-long number opened now reader after_reader left rest more before after served within finds =
    let all = reader.ahead ++ finds.came in
    let taken = taken-more number opened now reader left rest more before after finds.came served finds.taken in
    let found = long-lines served.raws served.used served.splits reader after_reader all served.read (rest_of more) (told-long reader all more finds.says) in
    let script = (served.used ++ all) ++ rest_of more in
    record {
      own = served.own;
      extends = served.extends;
      plays = (
        script,
        served.used ++ all,
        found.0,
        map without_return served.raws,
        is-script (served.used ++ all) left more taken,
        long-faulty found.0 found.2,
        record {
          is_line = record { more = found.1; lines_are = ap script_lines (append_assoc served.used all (rest_of more)) ∙ found.3; soon = no-further number opened now reader after_reader left rest before after all served within.waiting finds.keeps };
          number_is = line-number number served.raws served.number_is;
          plays = before-line number opened now reader left rest before after served;
        },
      );
    }

-- the line that was found, in the script
pub record AtLine (raws : List (List ℕ)) (line : List ℕ) (left rest : Option (List ℕ)) : Type 0 where
  pub script : List ℕ
  pub taken : List ℕ
  pub is_script : IsScript script taken left rest
  pub is_line : IsLine script taken (map without_return raws) line

-- a line that a line feed ends
pub at-line : {around : Around} → {since : ℕ} (number : ℕ) (opened now : WireView) (reader after_reader : ReaderView) (left rest more before after : Option (List ℕ)) → (served : Served around number since opened now reader left rest before after) → IsWithin after_reader.ahead after_reader.given → Finds (Ok Line) reader after_reader rest more →
    AtLine served.raws after_reader.line left more
at-line number opened now reader after_reader left rest more before after served within finds =
    let all = reader.ahead ++ finds.came in
    let taken = taken-more number opened now reader left rest more before after finds.came served finds.taken in
    let found = line-lines served.raws served.used served.splits reader after_reader all served.read finds.says within.read (rest_of more) in
    record {
      script = (served.used ++ all) ++ rest_of more;
      taken = served.used ++ all;
      is_script = is-script (served.used ++ all) left more taken;
      is_line = record { more = found.0; lines_are = ap script_lines (append_assoc served.used all (rest_of more)) ∙ found.1; soon = no-further number opened now reader after_reader left rest before after all served within.waiting finds.keeps };
    }

-- what is said of a last line, as if what is left were told
told-last : (old new : ReaderView) (all : List ℕ) (rest : Option (List ℕ)) → IsLast old new all rest → IsLast old new all (Some (rest_of rest))
told-last old new all rest last =
    record { feedless = last.feedless; bytes = last.bytes; read = last.read; some = last.some; fits = last.fits; ahead = last.ahead; left = none-left rest last.left }

-- a line that the end of the input ends
pub at-last : {around : Around} → {since : ℕ} (number : ℕ) (opened now : WireView) (reader after_reader : ReaderView) (left rest more before after : Option (List ℕ)) → (served : Served around number since opened now reader left rest before after) → IsWithin after_reader.ahead after_reader.given → Finds (Ok Last) reader after_reader rest more →
    AtLine served.raws after_reader.line left more
at-last number opened now reader after_reader left rest more before after served within finds =
    let all = reader.ahead ++ finds.came in
    let taken = taken-more number opened now reader left rest more before after finds.came served finds.taken in
    let found = last-lines served.raws served.used served.splits reader after_reader all served.read within.read (rest_of more) (told-last reader after_reader all more finds.says) in
    record {
      script = (served.used ++ all) ++ rest_of more;
      taken = served.used ++ all;
      is_script = is-script (served.used ++ all) left more taken;
      is_line = record { more = []; lines_are = ap script_lines (append_assoc served.used all (rest_of more)) ∙ found; soon = no-further number opened now reader after_reader left rest before after all served within.waiting finds.keeps };
    }

-- an exit before a line
pub serves-exit : {around : Around} → {since : ℕ} (next : Next) (exit : Exit) (number : ℕ) (opened now : WireView) (reader after_reader : ReaderView) (left rest more before after : Option (List ℕ)) → exit_at next number ≡ Some exit → Served around number since opened now reader left rest before after → IsWithin after_reader.ahead after_reader.given →
    Finds (Ok next) reader after_reader rest more → Serves around exit opened now left more before after
serves-exit Line exit number opened now reader after_reader left rest more before after same served within finds = absurd (cc)
serves-exit Last exit number opened now reader after_reader left rest more before after same served within finds = absurd (cc)
serves-exit {around = around} End exit number opened now reader after_reader left rest more before after same served within finds =
    let exit_is : Done ≡ exit = cc in
    subst (λ (e : Exit). Serves around e opened now left more before after) exit_is (serves-end number opened now reader after_reader left rest more before after served within.read finds)
serves-exit {around = around} TooLong exit number opened now reader after_reader left rest more before after same served within finds =
    let exit_is : BadLine number why.TooLong ≡ exit = cc in
    subst (λ (e : Exit). Serves around e opened now left more before after) exit_is (serves-long number opened now reader after_reader left rest more before after served within finds)
serves-exit {around = around} Full exit number opened now reader after_reader left rest more before after same served within finds =
    let exit_is : ScriptTooLong ≡ exit = cc in
    subst (λ (e : Exit). Serves around e opened now left more before after) exit_is (serves-full number opened now reader after_reader left rest more before after served within finds)

-- a line, where there is no such exit
pub at-any : {around : Around} → {since : ℕ} (next : Next) (number : ℕ) (opened now : WireView) (reader after_reader : ReaderView) (left rest more before after : Option (List ℕ)) → exit_at next number ≡ None → (served : Served around number since opened now reader left rest before after) → IsWithin after_reader.ahead after_reader.given →
    Finds (Ok next) reader after_reader rest more → AtLine served.raws after_reader.line left more
at-any Line number opened now reader after_reader left rest more before after same served within finds = at-line number opened now reader after_reader left rest more before after served within finds
at-any Last number opened now reader after_reader left rest more before after same served within finds = at-last number opened now reader after_reader left rest more before after served within finds
at-any End number opened now reader after_reader left rest more before after same served within finds = absurd (cc)
at-any TooLong number opened now reader after_reader left rest more before after same served within finds = absurd (cc)
at-any Full number opened now reader after_reader left rest more before after same served within finds = absurd (cc)

-- a line behind which there may be more
pub ended-line : (next : Next) (number : ℕ) → exit_at next number ≡ None → (next ≡ Last → ⊥) → next ≡ Line
ended-line Line number same other = refl
ended-line Last number same other = absurd (other refl)
ended-line End number same other = absurd (cc)
ended-line TooLong number same other = absurd (cc)
ended-line Full number same other = absurd (cc)
