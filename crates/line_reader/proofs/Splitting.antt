-- What the answers say of the lines of a whole script.
use Rattle.std.proofs.Common.{◌≡◌, ℕ, ◌+◌, ◌-◌, ◌<◌, ◌≤◌, ◌⊎◌, inl, inr, List, [], ◌∷◌, ◌++◌, length, take, Bool, true, false, arith, sym, ◌∙◌, ap, refl, length-append, append_assoc, ◌==◌, slice_index, Some, subst, if◌then◌else◌}
use Rattle.std.specs.Prelude.{map}
use Rattle.std.specs.List.{onto_first}
use Rattle.std.specs.Str.Lines.{lines, lines_of_parts}
use Rattle.std.proofs.lemmas.Bool.{le-leb, lt-leb, le-ltb, lt-ltb, cases_lt, ne_eqb}
use Rattle.std.proofs.lemmas.List.{append-nil, length-take}
use Rattle.std.proofs.lemmas.List.Elements.{All-head, All-tail}
use Rattle.std.proofs.lemmas.List.Splits.{slice_split_none, slice_split_at, slice_split-cons_no, length-slice_split}
use Rattle.std.proofs.Math.Seq.{take-append-add}
use Rattle.line_reader.specs.Finding.{ReaderView, IsLine, IsLast, IsEnd, IsOver, IsTooLong, IsFull, IsFailed}
use Rattle.line_reader.specs.Lines.{most_bytes, longest_line, HasNoFeed, parts, without_return, lines_with, ended_lines, last_line, lines_of, cut_line, lines_within, script_lines}

-- the test of a line feed
abbrev is_feed : ℕ → Bool
is_feed byte = byte == 10

-- the lines of an input that ends are those of std
lines_are_std : (pieces : List (List ℕ)) → lines_with last_line pieces ≡ lines_of_parts pieces
lines_are_std [] = refl
lines_are_std (last ∷ []) = refl
lines_are_std (line ∷ next ∷ more) = ap (λ (rest : List (List ℕ)). without_return line ∷ rest) (lines_are_std (next ∷ more))

pub lines_of-std : (bytes : List ℕ) → lines_of bytes ≡ lines bytes
lines_of-std bytes = lines_are_std (parts bytes)

-- these bytes are these parts with a line feed behind each
pub record Splits (raws : List (List ℕ)) (used : List ℕ) : Type 0 where
  pub each : (rest : List ℕ) → parts (used ++ rest) ≡ raws ++ parts rest

pub splits-nothing : Splits [] []
splits-nothing = record { each = λ rest. refl }

pub splits-line : (raws : List (List ℕ)) (used raw : List ℕ) → Splits raws used → HasNoFeed raw → Splits (raws ++ raw ∷ []) (used ++ (raw ++ 10 ∷ []))
splits-line raws used raw splits feedless = record {
  each = λ rest.
      ap parts (append_assoc used (raw ++ 10 ∷ []) rest ∙ ap (λ (more : List ℕ). used ++ more) (append_assoc raw (10 ∷ []) rest))
      ∙ splits.each (raw ++ 10 ∷ rest)
      ∙ ap (λ (more : List (List ℕ)). raws ++ more) (slice_split_at is_feed raw 10 rest feedless refl)
      ∙ sym (append_assoc raws (raw ∷ []) (parts rest));
}

-- lines in front of others
lines_with-append : (closing : List ℕ → List (List ℕ)) (raws : List (List ℕ)) (next : List ℕ) (more : List (List ℕ)) → lines_with closing (raws ++ next ∷ more) ≡ map without_return raws ++ lines_with closing (next ∷ more)
lines_with-append closing [] next more = refl
lines_with-append closing (raw ∷ []) next more = refl
lines_with-append closing (raw ∷ other ∷ raws) next more = ap (λ (rest : List (List ℕ)). without_return raw ∷ rest) (lines_with-append closing (other ∷ raws) next more)

-- a list of some length is not empty
lines_with-some : (closing : List ℕ → List (List ℕ)) (raws pieces : List (List ℕ)) → 0 < length pieces → lines_with closing (raws ++ pieces) ≡ map without_return raws ++ lines_with closing pieces
lines_with-some closing raws [] some = absurd (omega arith)
lines_with-some closing raws (next ∷ more) some = lines_with-append closing raws next more

-- every list has a part
parts-some : (bytes : List ℕ) → 0 < length (parts bytes)
parts-some bytes = omega (arith, length-slice_split is_feed bytes)

pub splits-lines : (closing : List ℕ → List (List ℕ)) (raws : List (List ℕ)) (used rest : List ℕ) → Splits raws used → lines_with closing (parts (used ++ rest)) ≡ map without_return raws ++ lines_with closing (parts rest)
splits-lines closing raws used rest splits = ap (lines_with closing) (splits.each rest) ∙ lines_with-some closing raws (parts rest) (parts-some rest)

-- a line in front of others
line-first : (closing : List ℕ → List (List ℕ)) (raw others : List ℕ) → HasNoFeed raw → lines_with closing (parts (raw ++ 10 ∷ others)) ≡ without_return raw ∷ lines_with closing (parts others)
line-first closing raw others feedless = ap (lines_with closing) (slice_split_at is_feed raw 10 others feedless refl) ∙ lines_with-some closing (raw ∷ []) (parts others) (parts-some others)

-- a last part alone
last-alone : (closing : List ℕ → List (List ℕ)) (raw : List ℕ) → HasNoFeed raw → lines_with closing (parts raw) ≡ closing raw
last-alone closing raw feedless = ap (lines_with closing) (slice_split_none is_feed raw feedless)

-- bytes in front of the first part
parts-behind : (raw bytes head : List ℕ) (tail : List (List ℕ)) → HasNoFeed raw → parts bytes ≡ head ∷ tail → parts (raw ++ bytes) ≡ (raw ++ head) ∷ tail
parts-behind [] bytes head tail feedless same = same
parts-behind (byte ∷ raw) bytes head tail feedless same =
    slice_split-cons_no is_feed byte (raw ++ bytes) (All-head (λ one. is_feed one ≡ false) byte raw feedless)
    ∙ ap (onto_first byte) (parts-behind raw bytes head tail (All-tail (λ one. is_feed one ≡ false) byte raw feedless) same)

-- a carriage return is one byte
length-without_return : (line : List ℕ) → length line ≤ length (without_return line) + 1
length-without_return line = go (slice_index line (length line - 1) == 13) where
  go : (test : Bool) → length line ≤ length (if test then take (length line - 1) line else line) + 1
  go true = omega (arith, length-take (length line - 1) line)
  go false = omega arith

-- a script that is short enough
script-short : (bytes : List ℕ) → length bytes ≤ most_bytes → script_lines bytes ≡ lines_of bytes
script-short bytes short = ap (λ (test : Bool). if test then lines_of bytes else lines_within (take most_bytes bytes)) (le-leb (length bytes) most_bytes short)

-- a front of a list that ends behind another
take-behind : (most : ℕ) (front rest : List ℕ) → length front ≤ most → take most (front ++ rest) ≡ front ++ take (most - length front) rest
take-behind most front rest short =
    let sum : most ≡ length front + (most - length front) = omega arith in
    ap (λ (count : ℕ). take count (front ++ rest)) sum ∙ take-append-add front rest (most - length front)

-- a script that is too long
script-cut : (front rest : List ℕ) → length front ≤ most_bytes → most_bytes < length (front ++ rest) → script_lines (front ++ rest) ≡ lines_within (front ++ take (most_bytes - length front) rest)
script-cut front rest short long =
    ap (λ (test : Bool). if test then lines_of (front ++ rest) else lines_within (take most_bytes (front ++ rest))) (lt-leb (length (front ++ rest)) most_bytes long)
    ∙ ap lines_within (take-behind most_bytes front rest short)

-- what counts of a script behind a front of it
record Seen (front rest : List ℕ) : Type 0 where
  pub closing : List ℕ → List (List ℕ)
  pub seen : List ℕ
  pub counts : (last : List ℕ) → longest_line < length last → closing last ≡ last ∷ []
  pub same : script_lines (front ++ rest) ≡ lines_with closing (parts (front ++ seen))

seen-behind : (front rest : List ℕ) → length front ≤ most_bytes → Seen front rest
seen-behind front rest short = go (cases_lt most_bytes (length (front ++ rest))) where
  go : (most_bytes < length (front ++ rest)) ⊎ (length (front ++ rest) ≤ most_bytes) → Seen front rest
  go (inl long) = record {
    closing = cut_line;
    seen = take (most_bytes - length front) rest;
    counts = λ last over. ap (λ (test : Bool). if test then last ∷ [] else []) (lt-ltb longest_line (length last) over);
    same = script-cut front rest short long;
  }
  go (inr fits) = record {
    closing = last_line;
    seen = rest;
    counts = λ last over. ap (λ (test : Bool). if test then [] else last ∷ []) (ne_eqb (length last) 0 (λ none. omega arith));
    same = script-short (front ++ rest) fits;
  }

module _ (raws : List (List ℕ)) (used : List ℕ) (splits : Splits raws used) where
  -- a line
  script-line : (raw others : List ℕ) → HasNoFeed raw → length used + length raw < most_bytes → (tail : List (List ℕ)) × (script_lines (used ++ (raw ++ 10 ∷ others)) ≡ map without_return raws ++ without_return raw ∷ tail)
  script-line raw others feedless short =
      let front = used ++ (raw ++ 10 ∷ []) in
      let whole : (rest : List ℕ) → used ++ (raw ++ 10 ∷ rest) ≡ front ++ rest =
      λ rest. ap (λ (more : List ℕ). used ++ more) (sym (append_assoc raw (10 ∷ []) rest)) ∙ sym (append_assoc used (raw ++ 10 ∷ []) rest) in
      let view = seen-behind front others (omega (arith, short, length-append used (raw ++ 10 ∷ []), length-append raw (10 ∷ []))) in (
        lines_with view.closing (parts view.seen),
        ap script_lines (whole others) ∙ view.same ∙ ap (λ (bytes : List ℕ). lines_with view.closing (parts bytes)) (sym (whole view.seen))
            ∙ splits-lines view.closing raws used (raw ++ 10 ∷ view.seen) splits
            ∙ ap (λ (rest : List (List ℕ)). map without_return raws ++ rest) (line-first view.closing raw view.seen feedless),
      )

  -- a last line
  script-last : (last : List ℕ) → HasNoFeed last → 1 ≤ length last → length used + length last ≤ most_bytes → script_lines (used ++ last) ≡ map without_return raws ++ last ∷ []
  script-last last feedless some short =
      script-short (used ++ last) (omega (arith, short, length-append used last)) ∙ splits-lines last_line raws used last splits
      ∙ ap (λ (rest : List (List ℕ)). map without_return raws ++ rest)
      (last-alone last_line last feedless ∙ ap (λ (test : Bool). if test then [] else last ∷ []) (ne_eqb (length last) 0 (λ none. omega arith)))

  -- the end
  script-end : length used ≤ most_bytes → script_lines used ≡ map without_return raws
  script-end short =
      script-short used short ∙ ap lines_of (sym (append-nil used)) ∙ splits-lines last_line raws used [] splits ∙ append-nil (map without_return raws)

  -- a line that is longer than a line with its carriage return may be
  script-long : (raw more : List ℕ) → HasNoFeed raw → longest_line + 2 ≤ length raw → length used + length raw ≤ most_bytes
      → (line : List ℕ) × (tail : List (List ℕ)) × (longest_line < length line) × (script_lines (used ++ (raw ++ more)) ≡ map without_return raws ++ line ∷ tail)
  script-long raw more feedless long short =
      let view = seen-behind (used ++ raw) more (omega (arith, short, length-append used raw)) in
      let found = over view.closing view.counts view.seen (parts view.seen) refl in (
        found.0,
        found.1,
        found.2,
        ap script_lines (sym (append_assoc used raw more)) ∙ view.same ∙ ap (λ (bytes : List ℕ). lines_with view.closing (parts bytes)) (append_assoc used raw view.seen)
            ∙ splits-lines view.closing raws used (raw ++ view.seen) splits
            ∙ ap (λ (rest : List (List ℕ)). map without_return raws ++ rest) found.3,
      )
    where
      over : (closing : List ℕ → List (List ℕ)) → ((last : List ℕ) → longest_line < length last → closing last ≡ last ∷ []) → (seen : List ℕ) (pieces : List (List ℕ)) → parts seen ≡ pieces
          → (line : List ℕ) × (tail : List (List ℕ)) × (longest_line < length line) × (lines_with closing (parts (raw ++ seen)) ≡ line ∷ tail)
      over closing counts seen [] same = absurd (omega (arith, parts-some seen, ap length same))
      over closing counts seen (head ∷ []) same =
          let long_enough : longest_line < length (raw ++ head) = omega (arith, long, length-append raw head) in
          (raw ++ head, [], long_enough, ap (lines_with closing) (parts-behind raw seen head [] feedless same) ∙ counts (raw ++ head) long_enough)
      over closing counts seen (head ∷ next ∷ tail) same = (
        without_return (raw ++ head),
        lines_with closing (next ∷ tail),
        omega (arith, long, length-append raw head, length-without_return (raw ++ head)),
        ap (lines_with closing) (parts-behind raw seen head (next ∷ tail) feedless same),
      )

  -- a part that the most bytes of a script cut off
  script-cut_off : (raw more : List ℕ) → HasNoFeed raw → length used + length raw ≡ most_bytes → 1 ≤ length more → script_lines (used ++ (raw ++ more)) ≡ map without_return raws ++ cut_line raw
  script-cut_off raw more feedless full some =
      let all : length (used ++ raw) ≡ most_bytes = omega (arith, full, length-append used raw) in
      let none : most_bytes - length (used ++ raw) ≡ 0 = omega arith in
      ap script_lines (sym (append_assoc used raw more))
      ∙ script-cut (used ++ raw) more (omega arith) (omega (arith, some, length-append (used ++ raw) more))
      ∙ ap (λ (count : ℕ). lines_within ((used ++ raw) ++ take count more)) none
      ∙ ap lines_within (append-nil (used ++ raw))
      ∙ splits-lines cut_line raws used raw splits
      ∙ ap (λ (rest : List (List ℕ)). map without_return raws ++ rest) (last-alone cut_line raw feedless)

  -- no line is ended by bytes with no line feed
  pub front-lines : (front : List ℕ) → HasNoFeed front → ended_lines (used ++ front) ≡ map without_return raws
  front-lines front feedless =
      splits-lines (λ last. []) raws used front splits ∙ ap (λ (rest : List (List ℕ)). map without_return raws ++ rest) (last-alone (λ last. []) front feedless) ∙ append-nil (map without_return raws)

  module _ (old new : ReaderView) (all : List ℕ) (same : length used ≡ old.given) where
    module _ (line : IsLine old new all) where
      -- the parts with a line that was found
      pub line-splits : Splits (raws ++ line.raw ∷ []) (used ++ (line.raw ++ 10 ∷ []))
      line-splits = splits-line raws used line.raw splits line.feedless

      -- their bytes are those that were read
      pub line-read : length (used ++ (line.raw ++ 10 ∷ [])) ≡ new.given
      line-read = omega (arith, same, line.read, length-append used (line.raw ++ 10 ∷ []), length-append line.raw (10 ∷ []))

      -- the whole script goes on behind them
      pub line-whole : (rest : List ℕ) → used ++ (all ++ rest) ≡ (used ++ (line.raw ++ 10 ∷ [])) ++ (new.ahead ++ rest)
      line-whole rest = rw (line.bytes) (simp append_assoc)

      -- it is the next line
      pub line-lines : new.given ≤ most_bytes → (rest : List ℕ) → (tail : List (List ℕ)) × (script_lines (used ++ (all ++ rest)) ≡ map without_return raws ++ new.line ∷ tail)
      line-lines within rest =
          let found = script-line line.raw (new.ahead ++ rest) line.feedless (omega (arith, same, line.read, within)) in
          (found.0, rw (line.bytes, line.stripped) (ap (λ (bytes : List ℕ). script_lines (used ++ bytes)) (append_assoc line.raw (10 ∷ new.ahead) rest) ∙ found.1))

    -- a last line is the last one
    pub last-lines : new.given ≤ most_bytes → (left : List ℕ) → IsLast old new all (Some left) → script_lines (used ++ (all ++ left)) ≡ map without_return raws ++ new.line ∷ []
    last-lines within left last =
        ap (λ (bytes : List ℕ). script_lines (used ++ bytes)) (ap (λ (rest : List ℕ). all ++ rest) last.left ∙ append-nil all ∙ last.bytes)
        ∙ script-last new.line (subst HasNoFeed last.bytes last.feedless) last.some (omega (arith, same, last.read, within))

    -- at the end there are no more
    pub end-lines : new.given ≤ most_bytes → (left : List ℕ) → IsEnd old new all (Some left) → script_lines (used ++ (all ++ left)) ≡ map without_return raws
    end-lines within left end =
        ap (λ (bytes : List ℕ). script_lines (used ++ bytes)) (ap (λ (rest : List ℕ). all ++ rest) end.left ∙ append-nil all ∙ end.bytes)
        ∙ ap script_lines (append-nil used)
        ∙ script-end (omega (arith, same, end.read, within))

    -- a line that is too long is the next line
    pub long-lines : (left : List ℕ) → IsTooLong old all (Some left) → (line : List ℕ) × (tail : List (List ℕ)) × (longest_line < length line) × (script_lines (used ++ (all ++ left)) ≡ map without_return raws ++ line ∷ tail)
    long-lines left long = go long.over where
      whole : used ++ (all ++ left) ≡ used ++ (long.raw ++ (long.more ++ left))
      whole = ap (λ (bytes : List ℕ). used ++ bytes) (ap (λ (bytes : List ℕ). bytes ++ left) long.bytes ∙ append_assoc long.raw long.more left)

      go : IsOver old.given long.raw long.more (Some left) → (line : List ℕ) × (tail : List (List ℕ)) × (longest_line < length line) × (script_lines (used ++ (all ++ left)) ≡ map without_return raws ++ line ∷ tail)
      go (inl over) =
          let found = script-long long.raw (long.more ++ left) long.feedless over.0 (omega (arith, same, over.1)) in
          (found.0, found.1, found.2, ap script_lines whole ∙ found.3)
      go (inr (inl over)) =
          let found = script-line long.raw (over.0 ++ left) long.feedless (omega (arith, same, over.3)) in
          (without_return long.raw, found.0, over.2, ap script_lines whole ∙ ap (λ (more : List ℕ). script_lines (used ++ (long.raw ++ (more ++ left)))) over.1 ∙ found.1)
      go (inr (inr (inl over))) = (
        long.raw,
        [],
        over.0,
        ap script_lines whole ∙ ap (λ (more : List ℕ). script_lines (used ++ (long.raw ++ (more ++ left)))) over.2 ∙ ap (λ (rest : List ℕ). script_lines (used ++ (long.raw ++ rest))) over.3
            ∙ ap (λ (bytes : List ℕ). script_lines (used ++ bytes)) (append-nil long.raw)
            ∙ script-last long.raw long.feedless (omega (arith, over.0)) (omega (arith, same, over.1)),
      )
      go (inr (inr (inr over))) = (
        long.raw,
        [],
        over.0,
        ap script_lines whole ∙ script-cut_off long.raw (long.more ++ left) long.feedless (omega (arith, same, over.1)) (omega (arith, over.2, length-append long.more left))
            ∙ ap (λ (test : Bool). map without_return raws ++ (if test then long.raw ∷ [] else [])) (lt-ltb longest_line (length long.raw) over.0),
      )

    -- a script that is too long has no more lines
    pub full-lines : (left : List ℕ) → IsFull old all → script_lines (used ++ (all ++ left)) ≡ map without_return raws
    full-lines left full =
        ap (λ (bytes : List ℕ). script_lines (used ++ bytes)) (ap (λ (bytes : List ℕ). bytes ++ left) full.bytes ∙ append_assoc full.raw full.more left)
        ∙ script-cut_off full.raw (full.more ++ left) full.feedless (omega (arith, same, full.read)) (omega (arith, full.some, length-append full.more left))
        ∙ ap (λ (test : Bool). map without_return raws ++ (if test then full.raw ∷ [] else [])) (le-ltb longest_line (length full.raw) full.fits)
        ∙ append-nil (map without_return raws)

    -- up to a failure no line was ended but those
    pub failed-lines : IsFailed old new all → ended_lines (used ++ all) ≡ map without_return raws
    failed-lines failed = front-lines all failed.feedless
