-- A line while it is read.
use Rattle.std.proofs.Common.{◌≡◌, ℕ, ◌+◌, ◌<◌, ◌-◌, ◌≤◌, inl, inr, List, [], ◌∷◌, ◌++◌, Option, Result, Ok, Err, length, take, Bool, true, false, arith, sym, ◌∙◌, ap, refl, length-append, append_assoc, ne_eqb, nat_le, ◌==◌, if◌then◌else◌}
use Rattle.std.proofs.lemmas.Bool.{leb-true, leb-false, eqb-true, eqb-false}
use Rattle.std.proofs.lemmas.List.{append-nil, nil_from_length}
use Rattle.std.proofs.lemmas.List.Elements.{All-nil, All-push, All-take, All-same}
use Rattle.std.proofs.Math.Seq.{take-append_seam}
use Rattle.flash_dev.specs.declared.device.Failed.{Failed}
use Rattle.bench_io.specs.Streams.{Asks}
use Rattle.line_reader.specs.declared.input.Came.{Came}
use Rattle.line_reader.specs.declared.input.Came.TheVariants.{Byte, End as CameEnd, Full as CameFull}
use Rattle.line_reader.specs.declared.reader.Next.{Next}
use Rattle.line_reader.specs.declared.reader.Next.TheVariants.{Line, Last, End, TooLong, Full}
use Rattle.line_reader.specs.Lines.{most_bytes, longest_line, HasNoFeed, without_return}
use Rattle.line_reader.specs.Taking.{Takes}
use Rattle.line_reader.specs.Bytes.{InputView, FindsByte, AsksAtMostOnce}
use Rattle.line_reader.specs.Finding.{ReaderView, Says, Keeps, IsOpen, IsPatient, Reads}
use Rattle.line_reader.proofs.Takings.{Takes-nothing, Takes-then}

-- what holds of both outcomes of a test holds of the choice
if_cases : {T : Type 0} (P : T → Type 0) (test : Bool) (x y : T) → (test ≡ true → P x) → (test ≡ false → P y) → P (if test then x else y)
if_cases P true x y holds fails = holds refl
if_cases P false x y holds fails = fails refl

-- all bytes but the last one
front-pushed : (line : List ℕ) (byte : ℕ) → HasNoFeed line → HasNoFeed (take (length (line ++ byte ∷ []) - 1) (line ++ byte ∷ []))
front-pushed line byte feedless =
    let count : length (line ++ byte ∷ []) - 1 ≡ length line = omega (arith, length-append line (byte ∷ [])) in
    All-same (λ byte. (byte == 10) ≡ false) _ line (ap (λ (n : ℕ). take n (line ++ byte ∷ [])) count ∙ take-append_seam line (byte ∷ [])) feedless

-- these bytes of a line were read so far
pub record Reading (old : ReaderView) (line : List ℕ) (input : InputView) (left now : Option (List ℕ)) (before asks : Asks) : Type 0 where
  pub came : List ℕ
  pub taken : Takes came left now
  pub bytes : old.ahead ++ came ≡ line ++ input.ahead
  pub feedless : HasNoFeed line
  pub read : input.given ≡ old.given + length line
  pub fits : length line ≤ longest_line + 1
  pub patient : IsPatient old came before asks

-- nothing was read so far
pub reading-nothing : (old : ReaderView) (input : InputView) (left : Option (List ℕ)) (asks : Asks) → input.ahead ≡ old.ahead → input.given ≡ old.given → Reading old [] input left left asks asks
reading-nothing old input left asks ahead given = record {
  came = [];
  taken = Takes-nothing left;
  bytes = append-nil old.ahead ∙ sym ahead;
  feedless = All-nil (λ byte. (byte == 10) ≡ false);
  read = omega (arith, given);
  fits = omega arith;
  patient = inl (refl, refl);
}

module _ (old : ReaderView) (line : List ℕ) (input : InputView) (left now : Option (List ℕ)) (before asks : Asks) (reading : Reading old line input left now before asks) where
  -- the bytes before a call and in it
  together : (came : List ℕ) → old.ahead ++ (reading.came ++ came) ≡ line ++ (input.ahead ++ came)
  together came = sym (append_assoc old.ahead reading.came came) ∙ ap (λ (front : List ℕ). front ++ came) reading.bytes ∙ append_assoc line input.ahead came

  -- where a line was there, a byte is ahead
  pub still_ahead : (HasNoFeed old.ahead → ⊥) → 0 < length input.ahead
  still_ahead feed = go input.ahead refl where
    go : (ahead : List ℕ) → ahead ≡ input.ahead → 0 < length ahead
    go (byte ∷ more) same = omega arith
    go [] same =
        let all : old.ahead ++ reading.came ≡ line = reading.bytes ∙ ap (λ (ahead : List ℕ). line ++ ahead) (sym same) ∙ append-nil line in
        absurd (feed (All-same (λ byte. (byte == 10) ≡ false) old.ahead (take (length old.ahead) line) (sym (take-append_seam old.ahead reading.came) ∙ ap (take (length old.ahead)) all)
        (All-take (λ byte. (byte == 10) ≡ false) (length old.ahead) line reading.feedless)))

  -- where no byte is ahead, what was there does not answer
  still_open : (came : List ℕ) (last : ℕ) → last ≡ length came → input.given ≤ most_bytes → input.ahead ≡ [] → IsOpen old.given (old.ahead ++ take (length (reading.came ++ came) - last) (reading.came ++ came))
  still_open came last same within none =
      let count : length (reading.came ++ came) - last ≡ length reading.came = omega (arith, length-append reading.came came) in
      let front : old.ahead ++ take (length (reading.came ++ came) - last) (reading.came ++ came) ≡ line =
      ap (λ (n : ℕ). old.ahead ++ take n (reading.came ++ came)) count
      ∙ ap (λ (bytes : List ℕ). old.ahead ++ bytes) (take-append_seam reading.came came)
      ∙ reading.bytes ∙ ap (λ (ahead : List ℕ). line ++ ahead) none ∙ append-nil line in
      record {
        feedless = All-same (λ byte. (byte == 10) ≡ false) _ line front reading.feedless;
        short = omega (arith, ap length front, reading.fits);
        within = omega (arith, ap length front, reading.read, within);
      }

  -- the source was asked only where no byte was ahead
  pub patient-more : (came : List ℕ) (after : Asks) → input.given ≤ most_bytes → AsksAtMostOnce input.ahead came asks after → IsPatient old (reading.came ++ came) before after
  patient-more came after within (inl unasked) = go reading.patient where
    all : reading.came ++ came ≡ reading.came
    all = ap (λ (more : List ℕ). reading.came ++ more) unasked.1 ∙ append-nil reading.came

    go : IsPatient old reading.came before asks → IsPatient old (reading.came ++ came) before after
    go patient = rw (all, unasked.2) patient
  patient-more came after within (inr asked) = inr (still_open came after.last (ap (λ (asks : Asks). asks.last) asked.1) within asked.0)

  module _ (next : InputView) (rest : Option (List ℕ)) (after : Asks) (within : next.given ≤ most_bytes) where
    -- an answer, with what was read before it
    answered : (found : Result Came Failed) (finds : FindsByte found input next now rest asks after) (answer : Result Next Failed) (kept : List ℕ) → input.given ≤ most_bytes
        → let reader : ReaderView = record { ahead = next.ahead; given = next.given; line = kept } in
        Keeps old reader (old.ahead ++ (reading.came ++ finds.came)) → Says answer old reader (old.ahead ++ (reading.came ++ finds.came)) rest
        → Reads answer old reader left rest before after
    answered found finds answer kept short keeps says = record {
      finds = record { came = reading.came ++ finds.came; taken = Takes-then reading.came finds.came left now rest reading.taken finds.taken; keeps = keeps; says = says };
      patient = patient-more finds.came after short finds.asks;
    }

    -- one more byte of the line
    pub reading-byte : (byte : ℕ) → FindsByte (Ok (Byte byte)) input next now rest asks after → (byte ≡ 10 → ⊥) → length line < longest_line + 1 → Reading old (line ++ byte ∷ []) next left rest before after
    reading-byte byte finds other room = record {
      came = reading.came ++ finds.came;
      taken = Takes-then reading.came finds.came left now rest reading.taken finds.taken;
      bytes = together finds.came ∙ ap (λ (more : List ℕ). line ++ more) finds.says.0 ∙ sym (append_assoc line (byte ∷ []) next.ahead);
      feedless = All-push (λ byte. (byte == 10) ≡ false) line byte reading.feedless (ne_eqb byte 10 other);
      read = omega (arith, reading.read, finds.says.1, length-append line (byte ∷ []));
      fits = omega (arith, room, length-append line (byte ∷ []));
      patient = patient-more finds.came after (omega (arith, finds.says.1, within)) finds.asks;
    }

    -- the source failed
    pub failed-reads : (failed told : Failed) → FindsByte (Err failed) input next now rest asks after → Reads (Err told) old (record { ahead = next.ahead; given = next.given; line = line }) left rest before after
    failed-reads failed told finds =
        let all : old.ahead ++ (reading.came ++ finds.came) ≡ line = together finds.came ∙ ap (λ (more : List ℕ). line ++ more) finds.says.0 ∙ append-nil line in
        let given : next.given ≡ old.given + length line = omega (arith, reading.read, finds.says.2) in
        answered (Err failed) finds (Err told) line (omega (arith, finds.says.2, within))
        (record { read = line; front = All-take (λ byte. (byte == 10) ≡ false) (length line - 1) line reading.feedless; bytes = all ∙ sym (append-nil line) ∙ ap (λ (more : List ℕ). line ++ more) (sym finds.says.1); given = given })
        (record {
          feedless = All-same (λ byte. (byte == 10) ≡ false) (old.ahead ++ (reading.came ++ finds.came)) line all reading.feedless;
          read = omega (arith, given, ap length all, within);
          ahead = finds.says.1;
          line = sym all;
        })

    -- a line feed ended the line
    pub feed-reads : (byte : ℕ) (stripped : List ℕ) → byte ≡ 10 → FindsByte (Ok (Byte byte)) input next now rest asks after → stripped ≡ without_return line
        → Reads (Ok (if nat_le (length stripped) longest_line then Line else TooLong)) old (record { ahead = next.ahead; given = next.given; line = stripped }) left rest before after
    feed-reads byte stripped feed finds same =
        let all : old.ahead ++ (reading.came ++ finds.came) ≡ line ++ 10 ∷ next.ahead = together finds.came ∙ ap (λ (more : List ℕ). line ++ more) (finds.says.0 ∙ ap (λ (first : ℕ). first ∷ next.ahead) feed) in
        let read : next.given ≡ old.given + length line + 1 = omega (arith, reading.read, finds.says.1) in
        answered (Ok (Byte byte)) finds (Ok (if nat_le (length stripped) longest_line then Line else TooLong)) stripped (omega (arith, finds.says.1, within))
        (record { read = line ++ 10 ∷ []; front = front-pushed line 10 reading.feedless; bytes = all ∙ sym (append_assoc line (10 ∷ []) next.ahead); given = omega (arith, read, length-append line (10 ∷ [])) })
        (if_cases (λ (answer : Next). Says (Ok answer) old (record { ahead = next.ahead; given = next.given; line = stripped }) (old.ahead ++ (reading.came ++ finds.came)) rest) (nat_le (length stripped) longest_line) Line TooLong
        (λ fits. record { raw = line; feedless = reading.feedless; bytes = all; read = read; stripped = same; fits = leb-true (length stripped) longest_line fits })
        (λ over. record {
          raw = line;
          more = 10 ∷ next.ahead;
          feedless = reading.feedless;
          bytes = all;
          over = inr (inl (next.ahead, refl, rw (← same) (leb-false (length stripped) longest_line over), omega (arith, read, within)));
        }))

    -- one byte more than the longest line has, and another that is no line feed
    pub long-reads : (byte : ℕ) (kept : List ℕ) → FindsByte (Ok (Byte byte)) input next now rest asks after → (byte ≡ 10 → ⊥) → 16385 ≤ length line
        → Reads (Ok TooLong) old (record { ahead = next.ahead; given = next.given; line = kept }) left rest before after
    long-reads byte kept finds other long =
        let all : old.ahead ++ (reading.came ++ finds.came) ≡ (line ++ byte ∷ []) ++ next.ahead = together finds.came ∙ ap (λ (more : List ℕ). line ++ more) finds.says.0 ∙ sym (append_assoc line (byte ∷ []) next.ahead) in
        let given : next.given ≡ old.given + length (line ++ byte ∷ []) = omega (arith, reading.read, finds.says.1, length-append line (byte ∷ [])) in
        answered (Ok (Byte byte)) finds (Ok TooLong) kept (omega (arith, finds.says.1, within))
        (record { read = line ++ byte ∷ []; front = front-pushed line byte reading.feedless; bytes = all; given = given })
        (record {
          raw = line ++ byte ∷ [];
          more = next.ahead;
          feedless = All-push (λ byte. (byte == 10) ≡ false) line byte reading.feedless (ne_eqb byte 10 other);
          bytes = all;
          over = inl (omega (arith, long, length-append line (byte ∷ [])), omega (arith, given, within));
        })

    -- the input ended
    pub end-reads : FindsByte (Ok CameEnd) input next now rest asks after
        → Reads (Ok (if length line == 0 then End else (if nat_le (length line) longest_line then Last else TooLong))) old (record { ahead = next.ahead; given = next.given; line = line }) left rest before after
    end-reads finds =
        let all : old.ahead ++ (reading.came ++ finds.came) ≡ line = together finds.came ∙ ap (λ (more : List ℕ). line ++ more) finds.says.0 ∙ append-nil line in
        let read : next.given ≡ old.given + length line = omega (arith, reading.read, finds.says.2) in
        let P : Next → Type 0 = λ (answer : Next). Says (Ok answer) old (record { ahead = next.ahead; given = next.given; line = line }) (old.ahead ++ (reading.came ++ finds.came)) rest in
        answered (Ok CameEnd) finds (Ok (if length line == 0 then End else (if nat_le (length line) longest_line then Last else TooLong))) line (omega (arith, finds.says.2, within))
        (record { read = line; front = All-take (λ byte. (byte == 10) ≡ false) (length line - 1) line reading.feedless; bytes = all ∙ sym (append-nil line) ∙ ap (λ (more : List ℕ). line ++ more) (sym finds.says.1); given = read })
        (if_cases P (length line == 0) End (if nat_le (length line) longest_line then Last else TooLong)
        (λ none. record { bytes = all ∙ nil_from_length line (eqb-true (length line) 0 none); read = omega (arith, read, eqb-true (length line) 0 none); ahead = finds.says.1; left = finds.says.3 })
        (λ some. if_cases P (nat_le (length line) longest_line) Last TooLong
        (λ fits. record {
          feedless = All-same (λ byte. (byte == 10) ≡ false) (old.ahead ++ (reading.came ++ finds.came)) line all reading.feedless;
          bytes = all;
          read = read;
          some = omega (arith, eqb-false (length line) 0 some);
          fits = leb-true (length line) longest_line fits;
          ahead = finds.says.1;
          left = finds.says.3;
        })
        (λ over. record {
          raw = line;
          more = [];
          feedless = reading.feedless;
          bytes = all ∙ sym (append-nil line);
          over = inr (inr (inl (leb-false (length line) longest_line over, omega (arith, read, within), refl, finds.says.3)));
        })))

    -- the script is longer than it may be
    pub full-reads : (kept : List ℕ) → FindsByte (Ok CameFull) input next now rest asks after
        → Reads (Ok (if nat_le (length line) longest_line then Full else TooLong)) old (record { ahead = next.ahead; given = next.given; line = kept }) left rest before after
    full-reads kept finds =
        let more = input.ahead ++ finds.came in
        let read : old.given + length line ≡ most_bytes = omega (arith, reading.read, finds.says.1) in
        answered (Ok CameFull) finds (Ok (if nat_le (length line) longest_line then Full else TooLong)) kept (omega (arith, finds.says.1))
        (record { read = line; front = All-take (λ byte. (byte == 10) ≡ false) (length line - 1) line reading.feedless; bytes = together finds.came ∙ ap (λ (more : List ℕ). line ++ more) finds.says.2; given = omega (arith, reading.read, finds.says.3) })
        (if_cases (λ (answer : Next). Says (Ok answer) old (record { ahead = next.ahead; given = next.given; line = kept }) (old.ahead ++ (reading.came ++ finds.came)) rest) (nat_le (length line) longest_line) Full TooLong
        (λ fits. record { raw = line; more = more; feedless = reading.feedless; bytes = together finds.came; fits = leb-true (length line) longest_line fits; read = read; some = finds.says.0 })
        (λ over. record { raw = line; more = more; feedless = reading.feedless; bytes = together finds.came; over = inr (inr (inr (leb-false (length line) longest_line over, read, finds.says.0))) }))
