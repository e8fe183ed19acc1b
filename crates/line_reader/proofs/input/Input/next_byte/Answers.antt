use Rattle.std.proofs.Common.{◌≡◌, ◌≤◌, ◌<◌, inl, inr, refl, [], drop, take, length, arith, sym, ◌∙◌, ap}
use Rattle.std.proofs.lemmas.List.{append-nil}
use Rattle.line_reader.specs.Bytes.{InputView}
use Rattle.line_reader.proofs.Takings.{Takes-nothing}
use Rattle.line_reader.proofs.Chunks.{nothing_ahead, some_ahead, found}
use Rattle.line_reader.proofs.input.Input.next_byte.Goals.{then-self+in_ok-ask, else-self}
use Rattle.line_reader.proofs.input.Input.next_byte.Goals as goal

pub returns-clause-finds : goal.returns-clause-finds
returns-clause-finds g c =
    let now = c.self-2.inside in
    let old = c.self.inside in
    let left = g.S.Source.left in
    let asks = g.S.Source.asks in
    let ahead : c.if-self.self.ahead ≡ drop now.start (take now.end now.chunk) = ap (λ (view : InputView). view.ahead) (sym c.self-2.view_is) in
    let given : c.if-self.self.given ≡ now.given = ap (λ (view : InputView). view.given) (sym c.self-2.view_is) in
    let some : now.start < now.end = omega arith in
    let within : now.end ≤ length now.chunk = omega arith in
    elim c.if-self.branch [
      | then-self+in_ok-ask w ↦
          let none : c.args.self.now.ahead ≡ [] = ap (λ (view : InputView). view.ahead) (sym c.self.view_is) ∙ nothing_ahead old.chunk old.start old.end w.if-self.true in
          let came = w.ask.new.self.ahead in
          rw w.source-is
          (found c.args.self.now came now.chunk now.start now.end now.given (left c.args.source.now) (left w.ask.new.source) (asks c.args.source.now) (asks w.ask.new.source) w.ask.ensures.taken (inr (none, w.ask.ensures.asks))
          (rw none (ap (λ (view : InputView). view.ahead) (sym w.self-is) ∙ ahead)) (sym given ∙ ap (λ (view : InputView). view.given) w.self-is ∙ w.ask.ensures.given) some within)
      | else-self w ↦
          rw w.source-is
          (found c.args.self.now [] now.chunk now.start now.end now.given (left c.args.source.now) (left c.args.source.now) (asks c.args.source.now) (asks c.args.source.now) (Takes-nothing (left c.args.source.now)) (inl (some_ahead c.args.self.now.ahead now.chunk now.start now.end (ap (λ (view : InputView). view.ahead) (sym w.self-is) ∙ ahead) some within, refl, refl))
          (append-nil c.args.self.now.ahead ∙ ap (λ (view : InputView). view.ahead) (sym w.self-is) ∙ ahead) (sym given ∙ ap (λ (view : InputView). view.given) w.self-is) some within)
    ]
