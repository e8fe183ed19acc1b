use Rattle.std.proofs.Common.{◌≡◌, ◌∙◌, sym, ap, subst, ℕ, ◌+◌, ◌-◌, ◌/◌, [], ◌++◌, Ok, arith}
use Rattle.ec_types.specs.Tables.{packet_limit}
use Rattle.ec_types.specs.declared.bus.BusKind.{BusKind}
use Rattle.ec_wire.proofs.Growth.{grows-nil, grows-then}
use Rattle.host_transport.specs.Asking.{host_view, setting_of}
use Rattle.host_transport.proofs.WireParts.{part-at}
use Rattle.sync_rules.specs.Steps.{pieces, piece_length, WritesFrom}
use Rattle.sync_engine.proofs.Loops.{goes-on, goes-end}
use Rattle.sync_engine.proofs.Numbered.{WritesNumber, as-number, write-more, write-stops, write-none, one-left, none-left, all-left}
use Rattle.sync_engine.proofs.writing.write_all.Goals as goal

pub loop-number-init : goal.loop-number-init
loop-number-init g c =
    let setting = setting_of c.args.floor (g.W.Wire.view c.args.w.now) in
    let total = pieces (c.args.geometry / 2) (piece_length setting) in
    record {
      added = [];
      grows = grows-nil _;
      rest = λ more end part. subst (λ (left : ℕ). WritesFrom left 0 setting c.args.image.now c.args.geometry (host_view (g.W.Wire.view c.args.w.now)) more end) (all-left total) part;
    }

pub returns-in_err-write_piece : goal.returns-in_err-write_piece
returns-in_err-write_piece g c =
    let so_far = c.loop-number.invariant in
    let number = c.loop-number.number in
    let image = c.args.image.now in
    let geometry = c.args.geometry in
    let most = c.longest_piece-most.result in
    let setting = setting_of c.args.floor (g.W.Wire.view c.args.w.now) in
    let size_is = ap (λ (range : ℕ × ℕ). pieces range.1 most) c.range-size.ensures in
    let total = pieces (geometry / 2) (piece_length setting) in
    let count : c.piece_count-number-end.result ≡ total = c.piece_count-number-end.ensures ∙ size_is ∙ ap (pieces (geometry / 2)) c.longest_piece-most.ensures.length in
    let length_is = c.longest_piece-most.ensures.length ∙ ap (λ (bus : BusKind). packet_limit bus - 16) (sym so_far.grows.bus) in
    let piece = as-number number c.place_of-place.result _ image geometry most c.args.floor _ _ _ length_is c.cut_piece.ensures.cut c.place_of-place.ensures.place c.in_err-write_piece.ensures.does in
    record {
      does = goes-end (λ setting. WritesFrom (pieces (geometry / 2) (piece_length setting)) 0 setting image geometry) (λ any. WritesFrom (total - number) number any image geometry) _ _ so_far.added _ _ _ so_far.grows so_far.rest
          (write-stops (total - (number + 1)) (total - number) number image geometry _ _ _ _ _ (one-left number _ total c.loop-number-test.true count) c.from_residual.ensures piece);
    }

pub loop-number-preserved : goal.loop-number-preserved
loop-number-preserved g c =
    let so_far = c.loop-number.invariant in
    let number = c.loop-number.number in
    let image = c.args.image.now in
    let geometry = c.args.geometry in
    let most = c.longest_piece-most.result in
    let setting = setting_of c.args.floor (g.W.Wire.view c.args.w.now) in
    let total = pieces (geometry / 2) (piece_length setting) in
    let size_is = ap (λ (range : ℕ × ℕ). pieces range.1 most) c.range-size.ensures in
    let count : c.piece_count-number-end.result ≡ total = c.piece_count-number-end.ensures ∙ size_is ∙ ap (pieces (geometry / 2)) c.longest_piece-most.ensures.length in
    let length_is = c.longest_piece-most.ensures.length ∙ ap (λ (bus : BusKind). packet_limit bus - 16) (sym so_far.grows.bus) in
    let piece = as-number number c.place_of-place.result _ image geometry most c.args.floor _ _ _ length_is c.cut_piece.ensures.cut c.place_of-place.ensures.place c.in_ok-write_piece.ensures.does in
    record {
      added = so_far.added ++ piece.added;
      grows = grows-then _ _ _ _ _ so_far.grows piece.grows;
      rest = goes-on (WritesFrom total 0 setting image geometry) (WritesFrom (total - number) number setting image geometry) (WritesFrom (total - (number + 1)) (number + 1) setting image geometry)
          (host_view (g.W.Wire.view c.args.w.now)) so_far.added piece.added _ _ so_far.rest piece.grows
          (write-more (total - (number + 1)) (total - number) number _ image geometry _ _ (one-left number _ total c.loop-number-test.true count)
          (part-at (λ setting view added. WritesNumber number setting image geometry view added (Ok tt)) _ so_far.added _ _ _ so_far.grows piece));
    }

pub returns : goal.returns
returns g c =
    let so_far = c.loop-number.invariant in
    let number = c.loop-number.number in
    let image = c.args.image.now in
    let geometry = c.args.geometry in
    let most = c.longest_piece-most.result in
    let setting = setting_of c.args.floor (g.W.Wire.view c.args.w.now) in
    let total = pieces (geometry / 2) (piece_length setting) in
    let size_is = ap (λ (range : ℕ × ℕ). pieces range.1 most) c.range-size.ensures in
    let count : c.piece_count-number-end.result ≡ total = c.piece_count-number-end.ensures ∙ size_is ∙ ap (pieces (geometry / 2)) c.longest_piece-most.ensures.length in
    let none = none-left number _ total (omega (arith, c.loop-number-test.false)) count in
    record {
      does = goes-end (λ setting. WritesFrom (pieces (geometry / 2) (piece_length setting)) 0 setting image geometry) (λ any. WritesFrom (total - number) number any image geometry) _ _ so_far.added _ _ _ so_far.grows so_far.rest
          (write-none (total - number) number image geometry _ _ none);
    }
