use Rattle.std.proofs.Common.{ℕ, ◌/◌, false, ap, ◌∙◌}
use Rattle.std.specs.Prelude.{slice_index_or}
use Rattle.ec_boot.specs.States.{RunView}
use Rattle.ec_boot.specs.Shared.{data_of, shown_of}
use Rattle.ec_boot.proofs.JumpLemmas.{data-spelled, decoded-same, passed-run, passed-on, passed-live}
use Rattle.ec_boot.proofs.on.On.pass_on.Goals as goal

pub invariant_of-result : goal.invariant_of-result
invariant_of-result g c =
    let jump = decoded-same c.in-Some.jump (data_of c.args.layout c.self.inside.lasting c.self.inside.hash.shown) c.decode.result c.in-Some.is
    (c.decode.ensures.accepted (data_of c.args.layout c.self.inside.lasting c.self.inside.hash.shown)
    (rw (← (c.jump_data.ensures ∙ ap (data_of c.args.layout c.self.inside.lasting) c.view.ensures.shown)) c.encode.ensures.kept)
    (data-spelled c.args.layout c.self.inside.lasting c.self.inside.hash.shown c.view.result c.jump_data.result c.encode.new.out.items c.as_slice.result.now c.view.ensures.shown c.jump_data.ensures c.encode.ensures.spelled c.as_slice.ensures.value)) in
    let passed = passed-run c.args.target c.args.layout c.self.inside.ctl c.self.inside.pin c.self.inside.lasting c.behind_jump-lasting.result c.self.inside.hash c.hash_of-hash.result c.in-Some.jump c.locked.result c.locked-in-Some.result c.self.invariant
    (rw (ap (λ (run : RunView). run.live.erase) c.self.view_is) c.requires) jump c.locked.ensures (c.locked-in-Some.ensures ∙ ap (λ (n : ℕ). slice_index_or c.self.inside.ctl.locks (n / 2 / 4096) false) (c.size.ensures.size ∙ c.geometry.ensures.size)) c.behind_jump-lasting.ensures (c.hash_of-hash.ensures.shown ∙ ap shown_of c.kept.ensures) c.hash_of-hash.ensures.nonce in
    passed-on c.args.target c.args.layout c.self.inside.ctl c.self.inside.pin c.self.inside.lasting c.behind_jump-lasting.result c.self.inside.hash c.hash_of-hash.result c.self.invariant passed.0 passed.1 c.hash_of-hash.ensures.nonce

pub returns : goal.returns
returns g c =
    let jump = decoded-same c.in-Some.jump (data_of c.args.layout c.self.inside.lasting c.self.inside.hash.shown) c.decode.result c.in-Some.is
    (c.decode.ensures.accepted (data_of c.args.layout c.self.inside.lasting c.self.inside.hash.shown)
    (rw (← (c.jump_data.ensures ∙ ap (data_of c.args.layout c.self.inside.lasting) c.view.ensures.shown)) c.encode.ensures.kept)
    (data-spelled c.args.layout c.self.inside.lasting c.self.inside.hash.shown c.view.result c.jump_data.result c.encode.new.out.items c.as_slice.result.now c.view.ensures.shown c.jump_data.ensures c.encode.ensures.spelled c.as_slice.ensures.value)) in
    let passed = passed-run c.args.target c.args.layout c.self.inside.ctl c.self.inside.pin c.self.inside.lasting c.behind_jump-lasting.result c.self.inside.hash c.hash_of-hash.result c.in-Some.jump c.locked.result c.locked-in-Some.result c.self.invariant
    (rw (ap (λ (run : RunView). run.live.erase) c.self.view_is) c.requires) jump c.locked.ensures (c.locked-in-Some.ensures ∙ ap (λ (n : ℕ). slice_index_or c.self.inside.ctl.locks (n / 2 / 4096) false) (c.size.ensures.size ∙ c.geometry.ensures.size)) c.behind_jump-lasting.ensures (c.hash_of-hash.ensures.shown ∙ ap shown_of c.kept.ensures) c.hash_of-hash.ensures.nonce in
    rw (← c.self.view_is)
    (passed-live c.args.target c.args.layout c.self.inside.ctl c.self.inside.pin c.self.inside.lasting c.behind_jump-lasting.result c.self.inside.hash c.hash_of-hash.result (rw (ap (λ (run : RunView). run.live.erase) c.self.view_is) c.requires) passed.0 passed.1 c.hash_of-hash.ensures.nonce)
