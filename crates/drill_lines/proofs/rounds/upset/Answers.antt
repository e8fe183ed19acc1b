use Rattle.std.proofs.Common.{rules, ◌≡◌, subst}
use Rattle.sync_rules.specs.declared.ending.SyncEnd.TheVariants.{NoMemory}
use Rattle.ec_wire.specs.Calls.{WireView}
use Rattle.bench_wire.specs.BenchView.{wire_view}
use Rattle.sync_engine.specs.OnWire.{SyncsInRoom}
use Rattle.drill_lines.proofs.rounds.upset.Goals as goal

pub returns : goal.returns
returns g c =
    let ended : ¬ (c.sync.result ≡ NoMemory) = search rules in
    record {
      end = c.sync.result;
      ended = ended;
      syncs = subst (λ (view : WireView). SyncsInRoom c.args.image.now c.sync.result view (wire_view g.B.Bus.bus c.sync.new.w)) c.arm_cut.ensures (c.sync.ensures.syncs ended);
    }
