use Rattle.ectool_lines.proofs.Padding.{decoded-padded}
use Rattle.ectool_lines.proofs.commands.padded.Goals as goal

pub returns : goal.returns
returns g c = decoded-padded g.row.SIZE c.args.bytes.now c.decode.new.out c.len.result c.len.ensures c.requires c.decode.ensures
