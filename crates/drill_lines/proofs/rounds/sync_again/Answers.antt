use Rattle.std.proofs.Common.{rules, ◌≡◌}
use Rattle.sync_rules.specs.declared.ending.SyncEnd.TheVariants.{NoMemory}
use Rattle.drill_lines.proofs.rounds.sync_again.Goals as goal

pub returns : goal.returns
returns g c =
    let ended : ¬ (c.sync-end.result ≡ NoMemory) = search rules in
    (c.sync-end.result, ended, c.sync-end.ensures.syncs ended, c.is_done.ensures)
