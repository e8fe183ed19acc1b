use Rattle.std.proofs.Common.{refl, ◌++◌, codes}
use Rattle.bench_io.specs.Texts.{hex_text}
use Rattle.sync_lines.proofs.Texts.{two-parts}
use Rattle.sync_lines.proofs.text.add_end.Goals as goal

pub returns-in-BadImage-clause-text : goal.returns-in-BadImage-clause-text
returns-in-BadImage-clause-text c =
    rw c.in-BadImage.is (two-parts _ (codes "sync: image ") _ _ _ _ c.append-in-BadImage.ensures c.append-in-BadImage-2.ensures (rw c.fit_text.ensures.text refl))

pub returns-in-Locked-clause-text : goal.returns-in-Locked-clause-text
returns-in-Locked-clause-text c =
    rw c.in-Locked.is (two-parts _ (codes "sync: locked,") (codes " flags " ++ hex_text c.in-Locked.flags) _ _ _ c.append-in-Locked.ensures c.append_mask.ensures.text refl)

pub returns-in-Disturbed-clause-text : goal.returns-in-Disturbed-clause-text
returns-in-Disturbed-clause-text c = rw c.in-Disturbed.is c.append-in-Disturbed.ensures
