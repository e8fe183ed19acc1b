use Rattle.jump_data.proofs.kept.JumpData.encode.Goals as goal

pub returns-in-Tagged-clause-kept : goal.returns-in-Tagged-clause-kept
returns-in-Tagged-clause-kept c =
    let switches = rw c.in-Tagged.is at c.requires.switches in
    rw c.in-Tagged.is (c.put_front.ensures.small, c.put_protection.ensures.four, switches, c.hash_size.ensures.kept, c.put_saved.ensures.small)
