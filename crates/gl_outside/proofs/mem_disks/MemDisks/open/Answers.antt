use Rattle.gl_outside.proofs.mem_disks.MemDisks.open.Goals as goal

pub invariant_of-self : goal.invariant_of-self
invariant_of-self c = (c.open_in-answer.ensures.inside, c.open_in-answer.ensures.apart)
