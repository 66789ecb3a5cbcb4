-- What the machine may mark may be marked in the cluster.
use Rattle.cluster_step.proofs.clusters.Next.{mark_can, mark_cannot, none_then, some_then}
use Rattle.cluster_step.proofs.clusters.parts.Parts.next_mark.Goals as goal

pub returns-clause-some : goal.returns-clause-some
returns-clause-some g c =
    let still = c.is_still.ensures.no c.if-is_still.false in
    some_then c.next_mark.result (mark_can g.M.SavingMachine.represents c.args.self.now still.0 c.args.at c.requires.within still.1 c.index.result.now c.index.ensures) c.next_mark.ensures.some

pub returns-clause-none : goal.returns-clause-none
returns-clause-none g c =
    let still = c.is_still.ensures.no c.if-is_still.false in
    none_then c.next_mark.result (mark_cannot g.M.SavingMachine.represents c.args.self.now still.0 c.args.at c.requires.within still.1 c.index.result.now c.index.ensures) c.next_mark.ensures.none
