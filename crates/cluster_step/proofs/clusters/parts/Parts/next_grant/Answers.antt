-- What the machine may grant may be granted in the cluster.
use Rattle.cluster_step.specs.declared.clusters.events.Event.TheVariants as event
use Rattle.cluster_step.specs.declared.clusters.events.Local.TheVariants as local
use Rattle.cluster_step.proofs.clusters.Answering.{still_alone}
use Rattle.cluster_step.proofs.clusters.Next.{grant_can, grant_cannot, none_then, some_then, still_cannot}
use Rattle.cluster_step.proofs.clusters.parts.Parts.next_grant.Goals as goal

pub returns-then-is_still-clause-none : goal.returns-then-is_still-clause-none
returns-then-is_still-clause-none g c = λ x. still_cannot g.M.SavingMachine.represents c.args.self.now (event.Local (local.Grant c.args.at x)) (c.is_still.ensures.yes c.if-is_still.true)

pub returns-clause-some : goal.returns-clause-some
returns-clause-some g c =
    let still = c.is_still.ensures.no c.if-is_still.false in
    some_then c.next_grant.result
    (grant_can g.M.SavingMachine.represents c.args.self.now still.0 c.args.at c.requires still.1 c.index_mut.result.now c.index_mut.ensures.value)
    c.next_grant.ensures.some

pub returns-clause-none : goal.returns-clause-none
returns-clause-none g c =
    let still = c.is_still.ensures.no c.if-is_still.false in
    none_then c.next_grant.result
    (grant_cannot g.M.SavingMachine.represents c.args.self.now still.0 c.args.at c.requires still.1 c.index_mut.result.now c.index_mut.ensures.value)
    c.next_grant.ensures.none

pub returns-clause-same : goal.returns-clause-same
returns-clause-same g c =
    let still = c.is_still.ensures.no c.if-is_still.false in
    still_alone g.M.SavingMachine.represents c.args.self.now still.0 c.args.at.0 c.requires still.1 c.index_mut.result.now c.index_mut.ensures.value c.next_grant.new.self c.next_grant.ensures.unchanged
