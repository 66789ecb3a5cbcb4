-- What the machine may update may be updated in the cluster.
use Rattle.std.proofs.Common.{◌≢◌, ◌<◌, ℕ, arith}
use Rattle.cluster_step.proofs.clusters.Next.{none_then, some_then, update_can, update_cannot, update_home}
use Rattle.cluster_step.proofs.clusters.parts.Parts.next_update.Goals as goal

some : {n : ℕ} → n ≢ 0 → 0 < n
some {n} none = omega arith

pub returns-clause-home : goal.returns-clause-home
returns-clause-home g c =
    let still = c.is_still.ensures.no c.if-is_still.false in
    some_then c.next_update.result (update_home g.M.SavingMachine.represents c.args.self.now still.0 c.args.at c.requires.within still.1 c.index.result.now c.index.ensures c.requires.cluster) c.next_update.ensures.some

pub returns-clause-some : goal.returns-clause-some
returns-clause-some g c =
    let still = c.is_still.ensures.no c.if-is_still.false in
    some_then c.next_update.result (update_can g.M.SavingMachine.represents c.args.self.now still.0 c.args.at c.requires.within still.1 c.index.result.now c.index.ensures (some c.if-self-eq0.false)) c.next_update.ensures.some

pub returns-clause-none : goal.returns-clause-none
returns-clause-none g c =
    let still = c.is_still.ensures.no c.if-is_still.false in
    none_then c.next_update.result (update_cannot g.M.SavingMachine.represents c.args.self.now still.0 c.args.at c.requires.within still.1 c.index.result.now c.index.ensures) c.next_update.ensures.none
