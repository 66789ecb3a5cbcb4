use Rattle.std.proofs.Common.{Some, inr, subst}
use Rattle.store.specs.snap_journal.Journals.{snapshots_in}
use Rattle.store.specs.snap_journal.Last.{IsLast}
use Rattle.recovery.proofs.Goodness.{base_good}
use Rattle.recovery.proofs.recovered.recover.Goals as goal

pub returns-in-Some-clause-good : goal.returns-in-Some-clause-good
returns-in-Some-clause-good g c = λ told shared graph_is program_is of good.
    let header = c.args.journal.now.header in
    let bodies = snapshots_in g.D.Disk.past c.args.journal.now in
    let last : IsLast header bodies (Some c.in-Some.base) = subst (IsLast header bodies) c.in-Some.is (c.in_ok-base.ensures.last told) in
    base_good shared c.args.graph.now (g.P.Program.meaning c.args.program.now) header bodies c.in-Some.base graph_is program_is of good (inr last)
