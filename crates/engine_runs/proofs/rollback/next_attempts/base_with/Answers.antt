-- The base, with the entries behind its order.
use Rattle.engine_runs.proofs.rollback.Attempts.{base_so}
use Rattle.store.specs.snap_journal.Journals.{snapshots_in}
use Rattle.engine_runs.proofs.rollback.next_attempts.base_with.Goals as goal

pub returns-clause-base : goal.returns-clause-base
returns-clause-base g c = λ told shared graph_is program_is good.
    base_so shared c.args.graph.now (g.P.Program.meaning c.args.program.now) c.args.journal.now.header (snapshots_in g.D.Disk.past c.args.journal.now) c.args.missing.now c.in_ok-base.base c.in_ok-base-2.base (c.in_ok-base.ensures.base told)
    (c.in_ok-base.ensures.good told shared graph_is program_is c.requires good) c.in_ok-base-2.ensures.number c.in_ok-base-2.ensures.order c.in_ok-base-2.ensures.values c.in_ok-base-2.ensures.edges
