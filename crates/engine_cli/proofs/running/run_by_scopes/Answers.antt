use Rattle.engine_cli.proofs.StoredBy.{IfErr-map}
use Rattle.engine_cli.proofs.Preparing.{none-on-store}
use Rattle.engine_cli.proofs.running.run_by_scopes.Goals as goal

pub returns-in-Some-clause-refused : goal.returns-in-Some-clause-refused
returns-in-Some-clause-refused g c =
    IfErr-map c.run_on_store.result _ _
    (λ why refused.
    none-on-store g.F.Files.disks_observable c.args.asked c.is_resumed-resumed.result c.args.input.now (g.F.Files.state c.args.files.now) (g.F.Files.state c.run_on_store.new.files) c.args.input.now.job.store c.in-Some.name c.as_str.result.now why
    c.in-Some.is c.as_str.ensures c.is_resumed-resumed.ensures refused)
    c.run_on_store.ensures.refused
