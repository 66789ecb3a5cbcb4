use Rattle.std.proofs.lemmas.Result.{on_err_weaker, on_ok_weaker}
use Rattle.gl_base.specs.scope_lists.Scopes.{set_at}
use Rattle.full_cluster.proofs.MachineLemmas.{out_changed}
use Rattle.full_cluster.proofs.machines.FullMachine.send.Goals as goal

pub returns-clause-sent : goal.returns-clause-sent
returns-clause-sent c = λ st part on is also. on_ok_weaker c.send.result
    (λ done. record { first = done.first; machine = out_changed st c.args.self.now c.send.new.out part (set_at part.out c.args.to.0 done.first.behind) is done.outbox; links = done.links })
    (c.send.ensures.sent st part.out on is.out also)

pub returns-clause-unchanged : goal.returns-clause-unchanged
returns-clause-unchanged c = λ st part on is also. on_err_weaker c.send.result
    (λ same. (out_changed st c.args.self.now c.send.new.out part part.out is same.0, same.1))
    (c.send.ensures.unchanged st part.out on is.out also)
