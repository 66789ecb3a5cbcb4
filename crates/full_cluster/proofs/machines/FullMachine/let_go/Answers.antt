use Rattle.std.proofs.Common.{◌<◌, ℕ, List, length, subst, sym}
use Rattle.std.specs.List.{All}
use Rattle.gl_base.specs.declared.numbers.Vertex.{Vertex}
use Rattle.full_cluster.proofs.EndLemmas.{gone_is}
use Rattle.full_cluster.proofs.machines.FullMachine.let_go.Goals as goal

pub returns-in-Some-clause-gone : goal.returns-in-Some-clause-gone
returns-in-Some-clause-gone c = λ st part f is at held.
    gone_is st c.args.self.now part c.args.scope f c.in-Some.seen c.take.new.self c.release.new.self c.deref.result.now is at held (sym c.in-Some.ensures.value) c.deref.ensures.value c.take.ensures.values c.take.ensures.once c.release.ensures.count c.release.ensures.released

pub release-requires : goal.release-requires
release-requires c =
    subst (λ (ps : List (Vertex × ℕ)). All (λ pair. pair.0.0 < length c.args.self.now.locks.locks.items) ps) (sym c.deref.ensures.value) (c.requires.seen c.in-Some.seen (sym c.in-Some.ensures.value))
