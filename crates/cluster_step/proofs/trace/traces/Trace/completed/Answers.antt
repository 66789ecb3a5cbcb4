-- What a machine had completed and what it has logged are what it has completed, and each has its own ticket.
use Rattle.std.proofs.Common.{◌≡◌, ◌<◌, ◌∙◌, ap, get_or, length, subst, sym}
use Rattle.std.proofs.lemmas.Grind.{get_or_default_zero}
use Rattle.cluster_step.proofs.trace.Calling.{count_is}
use Rattle.cluster_step.proofs.trace.traces.Trace.completed.Given as given
use Rattle.cluster_step.proofs.trace.traces.Trace.completed.Goals as goal

low : (g : given.Over) (c : goal.After-saturating_add g) → c.args.m.0 < length c.self.inside.done.items
low g c = subst (λ n. c.args.m.0 < n) (sym c.self.invariant.many) (subst (λ v. c.args.m.0 < length v.now.machines.items) (sym c.self.view_is) c.requires)

before_is : (g : given.Over) (c : goal.After-saturating_add g) → c.index.result.now ≡ get_or c.args.self.now.done c.args.m.0 0
before_is g c = c.index.ensures ∙ get_or_default_zero c.self.inside.done.items c.args.m.0 c.index.result.now (low g c) ∙ ap (λ v. get_or v.done c.args.m.0 0) c.self.view_is

pub returns-clause-count : goal.returns-clause-count
returns-clause-count g c = λ st o events x is.
    c.saturating_add.ensures ∙ count_is g.M.SavingMachine.represents c.args.self.now st o events x is c.args.m.0 c.requires c.index.result.now (length c.log.result.now) (before_is g c) (ap length (c.log.ensures.log st o events x is))

pub returns-clause-made : goal.returns-clause-made
returns-clause-made g c = λ st o events x is call makes.
    c.saturating_add.ensures
    ∙ count_is g.M.SavingMachine.represents c.args.self.now st o events x is c.args.m.0 c.requires c.index.result.now (length c.log.result.now) (before_is g c) (ap length (c.log.ensures.log st o events x is))
    ∙ makes.is.done c.args.m.0
