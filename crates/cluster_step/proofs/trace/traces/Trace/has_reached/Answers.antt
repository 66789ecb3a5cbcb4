-- Whether a count is reached, by what the machine had completed and what it has logged.
use Rattle.std.proofs.Common.{◌+◌, ◌<◌, ◌∙◌, ap, length, get_or, subst, sym}
use Rattle.std.proofs.lemmas.Grind.{get_or_default_zero}
use Rattle.call_laws.specs.whole_calls.Following.{reaches}
use Rattle.cluster_step.proofs.trace.Calling.{reached_is}
use Rattle.cluster_step.proofs.trace.traces.Trace.has_reached.Given as given
use Rattle.cluster_step.proofs.trace.traces.Trace.has_reached.Goals as goal

low : (g : given.Over) (c : goal.After-is_count_reached g) → c.args.m.0 < length c.self.inside.done.items
low g c = subst (λ n. c.args.m.0 < n) (sym c.self.invariant.many) (subst (λ v. c.args.m.0 < length v.now.machines.items) (sym c.self.view_is) c.requires)

pub returns : goal.returns
returns g c = λ st o events x is.
    c.is_count_reached.ensures
    ∙ ap (λ fs. reaches fs c.args.m.0 c.index-before.result.now (c.index-before.result.now + length c.log.result.now)) (c.deref.ensures.value ∙ ap (λ v. v.failures) c.self.view_is)
    ∙ reached_is g.M.SavingMachine.represents c.args.self.now st o events x is c.args.m.0 c.requires c.index-before.result.now (length c.log.result.now)
    (c.index-before.ensures ∙ get_or_default_zero c.self.inside.done.items c.args.m.0 c.index-before.result.now (low g c) ∙ ap (λ v. get_or v.done c.args.m.0 0) c.self.view_is)
    (ap length (c.log.ensures.log st o events x is))
