-- What the cluster answers is so of each course.
use Rattle.std.proofs.Common.{false, refl, subst}
use Rattle.cluster_step.specs.trace.Traces.{InEachTrace}
use Rattle.cluster_step.specs.trace.Events.{IsHeldBack}
use Rattle.cluster_step.proofs.trace.Going.{attempt_seen, can_seen, cannot_seen, kept_since_seen, made_seen, no_stop, unchanged_seen}
use Rattle.cluster_step.proofs.trace.traces.Trace.apply.Given as given
use Rattle.cluster_step.proofs.trace.traces.Trace.apply.Goals as goal

free : (g : given.Over) (c : goal.After-apply g) → InEachTrace g.M.SavingMachine.represents c.args.self.now (IsHeldBack c.args.self.now.failures c.args.event false)
free g c = subst (λ answer. InEachTrace g.M.SavingMachine.represents c.args.self.now (IsHeldBack c.args.self.now.failures c.args.event answer)) c.if-is_held_back.false c.is_held_back.ensures

pub invariant_of-self : goal.invariant_of-self
invariant_of-self g c =
    kept_since_seen g.M.SavingMachine.represents _ c.args.self.now c.self.view_is c.self.inside.since.value c.apply.new.self c.args.event (free g c) c.self.invariant c.apply.ensures.machines c.apply.result c.apply.ensures.made c.apply.ensures.unchanged c.requires.none refl

pub returns-clause-made : goal.returns-clause-made
returns-clause-made g c =
    made_seen g.M.SavingMachine.represents _ c.args.self.now c.self.view_is c.self.inside.since.value c.apply.new.self c.args.event (free g c) c.apply.result c.apply.ensures.made

pub returns-clause-not_now : goal.returns-clause-not_now
returns-clause-not_now g c is = cannot_seen g.M.SavingMachine.represents _ c.args.self.now c.self.view_is c.self.inside.since.value c.apply.new.self c.args.event (c.apply.ensures.not_now is)

pub returns-clause-no_memory : goal.returns-clause-no_memory
returns-clause-no_memory g c is = can_seen g.M.SavingMachine.represents _ c.args.self.now c.self.view_is c.self.inside.since.value c.apply.new.self c.args.event (free g c) (c.apply.ensures.no_memory is)

pub returns-clause-unchanged : goal.returns-clause-unchanged
returns-clause-unchanged g c =
    unchanged_seen g.M.SavingMachine.represents _ c.args.self.now c.self.view_is c.self.inside.since.value c.apply.new.self c.args.event c.apply.result c.apply.ensures.unchanged

pub returns-clause-same : goal.returns-clause-same
returns-clause-same g c = attempt_seen _ c.args.self.now c.self.view_is c.apply.new.self c.apply.ensures.machines (c.apply.ensures.stopped (no_stop c.args.event c.requires.none))

pub returns-clause-since : goal.returns-clause-since
returns-clause-since g c = (invariant_of-self g c).goes_on
