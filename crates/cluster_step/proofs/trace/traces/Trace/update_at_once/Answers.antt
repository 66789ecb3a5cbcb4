-- What the cluster makes at once is so of each course.
use Rattle.std.proofs.Common.{◌≡◌, false, refl, subst, sym, ◌∙◌}
use Rattle.cluster_step.specs.trace.Traces.{InEachTrace, TraceGoesOn, as_since}
use Rattle.cluster_step.proofs.trace.AtOnceGoing.{can_at_once, cannot_at_once, kept_at_once, made_at_once, unchanged_at_once}
use Rattle.cluster_step.proofs.trace.Going.{attempt_seen}
use Rattle.cluster_step.proofs.trace.traces.Trace.update_at_once.Given as given
use Rattle.cluster_step.proofs.trace.traces.Trace.update_at_once.Goals as goal
use Rattle.call_laws.specs.whole_calls.Following.{has_reached}

free : (g : given.Over) (c : goal.After-update_at_once g) → InEachTrace g.M.SavingMachine.represents c.args.self.now (λ st o events x. has_reached c.args.self.now.failures x c.args.at.0 ≡ false)
free g c st o events x is = sym (c.has_reached.ensures st o events x is) ∙ c.if-has_reached.false

pub invariant_of-self : goal.invariant_of-self
invariant_of-self g c =
    kept_at_once g.M.SavingMachine.represents _ c.args.self.now c.self.view_is c.self.inside.since.value c.update_at_once.new.self c.args.at (free g c) c.self.invariant c.update_at_once.ensures.machines refl
    c.update_at_once.result c.update_at_once.ensures.made c.update_at_once.ensures.unchanged

pub returns-clause-made : goal.returns-clause-made
returns-clause-made g c =
    made_at_once g.M.SavingMachine.represents _ c.args.self.now c.self.view_is c.self.inside.since.value c.update_at_once.new.self c.args.at (free g c) c.update_at_once.result c.update_at_once.ensures.made

pub returns-clause-not_now : goal.returns-clause-not_now
returns-clause-not_now g c is = cannot_at_once g.M.SavingMachine.represents _ c.args.self.now c.self.view_is c.self.inside.since.value c.update_at_once.new.self c.args.at (c.update_at_once.ensures.not_now is)

pub returns-clause-no_memory : goal.returns-clause-no_memory
returns-clause-no_memory g c is = can_at_once g.M.SavingMachine.represents _ c.args.self.now c.self.view_is c.self.inside.since.value c.update_at_once.new.self c.args.at (free g c) (c.update_at_once.ensures.no_memory is)

pub returns-clause-unchanged : goal.returns-clause-unchanged
returns-clause-unchanged g c =
    unchanged_at_once g.M.SavingMachine.represents _ c.args.self.now c.self.view_is c.self.inside.since.value c.update_at_once.new.self c.args.at c.update_at_once.result c.update_at_once.ensures.unchanged

pub returns-clause-same : goal.returns-clause-same
returns-clause-same g c = attempt_seen _ c.args.self.now c.self.view_is c.update_at_once.new.self c.update_at_once.ensures.machines c.update_at_once.ensures.stopped

pub returns-then-has_reached-clause-since : goal.returns-then-has_reached-clause-since
returns-then-has_reached-clause-since g c = subst (λ v. TraceGoesOn g.M.SavingMachine.represents (as_since v) v) c.self.view_is c.self.invariant.goes_on

pub returns-clause-since : goal.returns-clause-since
returns-clause-since g c = (invariant_of-self g c).goes_on
