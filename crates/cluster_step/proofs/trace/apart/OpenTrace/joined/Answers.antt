-- A later cluster comes back.
use Rattle.std.proofs.Common.{ap, length, subst, sym, ◌∙◌}
use Rattle.cluster_step.specs.trace.Later.{IsLaterInAttempt, with_cluster}
use Rattle.cluster_step.specs.trace.Traces.{Parts, TraceView}
use Rattle.cluster_step.proofs.trace.Going.{kept_anew}
use Rattle.cluster_step.proofs.trace.LaterLemmas.{comes_back, later_remembered, same_attempt}
use Rattle.cluster_step.proofs.trace.apart.OpenTrace.joined.Goals as goal

pub invariant_of-result : goal.invariant_of-result
invariant_of-result g c =
    kept_anew g.M.SavingMachine.represents _ c.of-since.ensures
    (c.self.invariant ∙ ap (λ (v : TraceView _). length v.now.machines.items) c.self.view_is ∙ sym c.requires.many ∙ sym (ap (λ (p : Parts _). length p.machines.items) c.of_parts-cluster.ensures))

pub returns-clause-trace : goal.returns-clause-trace
returns-clause-trace g c =
    comes_back _ c.args.self c.of_parts-cluster.result c.of-since.result.value c.self.view_is c.of-since.ensures ∙ ap (λ (p : Parts _). with_cluster c.args.self p) c.of_parts-cluster.ensures

pub returns-clause-same : goal.returns-clause-same
returns-clause-same g c =
    let is = comes_back _ c.args.self c.of_parts-cluster.result c.of-since.result.value c.self.view_is c.of-since.ensures ∙ ap (λ (p : Parts _). with_cluster c.args.self p) c.of_parts-cluster.ensures in
    same_attempt c.args.self c.args.parts _ is c.requires.many c.requires.stopped

pub returns-clause-later : goal.returns-clause-later
returns-clause-later g c =
    let is = comes_back _ c.args.self c.of_parts-cluster.result c.of-since.result.value c.self.view_is c.of-since.ensures ∙ ap (λ (p : Parts _). with_cluster c.args.self p) c.of_parts-cluster.ensures in
    subst (IsLaterInAttempt g.M.SavingMachine.represents c.args.self) (sym is) (later_remembered g.M.SavingMachine.represents c.args.self c.args.parts c.requires.later)
