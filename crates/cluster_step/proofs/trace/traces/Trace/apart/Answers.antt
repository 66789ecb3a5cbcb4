-- The cluster goes out.
use Rattle.std.proofs.Common.{ap, length, sym, ◌∙◌}
use Rattle.cluster_step.specs.trace.Traces.{Parts}
use Rattle.cluster_step.proofs.trace.LaterLemmas.{goes_out}
use Rattle.cluster_step.proofs.trace.traces.Trace.apart.Goals as goal

pub invariant_of-trace : goal.invariant_of-trace
invariant_of-trace g c = c.self.invariant.many ∙ sym (ap (λ (p : Parts _). length p.machines.items) c.of-was.ensures)

pub returns-clause-trace : goal.returns-clause-trace
returns-clause-trace g c = goes_out _ c.args.self c.of-was.result.value c.self.view_is c.of-was.ensures

pub returns-clause-parts : goal.returns-clause-parts
returns-clause-parts g c = c.into_parts.ensures.parts ∙ ap (λ v. v.now) c.self.view_is
