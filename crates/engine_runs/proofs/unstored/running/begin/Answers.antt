-- The call goes on from the start.
use Rattle.std.proofs.Common.{◌∙◌, ℕ, List, ap, length, subst, subst₂, sym}
use Rattle.engine_runs.proofs.unstored.Goings.{has_begun}
use Rattle.engine_runs.specs.unstored.Inner.Going.{ArePlacesOf, AreRestartsAlone, IsRunAt}
use Rattle.placed_machines.specs.declared.placing.Places.{Places}
use Rattle.engine_runs.proofs.unstored.running.begin.Goals as goal

pub returns-clause-can : goal.returns-clause-can
returns-clause-can g c =
    let made = c.in_ok-started.ensures in
    let of = c.call_of.ensures in
    let many = ap (λ x. length x.now.machines.items) of.trace ∙ made.machines in
    record {
      places = subst₂ (λ (n : ℕ) (p : Places). ArePlacesOf c.args.graph.now n p) (sym many) (sym of.places) made.places.are;
      graph = made.graph;
      window = ap (λ (p : Places). p.run.window) of.places ∙ made.places.window ∙ c.requires.window;
      running = ap (λ x. x.now.stopped) of.trace ∙ made.runs;
      stored = ap (λ r. r.stored.items) of.restarts ∙ made.stored;
      snapshots = of.snapshots;
      saves = of.saves;
      restarts = subst AreRestartsAlone (sym (ap (λ v. v.items) of.order ∙ made.order)) tt;
    }

pub returns-clause-begun : goal.returns-clause-begun
returns-clause-begun g c = λ header st of machines runs.
    let there : IsRunAt c.args.graph.now (g.P.Program.meaning c.args.program) c.in_ok-started.started.places st =
    subst (λ (p : Places). IsRunAt c.args.graph.now (g.P.Program.meaning c.args.program) p st) c.call_of.ensures.places runs in
    has_begun g.P.Program.meaning c.in_ok-started.started c.call_of.result header c.args.plan.run.budget st c.call_of.ensures.trace c.call_of.ensures.restarts c.call_of.ensures.order c.call_of.ensures.lost
    (c.in_ok-started.ensures.started header st of machines there)
