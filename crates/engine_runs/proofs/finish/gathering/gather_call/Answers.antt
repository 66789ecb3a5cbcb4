-- The lists are those of the course.
use Rattle.std.proofs.Common.{All, List, ap, false, length, rules, subst, sym, ℕ, ◌++◌, ◌<◌, ◌∙◌, ◌≡◌}
use Rattle.std.specs.Prelude.{slice_index_or}
use Rattle.gl_base.specs.declared.entries.Entry.{Entry}
use Rattle.gl_base.specs.declared.jobs.FailureAt.{FailureAt}
use Rattle.engine_runs.proofs.finish.GatherLemmas.{all_of, counts_here, entries_here, fired_here, numbers_here}
use Rattle.engine_runs.specs.finish.Gathered.{IsEntryOf, IsAnyMachineOf, reached_places}
use Rattle.graph_core.specs.DataGraph.{DataGraph, size}
use Rattle.engine_runs.proofs.finish.gathering.gather_call.Goals as goal

pub returns-then-not-are_of_graph-clause-other : goal.returns-then-not-are_of_graph-clause-other
returns-then-not-are_of_graph-clause-other g c = λ is lost st o events x now from.
    let has = c.in-Ok.ensures in
    let graph = c.args.graph.now in
    let other : c.are_of_graph.result ≡ false = search rules in
    c.are_of_graph.ensures.no other (subst (All (IsEntryOf graph)) (sym c.deref.ensures.value) (all_of (IsEntryOf graph) c.in-Ok.order.items
    (entries_here (IsAnyMachineOf g.P.Program.meaning) c.args.trace.now st o events x now c.args.front.items has.merged c.in-Ok.order.items from.base has.behind (has.merges st o events x now) graph from.graph)))

pub returns-clause-gathered : goal.returns-clause-gathered
returns-clause-gathered g c = λ lost st o events x now from.
    let represents = IsAnyMachineOf g.P.Program.meaning in
    let has = c.in-Ok.ensures in
    let counts = c.in-Ok-counts_of.counts in
    let done = counts.0.items in
    let each = λ (a : ℕ) (low : a < length c.args.trace.now.now.machines.items). c.in-Ok-counts_of.ensures.made a low st o events x now in
    record {
      are = record {
        merged = has.merged;
        merges = has.merges st o events x now;
        order = has.behind ∙ ap (λ (es : List Entry). es ++ has.merged) (sym from.base);
        lost = from.taken;
        done = counts_here represents c.args.trace.now st o events x now done c.in-Ok-counts_of.ensures.many each;
        fired = c.in-Ok-counts_of.ensures.fired ∙ ap (λ (fs : List FailureAt). reached_places (λ m. slice_index_or done m 0) 0 fs) (sym c.requires.failures)
            ∙ fired_here represents c.args.trace.now st o events x now done each;
      };
      numbers = numbers_here represents c.args.trace.now st o events x now c.args.front.items has.merged c.in-Ok.order.items from.base has.behind (has.merges st o events x now) counts.2.items
          (c.in-Ok-counts_of.ensures.count ∙ ap size (sym from.graph))
          (λ u low. let inside : u < size c.args.graph.now = subst (λ (k : DataGraph). u < size k) from.graph low in c.in-Ok-counts_of.ensures.numbers u inside st o events x now low (from.owners u inside));
    }
