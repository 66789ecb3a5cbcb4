-- The call opens, and nothing has happened yet.
use Rattle.std.proofs.Common.{◌≡◌, ◌∙◌, ap, length, sym, rules}
use Rattle.std.specs.Prelude.{replicate, slice_index_or}
use Rattle.cluster_step.proofs.trace.Going.{begun_now, kept_anew, none_done}
use Rattle.cluster_step.proofs.trace.traces.Trace.open.Given as given
use Rattle.cluster_step.proofs.trace.traces.Trace.open.Goals as goal

length_is : (g : given.Over) (c : goal.After-of-since g) → length c.in-Ok.done.items ≡ length c.args.cluster.machines.items
length_is g c = search rules

zeros : (g : given.Over) (c : goal.After-of-since g) → c.in-Ok.done.items ≡ replicate c.machines.result 0
zeros g c = c.in-Ok.ensures.items_if_clones_equal (λ y is. is)

pub invariant_of-result : goal.invariant_of-result
invariant_of-result g c = kept_anew g.M.SavingMachine.represents _ c.of-since.ensures (length_is g c)

pub returns-clause-begun : goal.returns-clause-begun
returns-clause-begun g c = λ st o opens.
    begun_now g.M.SavingMachine.represents _ (λ a. ap (λ xs. slice_index_or xs a 0) (zeros g c) ∙ none_done c.machines.result a) (sym c.of-start.ensures) st o opens
