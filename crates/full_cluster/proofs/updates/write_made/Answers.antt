use Rattle.std.proofs.Common.{◌+◌, ℕ, List, length, slice_index, slice_set, subst}
use Rattle.full_cluster.specs.Inner.Rows.{ComesFrom, nth_half}
use Rattle.full_cluster.proofs.updates.write_made.Goals as goal

pub returns-clause-numbers : goal.returns-clause-numbers
returns-clause-numbers c =
    let halves = c.args.halves.now in
    subst (λ (row : List ℕ). ComesFrom (λ i. (nth_half halves i).other.0) (slice_index row) (length halves) (slice_set c.args.numbers.now c.args.v.0 c.args.made.now.centre) c.write_ends.new.numbers)
    c.deref.ensures.value c.write_ends.ensures.written

pub returns-clause-edges : goal.returns-clause-edges
returns-clause-edges c =
    let halves = c.args.halves.now in
    subst (λ (row : List ℕ). ComesFrom (λ i. (nth_half halves i).edge.0) (λ i. slice_index row (length halves + i)) (length halves) c.args.edges.now c.write_edges.new.edges)
    c.deref-2.ensures.value c.write_edges.ensures.written
