use Rattle.std.proofs.Common.{◌≡◌, ◌∙◌, ◌<◌, ℕ, Some, List, length, slice_index, ap, subst, sym}
use Rattle.full_laws.specs.Items.{AnEdge}
use Rattle.full_cluster.proofs.machines.FullMachine.edge.Goals as goal

pub returns : goal.returns
returns c = λ st part is low kept.
    let here : c.deref.result.now ≡ c.args.self.now.kept.edges.items = c.deref.ensures.value in
    let long : c.args.e.0 < length c.deref.result.now = subst (λ (xs : List ℕ). c.args.e.0 < length xs) (sym here) (subst (λ (n : ℕ). c.args.e.0 < n) (sym is.numbers.edge_count) low) in
    c.nth_number.ensures long ∙ ap (λ (xs : List ℕ). Some (slice_index xs c.args.e.0)) here ∙ ap Some (is.numbers.numbers_are (AnEdge c.args.e.0) low kept)
