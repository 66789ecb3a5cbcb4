use Rattle.graph_atoms.proofs.atom_place.falling.by_falling_weight.Goals as goal
use Rattle.std.proofs.Common.{map, ap, sym, subst, ◌∙◌}
use Rattle.std.proofs.lemmas.Result.{IfOk-weaker}
use Rattle.graph_atoms.specs.atom_place.Placing.{IsFalling}
use Rattle.graph_atoms.proofs.atom_place.FallingLemmas.{IsFalling-from_sorted}

pub returns : goal.returns
returns c =
    let falling = IsFalling-from_sorted c.args.weights.now c.in_ok-ranks.ranks.items c.sort_unstable.new.self.items c.in_ok-ranks.ensures c.sort_unstable.ensures.permutation c.sort_unstable.ensures.sorted in
    IfOk-weaker c.atoms_of.result _ _ (λ order is. subst (IsFalling c.args.weights.now) (sym (is ∙ ap (map (λ r. r.atom)) c.deref.ensures.value)) falling) c.atoms_of.ensures
