use Rattle.std.proofs.Common.{List, ◌≡◌, ◌+◌, ◌++◌, [], ◌∷◌, ◌∙◌, ℕ, length, subst, sym, ap}
use Rattle.std.proofs.lemmas.Iterator.Adapters.{YieldsList-from_vec}
use Rattle.std.proofs.lemmas.Iterator.Consumers.{YieldsList-turn}
use Rattle.std.proofs.lemmas.List.{length-append}
use Rattle.gl_base.specs.declared.atoms.GhostLine.{GhostLine}
use Rattle.gl_base.specs.declared.atoms.VertexLine.{VertexLine}
use Rattle.placement.specs.graphs.Inner.Making.{AreAllMade, IsMadeOf, IsPartBy, graph_halves}
use Rattle.placement.proofs.graphs.PartLemmas.{made_more}
use Rattle.placement.proofs.graphs.parts.make_all.Goals as goal

pub loop-lines-preserved : goal.loop-lines-preserved
loop-lines-preserved c =
    let gives = c.into_iter-lines-iterator.ensures.into_iter_gives in
    let turn =
    YieldsList-turn (YieldsList-from_vec {s = c.into_iter-lines-iterator.result} c.args.all.items gives.0 (gives.1 ∙ c.args.all.ok.0))
    c.loop-lines.yielded c.loop-lines.lines-iterator c.loop-lines.yielded_by c.next.result c.next.new.self c.in-Some.lines c.in-Some.is c.next.ensures.steps in
    let x = c.in_ok-of.field-0 in
    let k = length c.loop-lines.yielded in
    let me : c.len-in-loop-lines.result ≡ k = c.len-in-loop-lines.ensures ∙ c.loop-lines.locals.ok.0 ∙ c.loop-lines.invariant.count in
    let h = c.in_ok-of.ensures in
    let g = c.args.graph.now in
    let m = c.args.machines in
    let lines = c.in-Some.lines in
    let pushed : c.push.new.self.items ≡ c.loop-lines.locals.items ++ x ∷ [] = c.in_ok-push.ensures.items in
    let made : IsPartBy g m (record { 0 = k }) lines x =
    subst (λ (n : ℕ). IsPartBy g m (record { 0 = n }) lines x) me
    (subst (λ (gs : List GhostLine). IsMadeOf (record { 0 = c.len-in-loop-lines.result }) lines.vertices.items gs (graph_halves g) m (length g.edges) x) c.deref-in-loop-lines.ensures.value
    (subst (λ (vs : List VertexLine). IsMadeOf (record { 0 = c.len-in-loop-lines.result }) vs c.deref-in-loop-lines.result.now (graph_halves g) m (length g.edges) x) c.deref.ensures.value h)) in
    record {
      count = ap length pushed ∙ length-append c.loop-lines.locals.items (x ∷ []) ∙ ap (λ (n : ℕ). n + 1) c.loop-lines.invariant.count ∙ sym (length-append c.loop-lines.yielded (lines ∷ []));
      made =
          subst (AreAllMade g m c.args.all.items) (sym pushed)
          (made_more g m c.args.all.items c.loop-lines.locals.items x lines k c.loop-lines.invariant.count turn.0 turn.1 made c.loop-lines.invariant.made);
    }
