-- One end after another.
use Rattle.std.proofs.Common.{◌≡◌, ◌<◌, ℕ, List, length, get_or, refl, sym, ap, ◌∙◌, subst, inl, inr}
use Rattle.std.proofs.lemmas.List.{get_or-map, length-map}
use Rattle.gl_base.specs.declared.numbers.Vertex.{Vertex}
use Rattle.local_graph.specs.declared.sides.Side.{Side}
use Rattle.partition.specs.declared.machine_numbers.keeping.Numbers.{Numbers}
use Rattle.machine_core.specs.color_parts.Enlisting.{ends_of, place_at}
use Rattle.machine_core.proofs.color_parts.EnlistLemmas.{enlisted_more, enlisted_none}
use Rattle.machine_core.proofs.color_parts.enlisting.enlist_along.Goals as goal

end_at : (sides : List Side) (i : ℕ) (d : Vertex) (e : Side) → i < length sides → (get_or sides i e).other ≡ get_or (ends_of sides) i d
end_at sides i d e low = sym (get_or-map (λ (s : Side). s.other) sides i e d low)

ends_low : (sides : List Side) (i : ℕ) → i < length sides → i < length (ends_of sides)
ends_low sides i low = subst (λ (n : ℕ). i < n) (sym (length-map sides (λ (s : Side). s.other))) low

same_place : (n : Numbers) (sides : List Side) (i : ℕ) (e : Side) → i < length sides → place_at n.local (get_or sides i e).other.0 ≡ place_at n.local (get_or (ends_of sides) i (record { 0 = 0 })).0
same_place n sides i e low = ap (λ (w : Vertex). place_at n.local w.0) (end_at sides i (record { 0 = 0 }) e low)

pub loop-place-init : goal.loop-place-init
loop-place-init c = record { colours = refl; enlisted = enlisted_none c.args.which c.args.numbers.now c.args.lines.now (ends_of c.args.sides.now) }

pub loop-place-preserved : goal.loop-place-preserved
loop-place-preserved c =
    let e = c.enlist.ensures in
    let kept = c.loop-place.invariant in
    let i = c.loop-place.place in
    let sides = c.args.sides.now in
    record {
      colours = e.colours ∙ kept.colours;
      enlisted = enlisted_more c.args.which c.args.numbers.now c.args.lines.now c.loop-place.lines c.enlist.new.lines (ends_of sides) i (ends_low sides i c.loop-place-test.true) kept.enlisted e.kept
          (λ u now. elim (e.free u now) [
            | inl was ↦ inl was
            | inr both ↦ inr (sym (same_place c.args.numbers.now sides i _ c.loop-place-test.true) ∙ both.0, both.1)
          ])
          (λ k at inside is. e.there k (same_place c.args.numbers.now sides i _ c.loop-place-test.true ∙ at) inside is);
    }
