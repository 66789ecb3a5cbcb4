use Rattle.std.proofs.Common.{◌≡◌, ◌<◌, ◌≤◌, ◌+◌, ◌∙◌, ℕ, Some, List, length, ap, sym, subst, arith}
use Rattle.std.specs.Prelude.{slice_get, slice_index_or}
use Rattle.std.proofs.lemmas.List.{length-set}
use Rattle.std.proofs.lemmas.Option.{slice_get-get_or}
use Rattle.gl_base.specs.declared.numbers.Vertex.{Vertex}
use Rattle.placement.proofs.places.PlaceLemmas.{StandSoFar, has_place, place_low, stand_all, stand_more}
use Rattle.placement.proofs.places.places.vertices_by_place.Goals as goal
use Rattle.placement.proofs.places.places.vertices_by_place.Goals.{in-Some, in_default}

listed : (l : List Vertex) (owned : List Vertex) (i : ℕ) (d : Vertex) → l ≡ owned → i < length l → slice_get owned i ≡ Some (slice_index_or l i d)
listed l owned i d same low = subst (λ (vs : List Vertex). slice_get vs i ≡ Some (slice_index_or l i d)) same (slice_get-get_or l i d low)

pub index_mut-requires : goal.index_mut-requires
index_mut-requires c =
    subst (λ (n : ℕ). c.in-Some.place < n) (sym c.loop-v.vertices.ok.0)
    (place_low c.args.local.now c.loop-v.vertices.items c.loop-v.v-index c.in-Some.place _ c.requires c.loop-v.invariant.many
    (listed c.owned-v-items.result.now c.args.local.now.owned c.loop-v.v-index (record { 0 = 0 }) c.owned-v-items.ensures c.loop-v-test.true) (sym c.place.ensures ∙ c.in-Some.is))

pub loop-v-preserved : goal.loop-v-preserved
loop-v-preserved c =
    let at = listed c.owned-v-items.result.now c.args.local.now.owned c.loop-v.v-index (record { 0 = 0 }) c.owned-v-items.ensures c.loop-v-test.true in
    elim c.match-place.branch [
      | in-Some w ↦
          let is = ap (λ v. v.items) w.vertices-is in
          record {
            many = ap length is ∙ length-set c.loop-v.vertices.items w.in-Some.place _ ∙ c.loop-v.invariant.many;
            stand =
                subst (λ (vs : List Vertex). StandSoFar c.args.local.now vs (c.loop-v.v-index + 1)) (sym is)
                (stand_more c.args.local.now c.loop-v.vertices.items c.loop-v.v-index w.in-Some.place _ c.requires c.loop-v.invariant.many at (sym c.place.ensures ∙ w.in-Some.is) c.loop-v.invariant.stand);
          }
      | in_default w ↦ absurd (has_place c.args.local.now c.loop-v.v-index _ c.requires at (sym c.place.ensures ∙ w.in_default.is))
    ]

pub returns : goal.returns
returns c =
    let past = subst (λ (vs : List Vertex). length vs ≤ c.loop-v.v-index) c.owned-v-items.ensures c.loop-v-test.false in
    stand_all c.args.local.now c.loop-v.vertices.items c.requires c.loop-v.invariant.many
    (λ j w k below. c.loop-v.invariant.stand j w k (omega (arith, below, past)))
