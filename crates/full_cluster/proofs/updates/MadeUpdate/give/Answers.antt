use Rattle.std.proofs.Common.{◌≡◌, ◌∙◌, ◌+◌, ◌<◌, ℕ, List, [], ◌∷◌, ◌++◌, length, map, take, eq-eqb, ne_eqb, refl, sym, subst, arith}
use Rattle.std.proofs.lemmas.Grind.{get_or_default_zero}
use Rattle.std.proofs.lemmas.List.{take_all, take_more}
use Rattle.graph_core.specs.declared.halves.Half.{Half}
use Rattle.graph_core.specs.DataGraph.{DataGraph, size}
use Rattle.graph_core.specs.HalfRows.{data_half}
use Rattle.graph_core.specs.Halves.{halves_of}
use Rattle.seq_run.specs.Inner.Waking.{is_woken_along}
use Rattle.seq_run.specs.States.{GraphState}
use Rattle.full_scope.specs.FullStates.{after_full}
use Rattle.full_cluster.specs.declared.giving.FullGift.{FullGift}
use Rattle.full_cluster.specs.Given.{IsWithin}
use Rattle.full_cluster.specs.Owners.{owner_in}
use Rattle.full_cluster.specs.Inner.Giving.{IsAdded, IsGivenAlong}
use Rattle.full_cluster.specs.Inner.Making.{IsMade}
use Rattle.full_cluster.specs.Inner.Rows.{no_half, nth_half}
use Rattle.full_cluster.proofs.GivingLemmas.{gift_is, given_more, given_same}
use Rattle.full_cluster.proofs.UpdateLemmas.{edge_there, edges_low, ends_low, many_are, near_there}
use Rattle.full_cluster.proofs.updates.MadeUpdate.give.Goals as goal
use Rattle.full_cluster.proofs.updates.MadeUpdate.give.Goals.{then-owner_of-to+in_ok-add_half, else-owner_of-to}

pub owner_of-requires : goal.owner_of-requires
owner_of-requires c =
    let d = c.args.division.now in
    ends_low d.graph.now d.built c.args.v.0 c.halves-halves.result.now c.halves-halves.ensures _ c.loop-i.i refl c.loop-i-test.true

pub loop-i-preserved : goal.loop-i-preserved
loop-i-preserved c =
    let d = c.args.division.now in
    let g = d.graph.now in
    let made = c.args.self.now in
    let owner : ℕ → ℕ = owner_in d.owner.now in
    let q = c.args.to.0 in
    let v = c.args.v.0 in
    let halves = c.halves-halves.result.now in
    let same = c.halves-halves.ensures in
    let i = c.loop-i.i in
    let inside = c.loop-i-test.true in
    let h : Half = nth_half halves i in
    let old = c.loop-i.gift in
    let new = c.if-owner_of-to.gift in
    let many = many_are g d.built v halves same in
    let long = c.requires.row in
    let first : i < length made.row.items = omega (arith, inside, many, long) in
    let second : length halves + i < length made.row.items = omega (arith, inside, many, long) in
    let low_end = ends_low g d.built v halves same _ i refl inside in
    let low_edge = edges_low g d.built v halves same _ i refl inside in
    let more : take (i + 1) halves ≡ take i halves ++ h ∷ [] = take_more halves i no_half inside in
    elim c.if-owner_of-to.branch [
      | then-owner_of-to+in_ok-add_half w ↦
          let near : (s : GraphState) → IsMade g s v made.centre made.row.items → w.index.result.now ≡ s.vertex h.other.0 = λ s is.
          w.index.ensures ∙ get_or_default_zero made.row.items i w.index.result.now first ∙ near_there g d.built v halves same s made.centre made.row.items is i inside in
          let edge : (s : GraphState) → IsMade g s v made.centre made.row.items → w.index-then-owner_of-to.result.now ≡ s.edge h.edge.0 = λ s is.
          w.index-then-owner_of-to.ensures ∙ get_or_default_zero made.row.items (length halves + i) w.index-then-owner_of-to.result.now second ∙ edge_there g d.built v halves same s made.centre made.row.items is i inside in
          let any : GraphState = record { vertex = λ x. w.index.result.now; edge = λ e. w.index-then-owner_of-to.result.now } in
          let added : (s : GraphState) → IsMade g s v made.centre made.row.items → IsAdded s h (is_woken_along made.woken h.out) old new = λ s is.
          subst (λ (x : FullGift). IsAdded s h (is_woken_along made.woken h.out) old x) (sym w.gift-is)
          (subst (λ along. IsAdded s h along old w.add_half.new.gift) w.is_woken_along-is_woken.ensures (w.in_ok-add_half.ensures s (near s is) (edge s is))) in
          record {
            given = λ s is.
                subst (λ (hs : List Half). IsGivenAlong owner q made.woken s hs new) (sym more)
                (given_more owner q made.woken s (take i halves) h old new (eq-eqb (owner h.other.0) q (sym c.owner_of.ensures ∙ w.if-owner_of-to.true)) (c.loop-i.invariant.given s is) (added s is));
            within = subst (IsWithin (size g) (length g.edges)) (sym w.gift-is) ((w.in_ok-add_half.ensures any refl refl).within (size g) (length g.edges) low_end low_edge c.loop-i.invariant.within);
          }
      | else-owner_of-to w ↦
          record {
            given = λ s is.
                subst (λ (x : FullGift). IsGivenAlong owner q made.woken s (take (i + 1) halves) x) (sym w.gift-is)
                (subst (λ (hs : List Half). IsGivenAlong owner q made.woken s hs old) (sym more)
                (given_same owner q made.woken s (take i halves) h old (ne_eqb (owner h.other.0) q (λ at. w.if-owner_of-to.false (c.owner_of.ensures ∙ at))) (c.loop-i.invariant.given s is)));
            within = subst (IsWithin (size g) (length g.edges)) (sym w.gift-is) c.loop-i.invariant.within;
          }
    ]

pub returns-clause-given : goal.returns-clause-given
returns-clause-given c = λ st p lent given made wakes.
    let d = c.args.division.now in
    let v = c.args.v.0 in
    let halves = c.halves-halves.result.now in
    let after : GraphState = after_full st.graph p lent v in
    let here : IsMade d.graph.now after v c.args.self.now.centre c.args.self.now.row.items = subst (λ (h : DataGraph). IsMade h after v c.args.self.now.centre c.args.self.now.row.items) given.graph made in
    gift_is st given.setting v c.args.to.0 (λ same. c.requires.other ((λ k. sym given.owners k v) ∙ same)) p lent (owner_in d.owner.now) c.args.self.now.woken halves c.loop-i.gift given.owners
    (subst (λ (h : DataGraph). map data_half halves ≡ halves_of h v) (sym given.graph) c.halves-halves.ensures) wakes
    (subst (λ (hs : List Half). IsGivenAlong (owner_in d.owner.now) c.args.to.0 c.args.self.now.woken after hs c.loop-i.gift) (take_all c.loop-i.i halves c.loop-i-test.false) (c.loop-i.invariant.given after here))
