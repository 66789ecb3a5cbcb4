use Rattle.std.proofs.Common.{◌≡◌, ℕ, true, false, List, [], length, get_or, sym, ap, ◌∙◌, below_more, arith}
use Rattle.std.proofs.lemmas.Bool.{eqb-true}
use Rattle.std.proofs.lemmas.List.{length-map}
use Rattle.gl_base.specs.declared.numbers.Vertex.{Vertex}
use Rattle.graph_core.specs.Growth.{numbers_of, listed_after}
use Rattle.graph_core.specs.Inner.GrowthMarks.{AreMarks, IsNextSeed}
use Rattle.graph_core.proofs.GrowthLemmas.{seeded-first, seeded-later, AreMarks-none, ListsEach-from_marks, growth_order-from_marks}
use Rattle.graph_core.proofs.growing.list_all.Goals as goal

count : (listed : List Vertex) → length (numbers_of listed) ≡ length listed
count listed = length-map listed (λ (v : Vertex). v.0)

pub list_from-requires-clause-marks : goal.list_from-requires-clause-marks
list_from-requires-clause-marks c =
    rw (c.requires.none, c.requires.blank) (AreMarks-none (length c.args.marks.now))

-- without vertices nothing is to be listed
pub returns-then-is_empty-clause-each : goal.returns-then-is_empty-clause-each
returns-then-is_empty-clause-each c =
    let empty : length c.args.marks.now ≡ 0 = eqb-true (length c.args.marks.now) 0 (sym c.is_empty.ensures ∙ c.if-is_empty.true) in
    let are : AreMarks (numbers_of c.args.listed.now.items) c.args.marks.now = rw (c.requires.none, c.requires.blank) (AreMarks-none (length c.args.marks.now)) in
    ListsEach-from_marks c.args.graph.now (numbers_of c.args.listed.now.items) c.args.marks.now are c.requires.room (λ v h. absurd (omega arith))

pub loop-v-init : goal.loop-v-init
loop-v-init c =
    let first = c.args.first.0 in
    let none : numbers_of c.args.listed.now.items ≡ [] = ap numbers_of c.requires.none in
    let next : IsNextSeed c.args.graph.now first first (numbers_of c.args.listed.now.items) c.args.marks.now = record {
      grown = none ∙ sym (ap (λ (vs : List ℕ). listed_after c.args.graph.now first (length vs)) none);
      next = λ _. seeded-first c.args.graph.now first (numbers_of c.args.listed.now.items) none;
    } in
    record {
      marks = c.in_ok-list_from.ensures.marks;
      grown = c.in_ok-list_from.ensures.grown first next;
      first = c.in_ok-list_from.ensures.seed;
      before = λ u h. absurd (omega arith);
    }

pub loop-v-preserved : goal.loop-v-preserved
loop-v-preserved c =
    let g = c.args.graph.now in
    let first = c.args.first.0 in
    let listed = numbers_of c.loop-v.listed.items in
    let room : length c.loop-v.marks ≡ length c.args.marks.now = omega arith in
    let next : IsNextSeed g first c.loop-v.v listed c.loop-v.marks = record {
      grown = c.loop-v.invariant.grown ∙ ap (listed_after g first) (sym (count c.loop-v.listed.items));
      next = λ new. seeded-later g first listed c.loop-v.marks c.loop-v.v c.loop-v.invariant.marks (room ∙ c.requires.room) (omega (arith, c.n-v-end.ensures.count, c.requires.room)) (omega (arith, c.requires.first, c.requires.room, c.n-v-end.ensures.count)) c.loop-v.invariant.first c.loop-v.invariant.before new;
    } in
    record {
      marks = c.in_ok-list_from-2.ensures.marks;
      grown = c.in_ok-list_from-2.ensures.grown first next;
      first = c.in_ok-list_from-2.ensures.kept first c.loop-v.invariant.first;
      before = below_more (λ u. get_or c.list_from-in-loop-v.new.marks u false ≡ true) c.loop-v.v (λ u h. c.in_ok-list_from-2.ensures.kept u (c.loop-v.invariant.before u h)) c.in_ok-list_from-2.ensures.seed;
    }

pub returns-clause-order : goal.returns-clause-order
returns-clause-order c =
    let g = c.args.graph.now in
    let room : length c.loop-v.marks ≡ length c.args.marks.now = omega arith in
    growth_order-from_marks g c.args.first.0 (numbers_of c.loop-v.listed.items) c.loop-v.marks c.loop-v.invariant.marks (room ∙ c.requires.room)
    (λ v h. c.loop-v.invariant.before v (omega (arith, c.n-v-end.ensures.count, c.requires.room)))
    (c.loop-v.invariant.grown ∙ ap (listed_after g c.args.first.0) (sym (count c.loop-v.listed.items)))

pub returns-clause-each : goal.returns-clause-each
returns-clause-each c =
    let room : length c.loop-v.marks ≡ length c.args.marks.now = omega arith in
    ListsEach-from_marks c.args.graph.now (numbers_of c.loop-v.listed.items) c.loop-v.marks c.loop-v.invariant.marks (room ∙ c.requires.room)
    (λ v h. c.loop-v.invariant.before v (omega (arith, c.n-v-end.ensures.count, c.requires.room)))
