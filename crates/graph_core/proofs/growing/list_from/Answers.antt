use Rattle.std.proofs.Common.{◌≡◌, ◌<◌, ◌≤◌, ◌++◌, ◌∷◌, [], ℕ, List, length, sym, ap, ◌∙◌, arith}
use Rattle.std.proofs.lemmas.List.{length-map}
use Rattle.gl_base.specs.declared.numbers.Vertex.{Vertex}
use Rattle.graph_core.specs.Growth.{numbers_of, listed_after}
use Rattle.graph_core.proofs.GrowthMarks.{one_unlisted}
use Rattle.graph_core.proofs.GrowthLemmas.{IsGrowing-seeded, IsGrowing-more, grown_length, listed-le}
use Rattle.graph_core.proofs.growing.list_from.Goals as goal

count : (listed : List Vertex) → length (numbers_of listed) ≡ length listed
count listed = length-map listed (λ (v : Vertex). v.0)

pub queue-init : goal.queue-init
queue-init c =
    let g = c.args.graph.now in
    let old = numbers_of c.args.listed.now.items in
    let place = c.len-place.result in
    let at : place ≡ length old = omega (arith, c.len-place.ensures, count c.args.listed.now.items) in
    let is : numbers_of c.list_one.new.listed.items ≡ old ++ c.args.seed.0 ∷ [] =
    c.in_ok-list_one.ensures.listed ∙ ap (λ (vs : List ℕ). old ++ vs) (one_unlisted old c.args.marks.now c.args.seed.0 _ c.requires.marks c.requires.inside c.if-marks-seed.false) in
    record {
      growing = λ first next. IsGrowing-seeded g first old (numbers_of c.list_one.new.listed.items) c.args.seed.0 place at (next.grown ∙ ap (listed_after g first) (sym at)) (next.next c.if-marks-seed.false) is;
      marks = c.in_ok-list_one.ensures.marks;
      kept = c.in_ok-list_one.ensures.kept;
      seed = c.in_ok-list_one.ensures.marked;
    }

pub queue-preserved : goal.queue-preserved
queue-preserved c =
    let listed = numbers_of c.queue.listed.items in
    let inside : c.queue.place < length listed = omega (arith, count c.queue.listed.items, c.len.ensures, c.queue-test.true) in
    record {
      growing = λ first next. IsGrowing-more c.args.graph.now first listed (numbers_of c.list_around.new.listed.items) c.queue.place (c.queue.invariant.growing first next) inside c.in_ok-list_around.ensures.listed;
      marks = c.in_ok-list_around.ensures.marks;
      kept = λ v was. c.in_ok-list_around.ensures.kept v (c.queue.invariant.kept v was);
      seed = c.in_ok-list_around.ensures.kept c.args.seed.0 c.queue.invariant.seed;
    }

pub queue-smaller : goal.queue-smaller
queue-smaller c =
    omega (arith, listed-le (numbers_of c.queue.listed.items) c.queue.marks c.queue.invariant.marks, count c.queue.listed.items)

pub returns-clause-grown : goal.returns-clause-grown
returns-clause-grown c = λ first next.
    let g = c.args.graph.now in
    let listed = numbers_of c.queue.listed.items in
    let all : length listed ≤ c.queue.place = omega (arith, count c.queue.listed.items, c.queue-test.false) in
    grown_length g first listed c.queue.place (c.queue.invariant.growing first next) all ∙ ap (listed_after g first) (count c.queue.listed.items)
