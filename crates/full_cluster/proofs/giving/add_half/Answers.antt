use Rattle.std.proofs.Common.{◌≡◌, ◌∙◌, ◌<◌, ◌==◌, ◌&&◌, ◌||◌, ℕ, Bool, true, false, if◌then◌else◌, List, [], ◌∷◌, ◌++◌, All, append-nil, sym, ap, subst}
use Rattle.std.proofs.lemmas.List.Elements.{All-push}
use Rattle.std.proofs.lemmas.List.Folds.{list_any-append}
use Rattle.gl_base.specs.declared.numbers.EdgeNo.{EdgeNo}
use Rattle.gl_base.specs.declared.numbers.Vertex.{Vertex}
use Rattle.seq_run.specs.States.{GraphState}
use Rattle.graph_core.specs.declared.halves.Half.{Half}
use Rattle.full_cluster.specs.declared.giving.FullGift.{FullGift}
use Rattle.full_cluster.specs.Given.{edge_after, is_listed, vertex_after}
use Rattle.full_cluster.specs.Inner.Giving.{IsAdded}
use Rattle.full_cluster.proofs.GivenLemmas.{after_append, edge_after_append}
use Rattle.full_cluster.proofs.GivingLemmas.{none_more, or_turned}
use Rattle.full_cluster.proofs.giving.add_half.Goals as goal

-- one vertex more, if this says so
abbrev with_one : List Vertex → Bool → Vertex → List Vertex
with_one list one x = list ++ (if one then x ∷ [] else [])

listed_one : (list : List Vertex) (one : Bool) (x : Vertex) (u : ℕ) → is_listed (with_one list one x) u ≡ ((one && x.0 == u) || is_listed list u)
listed_one list true x u = list_any-append (λ (y : Vertex). y.0 == u) list (x ∷ []) ∙ ap (λ b. is_listed list u || b) (none_more (x.0 == u)) ∙ or_turned (is_listed list u) (x.0 == u)
listed_one list false x u = ap (λ l. is_listed l u) (append-nil list)

all_one : (list : List Vertex) (one : Bool) (x : Vertex) (n : ℕ) → x.0 < n → All (λ (y : Vertex). y.0 < n) list → All (λ (y : Vertex). y.0 < n) (with_one list one x)
all_one list true x n low all = All-push (λ (y : Vertex). y.0 < n) list x all low
all_one list false x n low all = subst (All (λ (y : Vertex). y.0 < n)) (sym (append-nil list)) all

added_one : (s : GraphState) (half : Half) (is_woken : Bool) (number mark : ℕ) (old new : FullGift) → number ≡ s.vertex half.other.0 → mark ≡ s.edge half.edge.0 → new.numbers.items ≡ old.numbers.items ++ (half.other, number) ∷ [] →
    new.edges.items ≡ old.edges.items ++ (half.edge, mark) ∷ [] → new.wakes.items ≡ with_one old.wakes.items is_woken half.other → IsAdded s half is_woken old new
added_one s half is_woken number mark old new its its_edge numbers edges wakes =
    record {
      vertices = λ x here.
          ap (λ (ps : List (Vertex × ℕ)). vertex_after ps x here) numbers ∙ after_append old.numbers.items half.other number x here
          ∙ ap (λ n. if half.other.0 == x then n else vertex_after old.numbers.items x here) its;
      edges = λ e here.
          ap (λ (ps : List (EdgeNo × ℕ)). edge_after ps e here) edges ∙ edge_after_append old.edges.items half.edge mark e here
          ∙ ap (λ n. if half.edge.0 == e then n else edge_after old.edges.items e here) its_edge;
      wakes = λ u. ap (λ (l : List Vertex). is_listed l u) wakes ∙ listed_one old.wakes.items is_woken half.other u;
      within = λ n m low low_edge is. record {
        numbers = subst (All (λ (pair : Vertex × ℕ). pair.0.0 < n)) (sym numbers) (All-push (λ (pair : Vertex × ℕ). pair.0.0 < n) old.numbers.items (half.other, number) is.numbers low);
        edges = subst (All (λ (pair : EdgeNo × ℕ). pair.0.0 < m)) (sym edges) (All-push (λ (pair : EdgeNo × ℕ). pair.0.0 < m) old.edges.items (half.edge, mark) is.edges low_edge);
        wakes = subst (All (λ (u : Vertex). u.0 < n)) (sym wakes) (all_one old.wakes.items is_woken half.other n low is.wakes);
      };
    }

pub returns-in_ok-push-3 : goal.returns-in_ok-push-3
returns-in_ok-push-3 c = λ s number mark.
    let half = c.args.half.now in
    let old = c.args.gift.now in
    added_one s half c.args.is_woken c.args.number c.args.mark old _ number mark c.in_ok-push.ensures.items c.in_ok-push-2.ensures.items
    (c.in_ok-push-3.ensures.items ∙ ap (λ one. with_one old.wakes.items one half.other) (sym c.if-is_woken.true))

pub returns-else-is_woken : goal.returns-else-is_woken
returns-else-is_woken c = λ s number mark.
    let half = c.args.half.now in
    let old = c.args.gift.now in
    added_one s half c.args.is_woken c.args.number c.args.mark old _ number mark c.in_ok-push.ensures.items c.in_ok-push-2.ensures.items
    (sym (append-nil old.wakes.items) ∙ ap (λ one. with_one old.wakes.items one half.other) (sym c.if-is_woken.false))
