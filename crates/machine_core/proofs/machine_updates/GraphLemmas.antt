-- What a machine holds of the graph, where data, rows and numbers of edges alone have changed.
use Rattle.std.proofs.Common.{◌≡◌, ℕ, ◌<◌, ◌==◌, true, List, length, get_or, sym, ap, ◌∙◌, subst, All}
use Rattle.std.specs.Prelude.{slice_get, is_some}
use Rattle.gl_base.specs.declared.numbers.MachineNo.{MachineNo}
use Rattle.gl_base.specs.declared.numbers.Vertex.{Vertex}
use Rattle.local_graph.specs.declared.sides.Side.{Side}
use Rattle.partition.specs.machine_numbers.Steps.{IsSideHere}
use Rattle.machine_core.specs.declared.machine_parts.cores.Core.{Core}
use Rattle.machine_core.specs.machine_parts.Parts.{LocalView, place_at, is_own, row_at, sides_at, parts_at, part_at}
use Rattle.machine_core.specs.machine_parts.Order.{IsGraphInOrder, is_one_of}

-- there are as many numbers of edges
abbrev pub HasSameEdges : Core → Core → Type 0
HasSameEdges old new = length new.numbers.local.numbers ≡ length old.numbers.local.numbers

pub record SameGraph (old new : LocalView) : Type 0 where
  pub own : (x : ℕ) → is_own new x ≡ is_own old x
  pub rest : new ≡ record old { kept = new.kept; rows = new.rows; numbers = new.numbers }

module _ (old new : LocalView) (same : SameGraph old new) where
  pub place_kept : (v : ℕ) → place_at new v ≡ place_at old v
  place_kept v = ap (λ (l : LocalView). place_at l v) same.rest

  pub sides_kept : (v : ℕ) → sides_at new v ≡ sides_at old v
  sides_kept v = ap (λ (l : LocalView). sides_at l v) same.rest

  pub row_kept : (v : ℕ) → row_at new v ≡ row_at old v
  row_kept v = ap (λ (l : LocalView). row_at l v) same.rest

  pub parts_kept : (v : ℕ) → parts_at new v ≡ parts_at old v
  parts_kept v = ap (λ (l : LocalView). parts_at l v) same.rest

  pub part_kept : (v : ℕ) → part_at new v ≡ part_at old v
  part_kept v = ap (λ (l : LocalView). part_at l v) same.rest

  pub me_kept : new.me ≡ old.me
  me_kept = ap (λ (l : LocalView). l.me) same.rest

  pub ghosts_kept : new.ghosts ≡ old.ghosts
  ghosts_kept = ap (λ (l : LocalView). l.ghosts) same.rest

  own_before : (v : ℕ) → is_own new v ≡ true → is_own old v ≡ true
  own_before v own = sym (same.own v) ∙ own

  pub graph_kept : (machines : ℕ) → IsGraphInOrder old machines → IsGraphInOrder new machines
  graph_kept machines g =
      let vertex : (v i : ℕ) → slice_get (part_at old v) i ≡ slice_get (part_at new v) i = λ v i. ap (λ (p : List Vertex). slice_get p i) (sym (part_kept v)) in
      let machine : (v i : ℕ) → slice_get (parts_at old v) i ≡ slice_get (parts_at new v) i = λ v i. ap (λ (p : List MachineNo). slice_get p i) (sym (parts_kept v)) in
      record {
        me = subst (λ (a : MachineNo). a.0 < machines) (sym me_kept) g.me;
        own = λ v i x e. same.own x.0 ∙ g.own v i x (vertex v i ∙ e);
        ascend = λ v i j x y e f. g.ascend v i j x y (vertex v i ∙ e) (vertex v j ∙ f);
        self = λ v own. ap (λ (p : List Vertex). is_one_of p v) (part_kept v) ∙ g.self v (own_before v own);
        some = λ v own. ap (λ (p : List MachineNo). is_some (slice_get p 0)) (parts_kept v) ∙ g.some v (own_before v own);
        within = λ v i b own e. g.within v i b (own_before v own) (machine v i ∙ e);
        apart = λ v i j b c own e f. g.apart v i j b c (own_before v own) (machine v i ∙ e) (machine v j ∙ f);
      }

  side_kept : (s : Side) → IsSideHere old s → IsSideHere new s
  side_kept s here =
      record {
        place = place_kept s.other.0 ∙ here.place;
        own = λ mine. same.own s.other.0 ∙ here.own (ap (λ (a : MachineNo). s.owner.0 == a.0) (sym me_kept) ∙ mine);
      }

  pub sides_here : (v : ℕ) → All (IsSideHere old) (sides_at old v) → All (IsSideHere new) (sides_at new v)
  sides_here v all = subst (All (IsSideHere new)) (sym (sides_kept v)) (λ k d low. side_kept (get_or (sides_at old v) k d) (all k d low))
