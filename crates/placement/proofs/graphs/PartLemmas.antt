-- What machines hold that were made from a graph.
use Rattle.std.proofs.Common.{◌≡◌, ◌<◌, ◌≤◌, ℕ, ◌+◌, ◌∷◌, ◌++◌, ◌∙◌, true, false, Option, Some, None, is_some, List, [], length, get_or, replicate, All, ap, sym, subst, refl, inl, inr, slice_index, Result, Ok, Err, IfOk, zero-add, arith}
use Rattle.std.specs.List.{range_with_len}
use Rattle.std.proofs.lemmas.Bool.{cases_lt}
use Rattle.std.proofs.lemmas.Grind.{same_number_lists}
use Rattle.std.proofs.lemmas.List.{length-append, length-map, length-replicate, get_or_default, get_or-map, get_or-replicate, get_or_past, get_or_push}
use Rattle.std.proofs.Math.ListN.{get_or-append}
use Rattle.std.proofs.lemmas.List.FromFn.{get_or-map-range_with_len, length-range_with_len}
use Rattle.std.proofs.lemmas.List.Sorted.{length_permutation}
use Rattle.std.proofs.lemmas.Option.{slice_get-get_or, slice_get_past}
use Rattle.gl_base.specs.declared.atoms.Lines.{Lines}
use Rattle.gl_base.specs.declared.atoms.VertexLine.{VertexLine}
use Rattle.gl_base.specs.declared.numbers.AtomNo.{AtomNo}
use Rattle.gl_base.specs.declared.numbers.MachineNo.{MachineNo}
use Rattle.gl_base.specs.declared.scopes.Datum.{Datum}
use Rattle.graph_core.specs.DataGraph.{DataGraph, IsDataGraph, size}
use Rattle.graph_atoms.specs.atom_cut.Atoms.{AreAtomVertices, graph_atom}
use Rattle.update_api.specs.declared.woken.Woken.TheVariants.{Nobody}
use Rattle.cluster_laws.specs.cluster_core.Settings.{IsSetting, Locking}
use Rattle.local_graph.specs.Locals.{got_at, place_at}
use Rattle.partition.specs.local_parts.Parts.{AreVerticesOf, graph_halves, owner_numbers}
use Rattle.partition.proofs.local_parts.MineLemmas.{few_lines, ghost_lines_are, lists_of_graph, own_lines}
use Rattle.partition.proofs.local_parts.ScopeLemmas.{part_of_graph}
use Rattle.placement.specs.graphs.Placed.{Setting, LocalView, AreUnsetParts, IsOwnedBy, IsUnsetPart, atom_numbers, no_datum}
use Rattle.placement.specs.graphs.Inner.Making.{AreAllMade, AreAllOfGraph, IsPartBy}

-- some setting with this graph and these owners
abbrev pub setting_with : DataGraph → ℕ → (ℕ → ℕ) → Setting
setting_with g machines owner =
    record {
      graph = g;
      program = record { start = λ id. 0; number = λ own nears. 0; mark = λ own near. 0; woken = λ old new. Nobody };
      owner = owner;
      machines = machines;
      pipeline = 1;
      engine = Locking;
      stored = false;
      window = 1;
      start = record { vertex = λ v. 0; edge = λ e. 0 };
      base = 0;
    }

-- ---- what a machine holds that was made from its lines

no_some : false ≡ true → ⊥
no_some e = cc

unset_there : (kept : List Datum) (n : ℕ) (o : Option ℕ) → kept ≡ replicate n no_datum → is_some (got_at kept o) ≡ true → got_at kept o ≡ Some no_datum
unset_there kept n None is own = absurd (no_some own)
unset_there kept n (Some k) is own =
    elim (cases_lt k (length kept)) [
      | inl low ↦
          let inside : k < n = subst (λ (m : ℕ). k < m) (ap length is ∙ length-replicate n no_datum) low in
          slice_get-get_or kept k no_datum low ∙ ap Some (ap (λ (xs : List Datum). get_or xs k no_datum) is ∙ get_or-replicate n k no_datum no_datum inside)
      | inr past ↦ absurd (no_some (sym (ap is_some (slice_get_past kept k past)) ∙ own))
    ]

pub zero_there : (numbers : List ℕ) (n e : ℕ) → numbers ≡ replicate n 0 → get_or numbers e 0 ≡ 0
zero_there numbers n e is =
    elim (cases_lt e n) [
      | inl low ↦ ap (λ (xs : List ℕ). get_or xs e 0) is ∙ get_or-replicate n e 0 0 low
      | inr past ↦ ap (λ (xs : List ℕ). get_or xs e 0) is ∙ get_or_past (replicate n 0) e 0 (subst (λ (k : ℕ). k ≤ e) (sym (length-replicate {A = ℕ} n 0)) past)
    ]

unset_part : (st : Setting) (a : ℕ) (lines : Lines) (l : LocalView) → IsSetting st → AreVerticesOf st a lines.vertices.items lines.ghosts.items →
    IsPartBy st.graph st.machines (record { 0 = a }) lines l → IsUnsetPart st a l
unset_part st a lines l is are made =
    let kept : length l.kept ≡ length made.order = ap length made.kept ∙ length-replicate (length made.order) no_datum in
    let owned : length l.owned ≡ length made.order =
    ap length made.owned ∙ length-map lines.vertices.items (λ (v : VertexLine). v.vertex) ∙ sym (length_permutation lines.vertices.items made.order made.same) in
    record {
      machine = ap (λ (m : MachineNo). m.0) made.machine;
      local = part_of_graph st (record { 0 = a }) lines.vertices.items lines.ghosts.items (graph_halves st.graph) st.machines (length st.graph.edges) l is
          (lists_of_graph st a lines.vertices.items lines.ghosts.items are) made;
      rows = λ v own. ap is_some (made.rows v own);
      places = kept ∙ sym owned;
      data_unset = λ v own. unset_there l.kept (length made.order) (place_at l v) made.kept own;
      edges_unset = λ e. zero_there l.numbers (length st.graph.edges) e made.numbers;
    }

-- one machine more has its part
pub made_more : (g : DataGraph) (machines : ℕ) (all : List Lines) (locals : List LocalView) (x : LocalView) (lines : Lines) (k : ℕ) → length locals ≡ k → k < length all →
    lines ≡ get_or all k lines → IsPartBy g machines (record { 0 = k }) lines x → AreAllMade g machines all locals → AreAllMade g machines all (locals ++ x ∷ [])
made_more g machines all locals x lines k count inside at made so_far a d l low =
    elim (cases_lt a k) [
      | inl before ↦
          subst (IsPartBy g machines (record { 0 = a }) (get_or all a d)) (sym (get_or-append locals (x ∷ []) l a (subst (λ (n : ℕ). a < n) (sym count) before)))
          (so_far a d l (subst (λ (n : ℕ). a < n) (sym count) before))
      | inr past ↦
          let last : a ≡ k = omega (arith, length-append locals (x ∷ []), count, low) in
          let here : IsPartBy g machines (record { 0 = k }) (get_or all k d) x =
          subst (λ (ls : Lines). IsPartBy g machines (record { 0 = k }) ls x) (at ∙ get_or_default all k lines d inside) made in
          subst (λ (n : ℕ). IsPartBy g machines (record { 0 = n }) (get_or all n d) (get_or (locals ++ x ∷ []) n l)) (sym last)
          (subst (IsPartBy g machines (record { 0 = k }) (get_or all k d)) (sym (get_or_push locals x l k count)) here)
    ]

-- the first of some lines
some_of : (all : List Lines) → 0 < length all → Lines
some_of [] some = absurd (omega arith)
some_of (lines ∷ all) some = lines

-- ---- owners

owner_below : (machines : ℕ) (owners : List AtomNo) → All (λ (a : AtomNo). a.0 < machines) owners → (v : ℕ) → v < length owners → slice_index (atom_numbers owners) v < machines
owner_below machines owners below v low =
    let no_atom : AtomNo = record { 0 = 0 } in
    subst (λ (n : ℕ). n < machines) (sym (get_or-map (λ (a : AtomNo). a.0) owners v no_atom 0 low)) (below v no_atom low)

-- the numbers in the list are the owners of the setting
module _ (g : DataGraph) (machines : ℕ) (owners : List AtomNo) (is_graph : IsDataGraph g) (each : length owners ≡ size g)
    (below : All (λ (a : AtomNo). a.0 < machines) owners) (lines : List Lines) (atoms : AreAtomVertices g (atom_numbers owners) machines lines) where
  abbrev IsFor : Setting → Type 0
  IsFor st = IsOwnedBy g machines (slice_index (atom_numbers owners)) st

  pub setting_is : (st : Setting) → IsFor st → IsSetting st
  setting_is st for =
      record {
        graph = subst IsDataGraph (sym for.graph) is_graph;
        owner = λ v low.
            let inside : v < size g = subst (λ (h : DataGraph). v < size h) for.graph low in
            let below_all = owner_below machines owners below v (subst (λ (n : ℕ). v < n) (sym each) inside) in
            omega (arith, below_all, for.owners v inside, for.machines);
      }

  numbers_are : (st : Setting) → IsFor st → atom_numbers owners ≡ owner_numbers st
  numbers_are st for =
      let many : length (atom_numbers owners) ≡ size g = length-map owners (λ (a : AtomNo). a.0) ∙ each in
      let many_too : length (owner_numbers st) ≡ size g =
      length-map (range_with_len 0 (size st.graph)) st.owner ∙ length-range_with_len 0 (size st.graph) ∙ ap size for.graph in
      same_number_lists (atom_numbers owners) (owner_numbers st) (many ∙ sym many_too)
      (λ k low.
      let inside : k < size g = subst (λ (n : ℕ). k < n) many low in
      let plus : 0 + k ≡ k = zero-add k in
      sym (for.owners k inside) ∙ sym (get_or-map-range_with_len st.owner 0 (size st.graph) k k 0 (subst (λ (h : DataGraph). k < size h) (sym for.graph) inside) plus))

  lines_are : (st : Setting) → IsFor st → (a : ℕ) (d : Lines) → a < machines → AreVerticesOf st a (get_or lines a d).vertices.items (get_or lines a d).ghosts.items
  lines_are st for a d low =
      record {
        machine = subst (λ (n : ℕ). a < n) (sym for.machines) low;
        vertices =
            atoms.vertices a d low ∙ ap (λ (of : List ℕ). (graph_atom g of a).vertices) (numbers_are st for)
            ∙ ap (λ (h : DataGraph). (graph_atom h (owner_numbers st) a).vertices) (sym for.graph);
        beside =
            atoms.ghosts a d low ∙ ap (λ (of : List ℕ). (graph_atom g of a).ghosts) (numbers_are st for)
            ∙ ap (λ (h : DataGraph). (graph_atom h (owner_numbers st) a).ghosts) (sym for.graph);
      }

  pub all_can_be_made : AreAllOfGraph g lines
  all_can_be_made a d low =
      let st = setting_with g machines (slice_index (atom_numbers owners)) in
      let for : IsFor st = record { graph = refl; machines = refl; owners = λ v inside. refl } in
      let is = setting_is st for in
      let l : Lines = get_or lines a d in
      let are = lines_are st for a d (subst (λ (n : ℕ). a < n) atoms.count low) in
      record {
        vertices = λ k e inside. (own_lines st a l.vertices.items l.ghosts.items is are k e inside).low;
        ghosts = λ k e inside. (ghost_lines_are st a l.vertices.items l.ghosts.items is are k e inside).low;
        few = few_lines st a l.vertices.items l.ghosts.items is are;
      }

  pub parts_are : (locals : List LocalView) → length locals ≡ length lines → AreAllMade g machines lines locals → (st : Setting) → IsFor st → AreUnsetParts st locals
  parts_are locals many made st for =
      record {
        count = many ∙ atoms.count ∙ sym for.machines;
        each = λ a d low.
            let below_all : a < machines = subst (λ (n : ℕ). a < n) for.machines low in
            let inside : a < length lines = subst (λ (n : ℕ). a < n) (sym atoms.count) below_all in
            let no_lines : Lines = some_of lines (omega arith) in
            let part = made a no_lines d (subst (λ (n : ℕ). a < n) (sym many) inside) in
            unset_part st a (get_or lines a no_lines) (get_or locals a d) (setting_is st for) (lines_are st for a no_lines below_all)
            (subst (λ (n : ℕ). IsPartBy st.graph n (record { 0 = a }) (get_or lines a no_lines) (get_or locals a d)) (sym for.machines)
            (subst (λ (h : DataGraph). IsPartBy h machines (record { 0 = a }) (get_or lines a no_lines) (get_or locals a d)) (sym for.graph) part));
      }

-- ---- two clauses of one call

pub both_ok : {X E : Type 0} (r : Result X E) (P Q R : X → Type 0) → ((x : X) → P x → Q x → R x) → IfOk r P → IfOk r Q → IfOk r R
both_ok (Ok x) P Q R then p q = then x p q
both_ok (Err e) P Q R then p q = tt
