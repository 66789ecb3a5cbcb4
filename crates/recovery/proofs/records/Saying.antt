-- The numbers that a record says of each vertex and each edge.
use Rattle.std.proofs.Common.{◌≡◌, ◌⊎◌, ◌<◌, ℕ, zero, suc, ◌∙◌, ◌==◌, Bool, true, false, if◌then◌else◌, None, Option, Some, List, [], ◌∷◌, ◌++◌, inl, inr, length, map, slice_index_or, refl, sym, ap, subst, ⊎_elim, arith}
use Rattle.std.specs.List.{flat_map}
use Rattle.std.proofs.lemmas.Bool.{cases_eq, eq-eqb, ne_eqb}
use Rattle.gl_base.specs.declared.numbers.EdgeNo.{EdgeNo}
use Rattle.gl_base.specs.declared.numbers.Vertex.{Vertex}
use Rattle.gl_base.specs.declared.snapshots.Record.{Record}
use Rattle.gl_base.specs.declared.snapshots.SavedPart.{SavedPart}
use Rattle.cluster_laws.specs.cluster_core.Settings.{Setting}
use Rattle.cluster_laws.specs.cluster_model.Events.{snapshot_numbers}
use Rattle.cluster_laws.specs.cluster_model.Leading.{Snapshot}
use Rattle.cluster_laws.specs.cluster_model.Working.{or_zero}
use Rattle.graph_core.specs.DataGraph.{size}
use Rattle.coordinator.specs.snap_update.Holding.{last_of_edge, last_of_vertex, later_number}
use Rattle.store.specs.store_format.ReadBack.{edge_pair, part_edges, part_vertices, record_edges, record_vertices, vertex_pair}
use Rattle.store.specs.store_format.StoredNumbers.{saved_or}
use Rattle.recovery.specs.records.Keeping.{IsRecordBehind}
use Rattle.call_laws.specs.whole_calls.Saved.{SaysOnce}
use Rattle.std.specs.Prelude.{List}
use Rattle.gl_base.specs.declared.entries.Entry.{Entry}

-- the number, or else this one
abbrev or_number : ℕ → Option ℕ → ℕ
or_number n None = n
or_number n (Some x) = x

same_test : (n k : ℕ) → (n == k) ≡ (k == n)
same_test n k =
    ⊎_elim (λ (is : n ≡ k). eq-eqb n k is ∙ sym (eq-eqb k n (sym is))) (λ (off : n ≡ k → ⊥). ne_eqb n k off ∙ sym (ne_eqb k n (λ is. off (sym is)))) (cases_eq n k)

one_more : (n x : ℕ) (o : Option ℕ) (one other : Bool) → one ≡ other → or_number (if one then x else n) o ≡ or_number n (later_number o (if other then Some x else None))
one_more n x o true true same = by o
  where
    by : (o : Option ℕ) → or_number x o ≡ or_number n (later_number o (Some x))
    by None = refl
    by (Some y) = refl
one_more n x o false false same = by o
  where
    by : (o : Option ℕ) → or_number n o ≡ or_number n (later_number o None)
    by None = refl
    by (Some y) = refl
one_more n x o true false same = absurd (apart same)
  where
    apart : true ≡ false → ⊥
    apart is = cc
one_more n x o false true same = absurd (apart same)
  where
    apart : false ≡ true → ⊥
    apart is = cc

vertex_said : (n : ℕ) (pairs : List (Vertex × ℕ)) (v : ℕ) → saved_or n (map vertex_pair pairs) v ≡ or_number n (last_of_vertex pairs v)
vertex_said n [] v = refl
vertex_said n (pair ∷ pairs) v =
    vertex_said (if pair.0.0 == v then pair.1 else n) pairs v ∙ one_more n pair.1 (last_of_vertex pairs v) (pair.0.0 == v) (v == pair.0.0) (same_test pair.0.0 v)

edge_said : (n : ℕ) (pairs : List (EdgeNo × ℕ)) (e : ℕ) → saved_or n (map edge_pair pairs) e ≡ or_number n (last_of_edge pairs e)
edge_said n [] e = refl
edge_said n (pair ∷ pairs) e =
    edge_said (if pair.0.0 == e then pair.1 else n) pairs e ∙ one_more n pair.1 (last_of_edge pairs e) (pair.0.0 == e) (e == pair.0.0) (same_test pair.0.0 e)

said_append : (n : ℕ) (xs ys : List (ℕ × ℕ)) (k : ℕ) → saved_or n (xs ++ ys) k ≡ saved_or (saved_or n xs k) ys k
said_append n [] ys k = refl
said_append n (x ∷ xs) ys k = said_append (if x.0 == k then x.1 else n) xs ys k

less_suc : (i n : ℕ) → suc i < suc n → i < n
less_suc i n is = omega arith

suc_less : (i n : ℕ) → i < n → suc i < suc n
suc_less i n is = omega arith

zero_less : (n : ℕ) → 0 < suc n
zero_less n = omega arith

module _ (pairs_of : SavedPart → List (ℕ × ℕ)) (last : SavedPart → Option ℕ) (k good : ℕ) (each : (n : ℕ) (part : SavedPart) → saved_or n (pairs_of part) k ≡ or_number n (last part)) where
  -- where each part that says a number says the good one, and one does, that is said
  said_in : (say : ℕ → Option ℕ) (parts : List SavedPart) (n : ℕ) → ((i : ℕ) (d : SavedPart) → i < length parts → last (slice_index_or parts i d) ≡ say i) →
      ((i x : ℕ) → i < length parts → say i ≡ Some x → x ≡ good) → (n ≡ good) ⊎ ((i : ℕ) × (x : ℕ) × (i < length parts) × (say i ≡ Some x)) → saved_or n (flat_map pairs_of parts) k ≡ good
  said_in say [] n says right some = ⊎_elim (λ (is : n ≡ good). is) (λ (one : (i : ℕ) × (x : ℕ) × (i < 0) × (say i ≡ Some x)). absurd (nothing_below one.0 one.2)) some
    where
      nothing_below : (i : ℕ) → i < 0 → ⊥
      nothing_below i is = omega arith
  said_in say (part ∷ parts) n says right some =
      said_append n (pairs_of part) (flat_map pairs_of parts) k
      ∙ ap (λ (m : ℕ). saved_or m (flat_map pairs_of parts) k) (each n part ∙ ap (or_number n) (says 0 part (zero_less (length parts))))
      ∙ said_in (λ i. say (suc i)) parts (or_number n (say 0)) (λ i d low. says (suc i) d (suc_less i (length parts) low)) (λ i x low is. right (suc i) x (suc_less i (length parts) low) is)
      (first_or_later (say 0) refl)
    where
      first_or_later : (o : Option ℕ) → say 0 ≡ o → (or_number n (say 0) ≡ good) ⊎ ((i : ℕ) × (x : ℕ) × (i < length parts) × (say (suc i) ≡ Some x))
      first_or_later (Some x) is = inl (ap (or_number n) is ∙ right 0 x (zero_less (length parts)) is)
      first_or_later None is =
          ⊎_elim
          (λ (same : n ≡ good). inl (ap (or_number n) is ∙ same))
          (λ (one : (i : ℕ) × (x : ℕ) × (i < suc (length parts)) × (say i ≡ Some x)). later one.0 one.1 one.2 one.3)
          some
        where
          none_some : (x : ℕ) → None ≡ Some x → ⊥
          none_some x is = cc

          later : (i x : ℕ) → i < suc (length parts) → say i ≡ Some x → (or_number n (say 0) ≡ good) ⊎ ((j : ℕ) × (y : ℕ) × (j < length parts) × (say (suc j) ≡ Some y))
          later zero x low has = absurd (none_some x (sym is ∙ has))
          later (suc j) x low has = inr (j, x, less_suc j (length parts) low, has)

module _ (st : Setting) (before front : List Entry) (snapshot : Snapshot) (made : Record) (is : IsRecordBehind st before front snapshot made) (once : SaysOnce st snapshot)
    (owner : (v : ℕ) → v < size st.graph → st.owner v < st.machines) where
  some_is : (o : Option ℕ) (x : ℕ) → o ≡ Some x → x ≡ or_zero o
  some_is o x same = ap or_zero (sym same)

  pub vertex_is : (v : ℕ) → v < size st.graph → saved_or 0 (record_vertices made) v ≡ (snapshot_numbers st snapshot).vertex v
  vertex_is v within =
      let its = once.some_vertex v within in
      said_in part_vertices (λ part. last_of_vertex part.vertices.items v) v ((snapshot_numbers st snapshot).vertex v) (λ n part. vertex_said n part.vertices.items v)
      (λ a. (snapshot.sections a).section.vertices v) made.sections.items 0
      (λ a d low. sym ((is.parts a d (subst (λ (n : ℕ). a < n) is.machines low)).saved.vertices v))
      (λ a x low says. some_is ((snapshot.sections (st.owner v)).section.vertices v) x
      (ap (λ (b : ℕ). (snapshot.sections b).section.vertices v) (once.vertices a v x (subst (λ (n : ℕ). a < n) is.machines low) says) ∙ says))
      (inr (st.owner v, its.0, subst (λ (n : ℕ). st.owner v < n) (sym is.machines) (owner v within), its.1))

  pub edge_is : (e : ℕ) → e < length st.graph.edges → saved_or 0 (record_edges made) e ≡ (snapshot_numbers st snapshot).edge e
  edge_is e within =
      let its = once.some_edge e within in
      said_in part_edges (λ part. last_of_edge part.edges.items e) e ((snapshot_numbers st snapshot).edge e) (λ n part. edge_said n part.edges.items e)
      (λ a. (snapshot.sections a).section.edges e) made.sections.items 0
      (λ a d low. sym ((is.parts a d (subst (λ (n : ℕ). a < n) is.machines low)).saved.edges e))
      (λ a x low says. once.edges a e x (subst (λ (n : ℕ). a < n) is.machines low) within says)
      (inr (its.0, its.1, subst (λ (n : ℕ). its.0 < n) (sym is.machines) its.2, its.3))
