-- Edges in vertex numbers, and the first fault of a list of edges.
use Rattle.std.proofs.Common.{◌≡◌, ℕ, zero, suc, ◌+◌, ◌^◌, ◌<◌, ◌≤◌, Bool, true, false, ◌||◌, List, [], ◌∷◌, ◌++◌, length, map, take, get_or, slice_get, Option, Some, None, Err, eqb, ltb, nat_eq, refl, sym, ap, ◌∙◌, inl, inr, ⊎_elim, Contains, All, arith}
use Rattle.std.specs.List.{IsDistinct, list_any}
use Rattle.std.specs.List.Sorted.{IsPermutation}
use Rattle.std.proofs.lemmas.Bool.{cases_lt, cases_eq, cases_order, cases_Bool, eq-eqb, ne_eqb, eqb-true, eqb-false, and_parts, ltb-true, ltb-false}
use Rattle.std.proofs.lemmas.Cmp.{nat_eq_equiv}
use Rattle.std.proofs.lemmas.List.{append-nil, append_assoc, take-take, get_or-take, length-take-le, length-map, length_push, get_or-map, get_or_default, get_or_append_left, get_or_push, same_lists}
use Rattle.std.proofs.lemmas.List.Elements.{All-map}
use Rattle.std.proofs.lemmas.List.Sorted.{IsPermutation-map, IsPermutation-sym, All-permutation}
use Rattle.std.proofs.lemmas.Map.Keys.{IsDistinct-IsPermutation, IsDistinct-from_apart, apart_from_distinct, any_passes_from_place}
use Rattle.std.proofs.lemmas.Map.Views.{Contains-from_any, list_any-from_Contains}
use Rattle.std.proofs.lemmas.Nat.{same_from_place}
use Rattle.std.proofs.lemmas.Option.{get_or_from_slice_get, slice_get_within}
use Rattle.gl_base.specs.declared.numbers.Vertex.{Vertex}
use Rattle.gl_base.specs.Lists.{Ascends}
use Rattle.graph_core.specs.DataGraph.{IsEdge, IsBefore}
use Rattle.graph_core.specs.declared.graph_lists.EdgeIn.{EdgeIn}
use Rattle.graph_core.specs.declared.graph_lists.GraphFault.{GraphFault}
use Rattle.graph_core.specs.declared.graph_lists.GraphFault.TheVariants.{DoubleVertex, UnknownVertex, SelfLoop, DoubleEdge, NoMemory}
use Rattle.gl_base.specs.declared.memory.OrNoMemory.{OrNoMemory}
use Rattle.gl_base.specs.declared.memory.OrNoMemory.TheVariants.{Fault, NoMemory as UnsortedNoMemory}
use Rattle.graph_core.specs.declared.sorting.DoubleAt.{DoubleAt}
use Rattle.graph_core.specs.declared.edges.Edge.{Edge}
use Rattle.graph_core.specs.GraphLists.{lower_first, with_ids, first_fault, ends_fault, edge_fault, same_ends, NamesFirstFault}
use Rattle.graph_core.specs.Edges.{data_edge}
use Rattle.graph_core.specs.Inner.NumberedEdges.{ends_key, IsNumbered, AreNumbered, AreKept, StopsAt, edge_double}
use Rattle.graph_core.specs.Inner.SortedKeys.{Rises, IsFirstDouble, AreSorted}

-- ---- the first fault of a list

pub first_fault_at : {X : Type 0} (fault : List X → X → Option GraphFault) (before xs : List X) (i : ℕ) (f : GraphFault) → i < length xs → ((j : ℕ) (d : X) → j < i → fault (before ++ take j xs) (get_or xs j d) ≡ None) → ((d : X) → fault (before ++ take i xs) (get_or xs i d) ≡ Some f) → first_fault fault before xs ≡ Some f
first_fault_at fault before [] i f inside earlier here = absurd (omega arith)
first_fault_at fault before (x ∷ xs) zero f inside earlier here =
    let h : fault before x ≡ Some f = rw append-nil at (here x) in
    rw h refl
first_fault_at {X} fault before (x ∷ xs) (suc i) f inside earlier here =
    let none : fault before x ≡ None = rw append-nil at (earlier 0 x (omega arith)) in
    let apart : (ys : List X) → (before ++ x ∷ []) ++ ys ≡ before ++ x ∷ ys = λ ys. append_assoc before (x ∷ []) ys in
    rw none
    (first_fault_at fault (before ++ x ∷ []) xs i f (omega arith) (λ j d l. rw (apart (take j xs)) (earlier (suc j) d (omega arith))) (λ d. rw (apart (take i xs)) (here d)))

pub first_fault_none : {X : Type 0} (fault : List X → X → Option GraphFault) (before xs : List X) → ((j : ℕ) (d : X) → j < length xs → fault (before ++ take j xs) (get_or xs j d) ≡ None) → first_fault fault before xs ≡ None
first_fault_none fault before [] clean = refl
first_fault_none {X} fault before (x ∷ xs) clean =
    let none : fault before x ≡ None = rw append-nil at (clean 0 x (omega arith)) in
    let apart : (ys : List X) → (before ++ x ∷ []) ++ ys ≡ before ++ x ∷ ys = λ ys. append_assoc before (x ∷ []) ys in
    rw none (first_fault_none fault (before ++ x ∷ []) xs (λ j d l. rw (apart (take j xs)) (clean (suc j) d (omega arith))))

-- ---- identifiers and their vertices

has_known : (ids : List ℕ) (v x : ℕ) → slice_get ids v ≡ Some x → list_any (λ id. eqb id x) ids ≡ true
has_known ids v x at = any_passes_from_place (λ id. eqb id x) ids v x at (eq-eqb x x refl)

has_unknown : (ids : List ℕ) (x : ℕ) → (Contains ids x → ⊥) → list_any (λ id. eqb id x) ids ≡ false
has_unknown ids x none =
    ⊎_elim
    (λ h. absurd (none (Contains-from_any {eq = λ a b. eqb b a} (λ a b e. sym (eqb-true b a e)) x ids h)))
    (λ h. h)
    (cases_Bool (list_any (λ id. eqb id x) ids))

pub ends_unknown_from : (ids : List ℕ) (e : EdgeIn) (place : ℕ) → (Contains ids e.from → ⊥) → ends_fault ids e place ≡ Some (UnknownVertex place)
ends_unknown_from ids e place none = rw (has_unknown ids e.from none) refl

pub ends_unknown_to : (ids : List ℕ) (e : EdgeIn) (place v : ℕ) → slice_get ids v ≡ Some e.from → (Contains ids e.to → ⊥) → ends_fault ids e place ≡ Some (UnknownVertex place)
ends_unknown_to ids e place v from none = rw (has_known ids v e.from from, has_unknown ids e.to none) refl

pub ends_equal : (ids : List ℕ) (e : EdgeIn) (place v w : ℕ) → slice_get ids v ≡ Some e.from → slice_get ids w ≡ Some e.to → e.from ≡ e.to → ends_fault ids e place ≡ Some (SelfLoop place)
ends_equal ids e place v w from to loop = rw (has_known ids v e.from from, has_known ids w e.to to, eq-eqb e.from e.to loop) refl

pub ends_clean : (ids : List ℕ) (e : EdgeIn) (place v w : ℕ) → slice_get ids v ≡ Some e.from → slice_get ids w ≡ Some e.to → (e.from ≡ e.to → ⊥) → ends_fault ids e place ≡ None
ends_clean ids e place v w from to apart = rw (has_known ids v e.from from, has_known ids w e.to to, ne_eqb e.from e.to apart) refl

id_at : (ids : List ℕ) (v x : ℕ) → slice_get ids v ≡ Some x → get_or ids v 0 ≡ x
id_at ids v x at = get_or_from_slice_get ids v x 0 at

number_apart : (ids : List ℕ) (v w x y : ℕ) → slice_get ids v ≡ Some x → slice_get ids w ≡ Some y → (x ≡ y → ⊥) → v ≡ w → ⊥
number_apart ids v w x y at_v at_w apart e = apart (sym (id_at ids v x at_v) ∙ ap (λ k. get_or ids k 0) e ∙ id_at ids w y at_w)

number_up : (ids : List ℕ) (v w x y : ℕ) → Ascends ids → slice_get ids v ≡ Some x → slice_get ids w ≡ Some y → x < y → v < w
number_up ids v w x y up at_v at_w below =
    let is_v = id_at ids v x at_v in
    let is_w = id_at ids w y at_w in
    ⊎_elim
    (λ (e : v ≡ w). absurd (number_apart ids v w x y at_v at_w (λ f. omega arith) e))
    (λ e. ⊎_elim
    (λ (l : v < w). l)
    (λ (l : w < v). absurd (omega (arith, up w v l (slice_get_within ids v x at_v))))
    e)
    (cases_order v w)

pub numbers_one : (ids : List ℕ) (v w : ℕ) → Ascends ids → v < length ids → w < length ids → get_or ids v 0 ≡ get_or ids w 0 → v ≡ w
numbers_one ids v w up in_v in_w same =
    ⊎_elim
    (λ e. e)
    (λ e. ⊎_elim (λ l. absurd (omega (arith, up v w l in_w))) (λ l. absurd (omega (arith, up w v l in_v))) e)
    (cases_order v w)

pub numbered_forward : (ids : List ℕ) (directed : Bool) (e : EdgeIn) (v w : Vertex) → Ascends ids → e.weight < 2 ^ 32 → slice_get ids v.0 ≡ Some e.from → slice_get ids w.0 ≡ Some e.to → (e.from ≡ e.to → ⊥) → (directed || ltb e.from e.to) ≡ true → IsNumbered ids directed e (record { from = v; to = w; weight = e.weight })
numbered_forward ids directed e v w up weight from to apart forward =
    record {
      edge = record {
        from = slice_get_within ids v.0 e.from from;
        to = slice_get_within ids w.0 e.to to;
        apart = number_apart ids v.0 w.0 e.from e.to from to apart;
        lower = λ none. number_up ids v.0 w.0 e.from e.to up from to (ltb-true e.from e.to (rw none at forward));
        weight = weight;
      };
      same = rw (id_at ids v.0 e.from from, id_at ids w.0 e.to to, forward) refl;
    }

pub numbered_back : (ids : List ℕ) (directed : Bool) (e : EdgeIn) (v w : Vertex) → Ascends ids → e.weight < 2 ^ 32 → slice_get ids v.0 ≡ Some e.from → slice_get ids w.0 ≡ Some e.to → (e.from ≡ e.to → ⊥) → (directed || ltb e.from e.to) ≡ false → IsNumbered ids directed e (record { from = w; to = v; weight = e.weight })
numbered_back ids directed e v w up weight from to apart back =
    record {
      edge = record {
        from = slice_get_within ids w.0 e.to to;
        to = slice_get_within ids v.0 e.from from;
        apart = λ q. number_apart ids v.0 w.0 e.from e.to from to apart (sym q);
        lower = λ none. let le = ltb-false e.from e.to (rw none at back) in number_up ids w.0 v.0 e.to e.from up to from (omega (arith, le, apart));
        weight = weight;
      };
      same = rw (id_at ids v.0 e.from from, id_at ids w.0 e.to to, back) refl;
    }

-- ---- edges in their numbers, one after another

pub numbered_none : (ids : List ℕ) (directed : Bool) (listed : List EdgeIn) → AreNumbered ids directed listed []
numbered_none ids directed listed = record { few = omega arith; each = λ k d e l. absurd (omega arith); clean = λ k d l. absurd (omega arith) }

pub numbered_more : (ids : List ℕ) (directed : Bool) (listed : List EdgeIn) (edges : List Edge) (k : ℕ) (item : EdgeIn) (edge : Edge) → AreNumbered ids directed listed edges → length edges ≡ k → slice_get listed k ≡ Some item → IsNumbered ids directed item edge → ends_fault ids item k ≡ None → AreNumbered ids directed listed (edges ++ edge ∷ [])
numbered_more ids directed listed edges k item edge so len at one clean =
    let inside : k < length listed = slice_get_within listed k item at in
    let count : length (edges ++ edge ∷ []) ≡ length edges + 1 = length_push edges edge in
    record {
      few = omega (arith, so.few);
      each = λ j d e l. ⊎_elim
          (λ c. rw (get_or_append_left edges (edge ∷ []) e j c) (so.each j d e c))
          (λ (c : length edges ≤ j). let is : j ≡ k = omega arith in
          rw (is, get_or_push edges edge e k len, get_or_from_slice_get listed k item d at) one)
          (cases_lt j (length edges));
      clean = λ j d l. ⊎_elim
          (λ c. so.clean j d c)
          (λ (c : length edges ≤ j). let is : j ≡ k = omega arith in
          rw (is, get_or_from_slice_get listed k item d at) clean)
          (cases_lt j (length edges));
    }

-- ---- the same edge, and the same key

abbrev no_edge : Edge
no_edge = record { from = record { 0 = 0 }; to = record { 0 = 0 }; weight = 0 }

abbrev no_listed : EdgeIn
no_listed = record { from = 0; to = 0; weight = 0 }

abbrev edge_keys : List Edge → List ℕ
edge_keys edges = map ends_key edges

one_key : (ids : List ℕ) (directed : Bool) (a b : EdgeIn) (e f : Edge) → length ids < 2 ^ 32 → Ascends ids → IsNumbered ids directed a e → IsNumbered ids directed b f → same_ends directed a b ≡ eqb (ends_key e) (ends_key f)
one_key ids directed a b e f few up ne nf =
    let from_a : get_or ids e.from.0 0 ≡ (lower_first directed a).from = ap (λ x. x.from) ne.same in
    let to_a : get_or ids e.to.0 0 ≡ (lower_first directed a).to = ap (λ x. x.to) ne.same in
    let from_b : get_or ids f.from.0 0 ≡ (lower_first directed b).from = ap (λ x. x.from) nf.same in
    let to_b : get_or ids f.to.0 0 ≡ (lower_first directed b).to = ap (λ x. x.to) nf.same in
    ⊎_elim
    (λ same. let ends = same_from_place e.from.0 e.to.0 f.from.0 f.to.0 (2 ^ 32) (omega (arith, ne.edge.to)) (omega (arith, nf.edge.to)) same in
    let froms : (lower_first directed a).from ≡ (lower_first directed b).from = sym from_a ∙ ap (λ v. get_or ids v 0) ends.0 ∙ from_b in
    let tos : (lower_first directed a).to ≡ (lower_first directed b).to = sym to_a ∙ ap (λ v. get_or ids v 0) ends.1 ∙ to_b in
    rw (eq-eqb (lower_first directed a).from (lower_first directed b).from froms, eq-eqb (lower_first directed a).to (lower_first directed b).to tos, eq-eqb (ends_key e) (ends_key f) same) refl)
    (λ differ. ⊎_elim
    (λ h. let parts = and_parts (eqb (lower_first directed a).from (lower_first directed b).from) (eqb (lower_first directed a).to (lower_first directed b).to) h in
    let froms = from_a ∙ eqb-true (lower_first directed a).from (lower_first directed b).from parts.0 ∙ sym from_b in
    let tos = to_a ∙ eqb-true (lower_first directed a).to (lower_first directed b).to parts.1 ∙ sym to_b in
    let one_from = numbers_one ids e.from.0 f.from.0 up ne.edge.from nf.edge.from froms in
    let one_to = numbers_one ids e.to.0 f.to.0 up ne.edge.to nf.edge.to tos in
    absurd (differ (rw (one_from, one_to) refl)))
    (λ h. h ∙ sym (ne_eqb (ends_key e) (ends_key f) differ))
    (cases_Bool (same_ends directed a b)))
    (cases_eq (ends_key e) (ends_key f))

any_agree : {X Y : Type 0} (p : X → Bool) (q : Y → Bool) (xs : List X) (ys : List Y) → length xs ≡ length ys → ((k : ℕ) (d : X) (e : Y) → k < length xs → p (get_or xs k d) ≡ q (get_or ys k e)) → list_any p xs ≡ list_any q ys
any_agree p q [] [] len each = refl
any_agree p q [] (y ∷ ys) len each = absurd (omega arith)
any_agree p q (x ∷ xs) [] len each = absurd (omega arith)
any_agree p q (x ∷ xs) (y ∷ ys) len each =
    let first : p x ≡ q y = each 0 x y (omega arith) in
    rw (first, any_agree p q xs ys (omega arith) (λ k d e l. each (suc k) d e (omega arith))) refl

-- whether the edge at a place stands before it, told by keys
any_before : (ids : List ℕ) (directed : Bool) (listed : List EdgeIn) (edges : List Edge) (i : ℕ) (d : EdgeIn) → length ids < 2 ^ 32 → Ascends ids → AreNumbered ids directed listed edges → i < length edges → list_any (same_ends directed (get_or listed i d)) (take i listed) ≡ list_any (eqb (get_or (edge_keys edges) i 0)) (take i (edge_keys edges))
any_before ids directed listed edges i d few up so inside =
    let keys_len : length (edge_keys edges) ≡ length edges = length-map edges ends_key in
    let len_g = length-take-le i listed (omega (arith, so.few)) in
    let len_k = length-take-le i (edge_keys edges) (omega arith) in
    any_agree (same_ends directed (get_or listed i d)) (eqb (get_or (edge_keys edges) i 0)) (take i listed) (take i (edge_keys edges)) (omega arith)
    (λ k a n l.
    let at_k : k < i = omega arith in
    rw (get_or-take i listed k a at_k, get_or-take i (edge_keys edges) k n at_k, get_or-map ends_key edges i no_edge 0 inside, get_or-map ends_key edges k no_edge n (omega arith))
    (one_key ids directed (get_or listed i d) (get_or listed k a) (get_or edges i no_edge) (get_or edges k no_edge) few up (so.each i d no_edge inside) (so.each k a no_edge (omega arith))))

-- ---- keys that differ

pub distinct_before : (ks : List ℕ) (j : ℕ) → IsDistinct nat_eq ks → j < length ks → list_any (eqb (get_or ks j 0)) (take j ks) ≡ false
distinct_before ks j apart inside =
    ⊎_elim
    (λ h. let (k, in_k, read) = Contains-from_any eqb-true (get_or ks j 0) (take j ks) h in
    let len = length-take-le j ks (omega arith) in
    let at : get_or ks k (get_or ks j 0) ≡ get_or ks j 0 = sym (get_or-take j ks k (get_or ks j 0) (omega arith)) ∙ read in
    let at0 : get_or ks k 0 ≡ get_or ks j 0 = get_or_default ks k 0 (get_or ks j 0) (omega arith) ∙ at in
    let differ = apart_from_distinct nat_eq ks k j 0 apart (omega arith) inside in
    absurd (eqb-false (get_or ks k 0) (get_or ks j 0) differ at0))
    (λ h. h)
    (cases_Bool (list_any (eqb (get_or ks j 0)) (take j ks)))

pub eqb_flips : (x y : ℕ) → eqb x y ≡ eqb y x
eqb_flips x y = ⊎_elim (λ e. rw e refl) (λ e. rw (ne_eqb x y e, ne_eqb y x (λ f. e (sym f))) refl) (cases_eq x y)

-- an item that shows that the list has one
keys_apart : {T : Type 0} (key : T → ℕ) (sorted : List T) → Rises key sorted → (i j n : ℕ) → i < j → j < length sorted → eqb (get_or (map key sorted) i n) (get_or (map key sorted) j n) ≡ false
keys_apart key [] up i j n l m = absurd (omega arith)
keys_apart {T} key (x ∷ xs) up i j n l m =
    let h : key (get_or (x ∷ xs) i x) < key (get_or (x ∷ xs) j x) = up i j x l m in
    rw (get_or-map key (x ∷ xs) i x n (omega arith), get_or-map key (x ∷ xs) j x n m)
    (ne_eqb (key (get_or (x ∷ xs) i x)) (key (get_or (x ∷ xs) j x)) (λ e. omega arith))

pub distinct_from_rises : {T : Type 0} (key : T → ℕ) (items sorted : List T) → IsPermutation items sorted → Rises key sorted → IsDistinct nat_eq (map key items)
distinct_from_rises key items sorted same up =
    let back = IsPermutation-map key sorted items (IsPermutation-sym items sorted same) in
    let apart = IsDistinct-from_apart nat_eq (map key sorted) (λ i j d l m. keys_apart key sorted up i j d l (omega (arith, length-map sorted key))) in
    IsDistinct-IsPermutation nat_eq eqb_flips (map key sorted) (map key items) back apart

-- ---- the first fault of listed edges

-- no fault at a place whose key does not stand before it
fault_none : (ids : List ℕ) (directed : Bool) (listed : List EdgeIn) (edges : List Edge) (i : ℕ) (d : EdgeIn) → length ids < 2 ^ 32 → Ascends ids → AreNumbered ids directed listed edges → i < length edges → list_any (eqb (get_or (edge_keys edges) i 0)) (take i (edge_keys edges)) ≡ false → edge_fault ids directed (take i listed) (get_or listed i d) ≡ None
fault_none ids directed listed edges i d few up so inside new =
    let len : length (take i listed) ≡ i = length-take-le i listed (omega (arith, so.few)) in
    rw (len, so.clean i d inside, any_before ids directed listed edges i d few up so inside, new) refl

fault_double : (ids : List ℕ) (directed : Bool) (listed : List EdgeIn) (edges : List Edge) (i : ℕ) (d : EdgeIn) → length ids < 2 ^ 32 → Ascends ids → AreNumbered ids directed listed edges → i < length edges → list_any (eqb (get_or (edge_keys edges) i 0)) (take i (edge_keys edges)) ≡ true → edge_fault ids directed (take i listed) (get_or listed i d) ≡ Some (DoubleEdge i)
fault_double ids directed listed edges i d few up so inside again =
    let len : length (take i listed) ≡ i = length-take-le i listed (omega (arith, so.few)) in
    rw (len, so.clean i d inside, any_before ids directed listed edges i d few up so inside, again) refl

fault_ends : (ids : List ℕ) (directed : Bool) (listed : List EdgeIn) (i : ℕ) (d : EdgeIn) (f : GraphFault) → i ≤ length listed → ends_fault ids (get_or listed i d) i ≡ Some f → edge_fault ids directed (take i listed) (get_or listed i d) ≡ Some f
fault_ends ids directed listed i d f inside wrong =
    let len : length (take i listed) ≡ i = length-take-le i listed inside in
    rw (len, wrong) refl

pub first_is_double : (ids : List ℕ) (directed : Bool) (listed : List EdgeIn) (edges : List Edge) (i : ℕ) → length ids < 2 ^ 32 → Ascends ids → AreNumbered ids directed listed edges → IsFirstDouble (edge_keys edges) i → first_fault (edge_fault ids directed) [] listed ≡ Some (DoubleEdge i)
first_is_double ids directed listed edges i few up so double =
    let keys_len : length (edge_keys edges) ≡ length edges = length-map edges ends_key in
    let inside : i < length edges = omega (arith, double.inside) in
    let again = list_any-from_Contains nat_eq_equiv (get_or (edge_keys edges) i 0) (take i (edge_keys edges)) double.double in
    first_fault_at (edge_fault ids directed) [] listed i (DoubleEdge i) (omega (arith, so.few))
    (λ j d l.
    let len = length-take-le i (edge_keys edges) (omega arith) in
    let h = distinct_before (take i (edge_keys edges)) j double.first (omega arith) in
    let new : list_any (eqb (get_or (edge_keys edges) j 0)) (take j (edge_keys edges)) ≡ false = rw (get_or-take i (edge_keys edges) j 0 l, take-take j i (edge_keys edges) (omega arith)) at h in
    fault_none ids directed listed edges j d few up so (omega arith) new)
    (λ d. fault_double ids directed listed edges i d few up so inside again)

pub first_is_ends : (ids : List ℕ) (directed : Bool) (listed : List EdgeIn) (edges : List Edge) (f : GraphFault) → length ids < 2 ^ 32 → Ascends ids → AreNumbered ids directed listed edges → IsDistinct nat_eq (edge_keys edges) → length edges < length listed → ((d : EdgeIn) → ends_fault ids (get_or listed (length edges) d) (length edges) ≡ Some f) → first_fault (edge_fault ids directed) [] listed ≡ Some f
first_is_ends ids directed listed edges f few up so apart more wrong =
    let keys_len : length (edge_keys edges) ≡ length edges = length-map edges ends_key in
    first_fault_at (edge_fault ids directed) [] listed (length edges) f more
    (λ j d l. fault_none ids directed listed edges j d few up so l (distinct_before (edge_keys edges) j apart (omega arith)))
    (λ d. fault_ends ids directed listed (length edges) d f (omega arith) (wrong d))

pub first_is_none : (ids : List ℕ) (directed : Bool) (listed : List EdgeIn) (edges : List Edge) → length ids < 2 ^ 32 → Ascends ids → AreNumbered ids directed listed edges → IsDistinct nat_eq (edge_keys edges) → length listed ≤ length edges → first_fault (edge_fault ids directed) [] listed ≡ None
first_is_none ids directed listed edges few up so apart all =
    let keys_len : length (edge_keys edges) ≡ length edges = length-map edges ends_key in
    first_fault_none (edge_fault ids directed) [] listed
    (λ j d l. fault_none ids directed listed edges j d few up so (omega arith) (distinct_before (edge_keys edges) j apart (omega arith)))

-- ---- the edges of the graph

before_from_key : (e f : Edge) → e.to.0 < 2 ^ 32 → f.to.0 < 2 ^ 32 → ends_key e < ends_key f → IsBefore (data_edge e) (data_edge f)
before_from_key e f in_e in_f below =
    ⊎_elim
    (λ (same : e.from.0 ≡ f.from.0). inr (same, omega arith))
    (λ o. ⊎_elim (λ l. inl l) (λ (l : f.from.0 < e.from.0). absurd (omega arith)) o)
    (cases_order e.from.0 f.from.0)

pub map-map : {X Y Z : Type 0} (f : Y → Z) (g : X → Y) (xs : List X) → map f (map g xs) ≡ map (λ x. f (g x)) xs
map-map f g [] = refl
map-map f g (x ∷ xs) = ap (λ ys. f (g x) ∷ ys) (map-map f g xs)

pub edges_kept : (ids : List ℕ) (directed : Bool) (listed : List EdgeIn) (edges sorted : List Edge) → length ids < 2 ^ 32 → Ascends ids → AreNumbered ids directed listed edges → length listed ≤ length edges → IsPermutation edges sorted → Rises ends_key sorted → AreKept ids directed listed (map data_edge sorted)
edges_kept ids directed listed edges sorted few up so all same rises =
    let right : All (λ e. IsEdge (length ids) directed (data_edge e)) edges = λ k d l. (so.each k no_listed d l).edge in
    let right' = All-permutation (λ e. IsEdge (length ids) directed (data_edge e)) edges sorted same right in
    let written_is : map (lower_first directed) listed ≡ map (λ e. with_ids ids (data_edge e)) edges =
    same_lists (map (lower_first directed) listed) (map (λ e. with_ids ids (data_edge e)) edges) (omega (arith, length-map listed (lower_first directed), length-map edges (λ e. with_ids ids (data_edge e)), so.few))
    (λ k d l.
    let in_listed : k < length listed = omega (arith, length-map listed (lower_first directed)) in
    rw (get_or-map (lower_first directed) listed k no_listed d in_listed, get_or-map (λ e. with_ids ids (data_edge e)) edges k no_edge d (omega arith))
    (sym (so.each k no_listed no_edge (omega arith)).same)) in
    record {
      edges_in = All-map (IsEdge (length ids) directed) data_edge sorted right';
      ascending = λ i j d l m.
          let m' : j < length sorted = omega (arith, length-map sorted data_edge) in
          rw (get_or-map data_edge sorted i no_edge d (omega arith), get_or-map data_edge sorted j no_edge d m')
          (before_from_key (get_or sorted i no_edge) (get_or sorted j no_edge) (omega (arith, (right' i no_edge (omega arith)).to)) (omega (arith, (right' j no_edge m').to)) (rises i j no_edge l m'));
      same = rw (map-map (with_ids ids) data_edge sorted, written_is) (IsPermutation-map (λ e. with_ids ids (data_edge e)) edges sorted same);
      no_fault = first_is_none ids directed listed edges few up so (distinct_from_rises ends_key edges sorted same rises) all;
    }

-- ---- refusals

pub refuses_first : (first : Option GraphFault) (f : GraphFault) → first ≡ Some f → NamesFirstFault first f
refuses_first first (DoubleVertex place) is = is
refuses_first first (UnknownVertex place) is = is
refuses_first first (SelfLoop place) is = is
refuses_first first (DoubleEdge place) is = is
refuses_first first NoMemory is = tt

pub refuses_double : (ids : List ℕ) (directed : Bool) (listed : List EdgeIn) (edges : List Edge) (unsorted : OrNoMemory DoubleAt) → length ids < 2 ^ 32 → Ascends ids → AreNumbered ids directed listed edges → AreSorted ends_key edges (Err unsorted) → NamesFirstFault (first_fault (edge_fault ids directed) [] listed) (edge_double unsorted)
refuses_double ids directed listed edges (Fault at) few up so double = first_is_double ids directed listed edges at.0 few up so double
refuses_double ids directed listed edges UnsortedNoMemory few up so none = tt

pub refuses_ends : (ids : List ℕ) (directed : Bool) (listed : List EdgeIn) (edges sorted : List Edge) (f : GraphFault) → length ids < 2 ^ 32 → Ascends ids → AreNumbered ids directed listed edges → IsPermutation edges sorted → Rises ends_key sorted → StopsAt ids listed (length edges) (Some f) → NamesFirstFault (first_fault (edge_fault ids directed) [] listed) f
refuses_ends ids directed listed edges sorted f few up so same rises stop =
    refuses_first _ f (first_is_ends ids directed listed edges f few up so (distinct_from_rises ends_key edges sorted same rises) stop.0 stop.1)
