-- The keys that machines saved are all of the graph, each once.
use Rattle.std.proofs.Common.{◌≡◌, ◌⊎◌, ◌∙◌, ℕ, zero, suc, ◌+◌, ◌<◌, ◌≤◌, ◌==◌, if◌then◌else◌, Bool, true, false, List, [], ◌∷◌, None, Option, Some, inl, inr, length, refl, sym, ⊎_elim, arith}
use Rattle.std.specs.Prelude.{⊤, slice_index_or}
use Rattle.std.specs.List.{AllByRecursion, flat_map}
use Rattle.std.proofs.lemmas.Bool.{cases_lt}
use Rattle.gl_base.specs.declared.numbers.EdgeNo.{EdgeNo}
use Rattle.gl_base.specs.declared.numbers.Vertex.{Vertex}
use Rattle.gl_base.specs.declared.snapshots.SavedPart.{SavedPart}
use Rattle.cluster_laws.specs.cluster_core.Messages.{Section}
use Rattle.coordinator.specs.coord_core.Calls.{IsSavedPart}
use Rattle.coordinator.specs.snap_update.Holding.{last_of_edge, last_of_vertex, later_number}
use Rattle.store.specs.store_format.ReadBack.{edge_pair, vertex_pair}
use Rattle.recovery.proofs.record_form.Rows.{AreAll, IsInOrder, edge_keys, keys_in, vertex_keys}
use Rattle.recovery.proofs.record_form.Times.{each_by_times, long_is, once_most, they_rise, times, times-append}

-- ---- one part

-- The keys of a part are those that have a number, each once.
pub record AreSaved (f : ℕ → Option ℕ) (keys : List ℕ) : Type 0 where
  pub none : (k : ℕ) → f k ≡ None → times k keys ≡ 0
  pub some : (k x : ℕ) → f k ≡ Some x → times k keys ≡ 1

-- what was said of the last number says how often a key stands
abbrev AtLast : Option ℕ → ℕ → Type 0
AtLast last n = (last ≡ None → n ≡ 0) × ((x : ℕ) → last ≡ Some x → 1 ≤ n)

at_last : (last : Option ℕ) (here : Bool) (number n : ℕ) → AtLast last n → AtLast (later_number last (if here then Some number else None)) ((if here then 1 else 0) + n)
at_last None true number n is = ((λ none. absurd (cc)), (λ x some. omega arith))
at_last None false number n is = ((λ none. zero_plus n (is.0 refl)), (λ x some. absurd (cc)))
  where
    zero_plus : (n : ℕ) → n ≡ 0 → 0 + n ≡ 0
    zero_plus n none = omega arith
at_last (Some y) here number n is = ((λ none. absurd (cc)), (λ x some. more (if here then 1 else 0) n (is.1 y refl)))
  where
    more : (one n : ℕ) → 1 ≤ n → 1 ≤ one + n
    more one n some = omega arith

none_last : AtLast None 0
none_last = ((λ none. refl), (λ x some. absurd (cc)))

vertices_last : (pairs : List (Vertex × ℕ)) (v : ℕ) → AtLast (last_of_vertex pairs v) (times v (keys_in vertex_pair pairs))
vertices_last [] v = none_last
vertices_last (pair ∷ pairs) v = at_last (last_of_vertex pairs v) (v == pair.0.0) pair.1 (times v (keys_in vertex_pair pairs)) (vertices_last pairs v)

edges_last : (pairs : List (EdgeNo × ℕ)) (e : ℕ) → AtLast (last_of_edge pairs e) (times e (keys_in edge_pair pairs))
edges_last [] e = none_last
edges_last (pair ∷ pairs) e = at_last (last_of_edge pairs e) (e == pair.0.0) pair.1 (times e (keys_in edge_pair pairs)) (edges_last pairs e)

just_one : (n : ℕ) → 1 ≤ n → n ≤ 1 → n ≡ 1
just_one n low high = omega arith

vertices_saved : (section : Section) (part : SavedPart) → IsSavedPart section part → AreSaved section.vertices (vertex_keys part)
vertices_saved section part is =
    record {
      none = λ v none. (vertices_last part.vertices.items v).0 (sym (is.saved.vertices v) ∙ none);
      some = λ v x some. just_one (times v (vertex_keys part)) ((vertices_last part.vertices.items v).1 x (sym (is.saved.vertices v) ∙ some)) (once_most 0 (vertex_keys part) v (they_rise (vertex_keys part) is.by_vertex));
    }

edges_saved : (section : Section) (part : SavedPart) → IsSavedPart section part → AreSaved section.edges (edge_keys part)
edges_saved section part is =
    record {
      none = λ e none. (edges_last part.edges.items e).0 (sym (is.saved.edges e) ∙ none);
      some = λ e x some. just_one (times e (edge_keys part)) ((edges_last part.edges.items e).1 x (sym (is.saved.edges e) ∙ some)) (once_most 0 (edge_keys part) e (they_rise (edge_keys part) is.by_edge));
    }

-- ---- all parts

-- each part has what its machine saved
abbrev pub AllSavedBy : (ℕ → ℕ → Option ℕ) → (SavedPart → List ℕ) → List SavedPart → Type 0
AllSavedBy f keys [] = ⊤
AllSavedBy f keys (part ∷ parts) = AreSaved (f 0) (keys part) × AllSavedBy (λ a. f (suc a)) keys parts

-- the parts are those of these sections
abbrev pub ArePartsOf : (ℕ → Section) → List SavedPart → Type 0
ArePartsOf sections parts = (a : ℕ) (d : SavedPart) → a < length parts → IsSavedPart (sections a) (slice_index_or parts a d)

parts_behind : (sections : ℕ → Section) (part : SavedPart) (parts : List SavedPart) → ArePartsOf sections (part ∷ parts) → ArePartsOf (λ a. sections (suc a)) parts
parts_behind sections part parts are = λ a d low. are (suc a) d (omega arith)

pub all_vertices : (sections : ℕ → Section) (parts : List SavedPart) → ArePartsOf sections parts → AllSavedBy (λ a. (sections a).vertices) vertex_keys parts
all_vertices sections [] are = tt
all_vertices sections (part ∷ parts) are = (vertices_saved (sections 0) part (are 0 part (omega arith)), all_vertices (λ a. sections (suc a)) parts (parts_behind sections part parts are))

pub all_edges : (sections : ℕ → Section) (parts : List SavedPart) → ArePartsOf sections parts → AllSavedBy (λ a. (sections a).edges) edge_keys parts
all_edges sections [] are = tt
all_edges sections (part ∷ parts) are = (edges_saved (sections 0) part (are 0 part (omega arith)), all_edges (λ a. sections (suc a)) parts (parts_behind sections part parts are))

pub all_in_order : (sections : ℕ → Section) (parts : List SavedPart) → ArePartsOf sections parts → AllByRecursion IsInOrder parts
all_in_order sections [] are = tt
all_in_order sections (part ∷ parts) are =
    let first = are 0 part (omega arith) in (
      record { vertices = they_rise (vertex_keys part) first.by_vertex; edges = they_rise (edge_keys part) first.by_edge },
      all_in_order (λ a. sections (suc a)) parts (parts_behind sections part parts are),
    )

none_or_some : (o : Option ℕ) → (o ≡ None) ⊎ ((x : ℕ) × (o ≡ Some x))
none_or_some None = inl refl
none_or_some (Some x) = inr (x, refl)

both_zero : (n m : ℕ) → n ≡ 0 → m ≡ 0 → n + m ≡ 0
both_zero n m one other = omega arith

first_alone : (n m : ℕ) → n ≡ 1 → m ≡ 0 → n + m ≡ 1
first_alone n m one other = omega arith

last_alone : (n m : ℕ) → n ≡ 0 → m ≡ 1 → n + m ≡ 1
last_alone n m one other = omega arith

not_first : (a : ℕ) → suc a ≡ 0 → ⊥
not_first a is = omega arith

module _ (keys : SavedPart → List ℕ) (k : ℕ) where
  stands_nowhere : (f : ℕ → ℕ → Option ℕ) (parts : List SavedPart) → AllSavedBy f keys parts → ((a : ℕ) → a < length parts → f a k ≡ None) → times k (flat_map keys parts) ≡ 0
  stands_nowhere f [] saved none = refl
  stands_nowhere f (part ∷ parts) saved none =
      times-append k (keys part) (flat_map keys parts)
      ∙ both_zero (times k (keys part)) (times k (flat_map keys parts)) (saved.0.none k (none 0 (omega arith))) (stands_nowhere (λ a. f (suc a)) parts saved.1 (λ a low. none (suc a) (omega arith)))

  stands_once : (f : ℕ → ℕ → Option ℕ) (parts : List SavedPart) (a x : ℕ) → AllSavedBy f keys parts → a < length parts → f a k ≡ Some x → ((b y : ℕ) → b < length parts → f b k ≡ Some y → b ≡ a) → times k (flat_map keys parts) ≡ 1
  stands_once f [] a x saved low is alone = absurd (omega arith)
  stands_once f (part ∷ parts) zero x saved low is alone =
      times-append k (keys part) (flat_map keys parts)
      ∙ first_alone (times k (keys part)) (times k (flat_map keys parts)) (saved.0.some k x is)
      (stands_nowhere (λ a. f (suc a)) parts saved.1
      (λ a within. ⊎_elim
      (λ (none : f (suc a) k ≡ None). none)
      (λ (some : (y : ℕ) × (f (suc a) k ≡ Some y)). absurd (not_first a (alone (suc a) some.0 (omega arith) some.1)))
      (none_or_some (f (suc a) k))))
  stands_once f (part ∷ parts) (suc a) x saved low is alone =
      times-append k (keys part) (flat_map keys parts)
      ∙ last_alone (times k (keys part)) (times k (flat_map keys parts))
      (saved.0.none k (⊎_elim
      (λ (none : f 0 k ≡ None). none)
      (λ (some : (y : ℕ) × (f 0 k ≡ Some y)). absurd (not_first a (sym (alone 0 some.0 (omega arith) some.1))))
      (none_or_some (f 0 k))))
      (stands_once (λ b. f (suc b)) parts a x saved.1 (omega arith) is (λ b y within so. back b a (alone (suc b) y (omega arith) so)))
    where
      back : (b a : ℕ) → suc b ≡ suc a → b ≡ a
      back b a is = omega arith

-- ---- all keys

-- What is so of what machines have saved: it is of the graph alone, of each key there is a number, and one machine has it.
pub record AreWhole (limit machines : ℕ) (f : ℕ → ℕ → Option ℕ) : Type 0 where
  pub inside : (a k x : ℕ) → a < machines → f a k ≡ Some x → k < limit
  pub there : (k : ℕ) → k < limit → (a : ℕ) × (x : ℕ) × (a < machines) × (f a k ≡ Some x)
  pub alone : (a b k x y : ℕ) → a < machines → b < machines → k < limit → f a k ≡ Some x → f b k ≡ Some y → a ≡ b

no_more : (n : ℕ) → n ≡ 1 → n + 0 ≡ 1
no_more n is = omega arith

no_longer : (n limit : ℕ) → n ≡ limit → n + 0 ≡ limit
no_longer n limit is = omega arith

not_some : (n : ℕ) → n ≡ 0 → 1 ≤ n → ⊥
not_some n none some = omega arith

not_low : (k limit : ℕ) → limit ≤ k → k < limit → ⊥
not_low k limit high low = omega arith

pub all_saved : (limit : ℕ) (f : ℕ → ℕ → Option ℕ) (keys : SavedPart → List ℕ) (parts : List SavedPart) → AllSavedBy f keys parts → AreWhole limit (length parts) f → AreAll limit (flat_map keys parts) []
all_saved limit f keys parts saved whole =
    record {
      low = low;
      once = λ k within. no_more (times k (flat_map keys parts)) (once k within);
      long = no_longer (length (flat_map keys parts)) limit (long_is limit (flat_map keys parts) low once);
    }
  where
    once : (k : ℕ) → k < limit → times k (flat_map keys parts) ≡ 1
    once k within =
        let its = whole.there k within in
        stands_once keys k f parts its.0 its.1 saved its.2 its.3 (λ b y low so. whole.alone b its.0 k y its.1 low its.2 within so its.3)

    none_past : (k : ℕ) → limit ≤ k → times k (flat_map keys parts) ≡ 0
    none_past k past =
        stands_nowhere keys k f parts saved
        (λ a within. ⊎_elim
        (λ (none : f a k ≡ None). none)
        (λ (some : (x : ℕ) × (f a k ≡ Some x)). absurd (not_low k limit past (whole.inside a k some.0 within some.1)))
        (none_or_some (f a k)))

    low : AllByRecursion (λ k. k < limit) (flat_map keys parts)
    low = each_by_times (λ k. k < limit) (flat_map keys parts)
        (λ k some. ⊎_elim
        (λ (less : k < limit). less)
        (λ (past : limit ≤ k). absurd (not_some (times k (flat_map keys parts)) (none_past k past) some))
        (cases_lt k limit))
