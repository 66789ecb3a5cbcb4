-- A machine's vertices in a scope, and the machines of a scope, along the neighbours of its vertex.
use Rattle.std.proofs.Common.{◌≡◌, ◌≢◌, ◌⊎◌, ℕ, zero, suc, ◌+◌, ◌-◌, ◌<◌, ◌≤◌, ◌==◌, ◌&&◌, ◌||◌, Bool, true, false, if◌then◌else◌, List, [], ◌∷◌, ◌++◌, append-nil, append_assoc, drop, inl, inr, length, map, slice_index_or, refl, sym, ◌∙◌, ap, ap₂, ⊎_elim, arith, eq-eqb, ne_eqb}
use Rattle.std.specs.List.{filter, list_any, range_with_len}
use Rattle.std.proofs.lemmas.Bool.{cases_eq, cases_lt}
use Rattle.std.proofs.Math.Seq.{drop-cons}
use Rattle.std.proofs.lemmas.List.Folds.{list_any-append}
use Rattle.gl_base.specs.declared.numbers.MachineNo.{MachineNo}
use Rattle.gl_base.specs.declared.numbers.Vertex.{Vertex}
use Rattle.graph_core.specs.DataGraph.{DataGraph, size}
use Rattle.graph_core.specs.Neighbours.{neighbours_of}
use Rattle.full_cluster.specs.Inner.Ways.{has_own_of, is_joined, is_own_of, passing}
use Rattle.full_cluster.proofs.PassingLemmas.{passing-append, passing-head, passing-nil, passing-none, passing_one}

or_yes : (a : Bool) → (a || true) ≡ true
or_yes true = refl
or_yes false = refl

-- ---- a machine's vertices

pub map_pushed : (items : List Vertex) (x : Vertex) (b : Bool) → map (λ (y : Vertex). y.0) (items ++ (if b then x ∷ [] else [])) ≡ map (λ (y : Vertex). y.0) items ++ (if b then x.0 ∷ [] else [])
map_pushed [] x true = refl
map_pushed [] x false = refl
map_pushed (y ∷ items) x b = ap (λ (ns : List ℕ). y.0 ∷ ns) (map_pushed items x b)

module _ (g : DataGraph) (owner : ℕ → ℕ) (v a : ℕ) where
  abbrev own : ℕ → Bool
  own = is_own_of g owner v a

  abbrev one : ℕ → List ℕ
  one x = if owner x == a then x ∷ [] else []

  abbrev AreNone : ℕ → ℕ → Type 0
  AreNone k many = (c : ℕ) → k ≤ c → c < k + many → is_joined g v c ≡ false

  off_v : (k many : ℕ) → AreNone k many → (c : ℕ) → k ≤ c → c < k + many → c ≢ v → own c ≡ false
  off_v k many none c low high off = rw (ne_eqb c v off, none c low high) refl

  own_v : own v ≡ (owner v == a)
  own_v = rw (eq-eqb v v refl) refl

  pub with_v : (k many : ℕ) → AreNone k many → k ≤ v → v < k + many → passing own k many ≡ one v
  with_v k many none low high = passing_one own v k many (off_v k many none) low high ∙ ap (λ (b : Bool). if b then v ∷ [] else []) own_v

  pub before_v : (k many : ℕ) → AreNone k many → k + many ≤ v → passing own k many ≡ []
  before_v k many none out = passing-none own k many (λ c low high. off_v k many none c low high (λ is. absurd (omega arith)))

  pub behind_v : (k many : ℕ) → AreNone k many → v < k → passing own k many ≡ []
  behind_v k many none out = passing-none own k many (λ c low high. off_v k many none c low high (λ is. absurd (omega arith)))

  own_near : (u : ℕ) → is_joined g v u ≡ true → own u ≡ (owner u == a)
  own_near u near = ap (λ (b : Bool). (u == v || b) && owner u == a) near ∙ ap (λ (b : Bool). b && owner u == a) (or_yes (u == v))

  -- the next neighbour is u
  pub next_near : (n from u : ℕ) (rest : List ℕ) → from ≤ n → u ∷ rest ≡ passing (is_joined g v) from (n - from) →
      (from ≤ u) × (u < n) × (is_joined g v u ≡ true) × AreNone from (u - from) × (rest ≡ passing (is_joined g v) (u + 1) (n - (u + 1)))
  next_near n from u rest low is =
      let h = passing-head (is_joined g v) from (n - from) u rest (sym is) in
      let all : from + (n - from) ≡ n = omega arith in (
        h.0,
        omega (arith, h.1),
        h.2,
        (λ c least most. h.3 c least (omega (arith, h.0))),
        h.4 ∙ ap (λ (m : ℕ). passing (is_joined g v) (u + 1) (m - (u + 1))) all,
      )

  -- no neighbour is left
  pub last_near : (n from : ℕ) → [] ≡ passing (is_joined g v) from (n - from) → AreNone from (n - from)
  last_near n from is = passing-nil (is_joined g v) from (n - from) (sym is)

  up_to : (from u : ℕ) → from ≤ u → is_joined g v u ≡ true → passing own 0 (u + 1) ≡ passing own 0 from ++ (passing own from (u - from) ++ one u)
  up_to from u low near =
      let all : u + 1 ≡ from + (u - from + 1) = omega arith in
      let first : 0 + from ≡ from = omega arith in
      let there : from + (u - from) ≡ u = omega arith in
      ap (passing own 0) all
      ∙ passing-append own 0 from (u - from + 1)
      ∙ ap (λ (ns : List ℕ). passing own 0 from ++ ns)
      (ap (λ (k : ℕ). passing own k (u - from + 1)) first
      ∙ passing-append own from (u - from) 1
      ∙ ap (λ (ns : List ℕ). passing own from (u - from) ++ ns)
      (ap (λ (k : ℕ). passing own k 1) there ∙ ap (λ (b : Bool). if b then u ∷ [] else []) (own_near u near)))

  -- v stands before u
  pub two_more : (from u : ℕ) (items : List ℕ) → from ≤ u → is_joined g v u ≡ true → AreNone from (u - from) → from ≤ v → v < u → items ≡ passing own 0 from → (items ++ one v) ++ one u ≡ passing own 0 (u + 1)
  two_more from u items low near none least most is =
      append_assoc items (one v) (one u)
      ∙ ap₂ (λ (xs ys : List ℕ). xs ++ (ys ++ one u)) is (sym (with_v from (u - from) none least (omega arith)))
      ∙ sym (up_to from u low near)

  pub one_more : (from u : ℕ) (items : List ℕ) → from ≤ u → is_joined g v u ≡ true → AreNone from (u - from) → (v < from) ⊎ (u ≤ v) → items ≡ passing own 0 from → items ++ one u ≡ passing own 0 (u + 1)
  one_more from u items low near none out is =
      let nothing : passing own from (u - from) ≡ [] = ⊎_elim
      (λ (before : v < from). behind_v from (u - from) none before)
      (λ (behind : u ≤ v). before_v from (u - from) none (omega arith))
      out in
      ap₂ (λ (xs ys : List ℕ). xs ++ (ys ++ one u)) is (sym nothing) ∙ sym (up_to from u low near)

  to_end : (n from : ℕ) → from ≤ n → passing own 0 n ≡ passing own 0 from ++ passing own from (n - from)
  to_end n from low =
      let all : n ≡ from + (n - from) = omega arith in
      let first : 0 + from ≡ from = omega arith in
      ap (passing own 0) all ∙ passing-append own 0 from (n - from) ∙ ap (λ (k : ℕ). passing own 0 from ++ passing own k (n - from)) first

  pub last_with_v : (n from : ℕ) (items : List ℕ) → from ≤ n → AreNone from (n - from) → from ≤ v → v < n → items ≡ passing own 0 from → items ++ one v ≡ passing own 0 n
  last_with_v n from items low none least most is = ap₂ (λ (xs ys : List ℕ). xs ++ ys) is (sym (with_v from (n - from) none least (omega arith))) ∙ sym (to_end n from low)

  pub last_without_v : (n from : ℕ) (items : List ℕ) → from ≤ n → AreNone from (n - from) → (v < from) ⊎ (n ≤ v) → items ≡ passing own 0 from → items ≡ passing own 0 n
  last_without_v n from items low none out is =
      let nothing : passing own from (n - from) ≡ [] = ⊎_elim
      (λ (before : v < from). behind_v from (n - from) none before)
      (λ (behind : n ≤ v). before_v from (n - from) none (omega arith))
      out in
      is ∙ sym (append-nil (passing own 0 from)) ∙ ap (λ (ns : List ℕ). passing own 0 from ++ ns) (sym nothing) ∙ sym (to_end n from low)

  -- the machine's vertices up to u, where u is the next neighbour
  pub own_step : (n from u : ℕ) (rest before mid after : List ℕ) → from ≤ n → u ∷ rest ≡ passing (is_joined g v) from (n - from) → before ≡ passing own 0 from →
      (from ≤ v → v < u → mid ≡ before ++ one v) → ((v < from) ⊎ (u ≤ v) → mid ≡ before) → after ≡ mid ++ one u → after ≡ passing own 0 (u + 1)
  own_step n from u rest before mid after low is so_far within outside more =
      let h = next_near n from u rest low is in
      let elsewhere : (v < from) ⊎ (u ≤ v) → after ≡ passing own 0 (u + 1) = λ out.
      more ∙ ap (λ (ns : List ℕ). ns ++ one u) (outside out) ∙ one_more from u before h.0 h.2 h.3 out so_far in
      ⊎_elim
      (λ (early : v < from). elsewhere (inl early))
      (λ (least : from ≤ v). ⊎_elim
      (λ (most : v < u). more ∙ ap (λ (ns : List ℕ). ns ++ one u) (within least most) ∙ two_more from u before h.0 h.2 h.3 least most so_far)
      (λ (late : u ≤ v). elsewhere (inr late))
      (cases_lt v u))
      (cases_lt v from)

  -- and all of them, where no neighbour is left
  pub own_end : (n from : ℕ) (before after : List ℕ) → from ≤ n → [] ≡ passing (is_joined g v) from (n - from) → before ≡ passing own 0 from →
      (from ≤ v → v < n → after ≡ before ++ one v) → ((v < from) ⊎ (n ≤ v) → after ≡ before) → after ≡ passing own 0 n
  own_end n from before after low is so_far within outside =
      let none = last_near n from is in
      ⊎_elim
      (λ (early : v < from). last_without_v n from after low none (inl early) (outside (inl early) ∙ so_far))
      (λ (least : from ≤ v). ⊎_elim
      (λ (most : v < n). within least most ∙ last_with_v n from before low none least most so_far)
      (λ (late : n ≤ v). last_without_v n from after low none (inr late) (outside (inr late) ∙ so_far))
      (cases_lt v n))
      (cases_lt v from)

-- the next neighbour stands before the others
pub head_is : (items : List Vertex) (i : ℕ) (d : Vertex) (ns : List ℕ) → i < length items → map (λ (x : Vertex). x.0) (drop i items) ≡ ns → (slice_index_or items i d).0 ∷ map (λ (x : Vertex). x.0) (drop (i + 1) items) ≡ ns
head_is items i d ns inside is =
    let one : i + 1 ≡ suc i = omega arith in
    ap (λ (k : ℕ). (slice_index_or items i d).0 ∷ map (λ (x : Vertex). x.0) (drop k items)) one
    ∙ sym (ap (map (λ (x : Vertex). x.0)) (drop-cons items i d inside)) ∙ is

pub none_left : (items : List Vertex) (i : ℕ) → length items ≤ i → [] ≡ map (λ (x : Vertex). x.0) (drop i items)
none_left [] zero past = refl
none_left [] (suc i) past = refl
none_left (x ∷ items) zero past = absurd (omega arith)
none_left (x ∷ items) (suc i) past = none_left items i (omega arith)

-- ---- the machines

pub passing-alike : (test other : ℕ → Bool) (k many : ℕ) → ((c : ℕ) → k ≤ c → c < k + many → test c ≡ other c) → passing test k many ≡ passing other k many
passing-alike test other k zero alike = refl
passing-alike test other k (suc many) alike =
    let here = alike k (omega arith) (omega arith) in
    let later = passing-alike test other (k + 1) many (λ c low high. alike c (omega arith) (omega arith)) in
    ap₂ (λ (b : Bool) (ns : List ℕ). if b then k ∷ ns else ns) here later

split_one : (a b c d e : Bool) → (((a || b) && c) || (d || e)) ≡ (((a && c) || d) || (if b then c || e else e))
split_one true true true d e = refl
split_one true true false d e = refl
split_one true false true d e = refl
split_one true false false d e = refl
split_one false true true true e = refl
split_one false true true false e = refl
split_one false true false d e = refl
split_one false false c d e = refl

any_if : (test : ℕ → Bool) (b : Bool) (x : ℕ) (xs : List ℕ) → list_any test (if b then x ∷ xs else xs) ≡ (if b then test x || list_any test xs else list_any test xs)
any_if test true x xs = refl
any_if test false x xs = refl

-- some number passes one of two tests and a third one
any_split : (p q r : ℕ → Bool) (xs : List ℕ) → list_any (λ x. (p x || q x) && r x) xs ≡ (list_any (λ x. p x && r x) xs || list_any r (filter q xs))
any_split p q r [] = refl
any_split p q r (x ∷ xs) =
    ap (λ (b : Bool). ((p x || q x) && r x) || b) (any_split p q r xs)
    ∙ split_one (p x) (q x) (r x) (list_any (λ y. p y && r y) xs) (list_any r (filter q xs))
    ∙ ap (λ (b : Bool). ((p x && r x) || list_any (λ y. p y && r y) xs) || b) (sym (any_if r (q x) x (filter q xs)))

any_past : (r : ℕ → Bool) (v k many : ℕ) → v < k → list_any (λ x. x == v && r x) (range_with_len k many) ≡ false
any_past r v k zero past = refl
any_past r v k (suc many) past =
    let off : (k == v) ≡ false = ne_eqb k v (λ is. absurd (omega arith)) in
    rw off (any_past r v (k + 1) many (omega arith))

any_at : (r : ℕ → Bool) (v k many : ℕ) → k ≤ v → v < k + many → list_any (λ x. x == v && r x) (range_with_len k many) ≡ r v
any_at r v k zero low high = absurd (omega arith)
any_at r v k (suc many) low high = ⊎_elim
    (λ (at : k ≡ v).
    ap (λ (b : Bool). (b && r k) || list_any (λ x. x == v && r x) (range_with_len (k + 1) many)) (eq-eqb k v at)
    ∙ ap₂ (λ (n : ℕ) (b : Bool). r n || b) at (any_past r v (k + 1) many (omega arith)) ∙ or_none (r v))
    (λ (off : k ≢ v).
    ap (λ (b : Bool). (b && r k) || list_any (λ x. x == v && r x) (range_with_len (k + 1) many)) (ne_eqb k v off)
    ∙ any_at r v (k + 1) many (omega (arith, off)) (omega arith))
    (cases_eq k v)
  where
    or_none : (b : Bool) → (b || false) ≡ b
    or_none true = refl
    or_none false = refl

any_numbers : (test : ℕ → Bool) (us : List Vertex) → list_any (λ (u : Vertex). test u.0) us ≡ list_any test (map (λ (u : Vertex). u.0) us)
any_numbers test [] = refl
any_numbers test (u ∷ us) = ap (λ (b : Bool). test u.0 || b) (any_numbers test us)

turned : (a b : Bool) → (a || b) ≡ (b || (a || false))
turned true true = refl
turned true false = refl
turned false true = refl
turned false false = refl

-- a machine owns v or a neighbour
pub has_own_is : (g : DataGraph) (owner : ℕ → ℕ) (v : Vertex) (a : ℕ) (near : List Vertex) → v.0 < size g → map (λ (u : Vertex). u.0) near ≡ neighbours_of g v.0 → has_own_of g owner v.0 a ≡ list_any (λ (u : Vertex). owner u.0 == a) (near ++ v ∷ [])
has_own_is g owner v a near low is =
    any_split (λ x. x == v.0) (is_joined g v.0) (λ x. owner x == a) (range_with_len 0 (size g))
    ∙ ap₂ (λ (b c : Bool). b || c)
    (any_at (λ x. owner x == a) v.0 0 (size g) (omega arith) (omega arith))
    (ap (list_any (λ x. owner x == a)) (sym is) ∙ sym (any_numbers (λ x. owner x == a) near))
    ∙ turned (owner v.0 == a) (list_any (λ (u : Vertex). owner u.0 == a) near)
    ∙ sym (list_any-append (λ (u : Vertex). owner u.0 == a) near (v ∷ []))

pub map_marked : (list : List MachineNo) (m : MachineNo) (b : Bool) → map (λ (x : MachineNo). x.0) (list ++ (if b then m ∷ [] else [])) ≡ map (λ (x : MachineNo). x.0) list ++ (if b then m.0 ∷ [] else [])
map_marked [] m true = refl
map_marked [] m false = refl
map_marked (x ∷ list) m b = ap (λ (ns : List ℕ). x.0 ∷ ns) (map_marked list m b)
