-- What a machine holds of a setting's graph is in order.
use Rattle.std.proofs.Common.{◌≡◌, ℕ, zero, suc, ◌+◌, ◌-◌, ◌<◌, ◌≤◌, ◌==◌, ◌&&◌, Bool, true, false, Option, None, Some, is_some, List, [], ◌∷◌, slice_get, refl, sym, ap, ◌∙◌, ⊎_elim, arith}
use Rattle.std.specs.Option.{option_map}
use Rattle.std.proofs.lemmas.Bool.{cases_Bool, cases_eq, eq-eqb, and_from}
use Rattle.std.proofs.lemmas.Option.{slice_get-map}
use Rattle.gl_base.specs.declared.numbers.MachineNo.{MachineNo}
use Rattle.gl_base.specs.declared.numbers.Vertex.{Vertex}
use Rattle.cluster_laws.specs.cluster_core.Ranges.{all_passing}
use Rattle.cluster_laws.specs.cluster_core.Scopes.{machines_from, takes_part}
use Rattle.cluster_laws.specs.cluster_core.Settings.{Setting, IsSetting, is_in_scope}
use Rattle.cluster_laws.proofs.cluster_core.Nearness.{owner_takes_part, part_low, scoped_itself}
use Rattle.graph_core.specs.DataGraph.{size}
use Rattle.local_graph.specs.Locals.{LocalView, is_own, part_at, parts_at}
use Rattle.partition.specs.local_parts.Parts.{IsLocalOf, own_in_scope}
use Rattle.machine_core.specs.machine_parts.Parts.{number_of}
use Rattle.machine_core.specs.machine_parts.Order.{IsGraphInOrder}
use Rattle.machine_core.proofs.machine_scopes.HeldLemmas.{one_of, own_in, own_from_setting}
use Rattle.machine_core.proofs.machine_scopes.LawLemmas.{passing_at, part_is, some_number}
use Rattle.machine_core.proofs.machine_scopes.OwnLemmas.{low_of_placed, placed_of_part}

-- ---- ranges

none_there : (x : ℕ) → None ≡ Some x → ⊥
none_there x is = cc

-- a number of such a list is in the range
pub passing_low : (test : ℕ → Bool) (k many i x : ℕ) → slice_get (all_passing test k many) i ≡ Some x → (k ≤ x) × (x < k + many)
unfolding all_passing
passing_low test k zero i x is = absurd (none_there x is)
passing_low test k (suc many) zero x is = ⊎_elim
    (λ (yes : test k ≡ true).
    let first : Some k ≡ Some x = rw yes at is in
    let at : k ≡ x = cc in
    (omega arith, omega arith))
    (λ (passed : test k ≡ false).
    let later : slice_get (all_passing test (suc k) many) 0 ≡ Some x = rw passed at is in
    let both = passing_low test (suc k) many 0 x later in
    (omega (arith, both.0), omega (arith, both.1)))
    (cases_Bool (test k))
passing_low test k (suc many) (suc i) x is = ⊎_elim
    (λ (yes : test k ≡ true).
    let later : slice_get (all_passing test (suc k) many) i ≡ Some x = rw yes at is in
    let both = passing_low test (suc k) many i x later in
    (omega (arith, both.0), omega (arith, both.1)))
    (λ (passed : test k ≡ false).
    let later : slice_get (all_passing test (suc k) many) (suc i) ≡ Some x = rw passed at is in
    let both = passing_low test (suc k) many (suc i) x later in
    (omega (arith, both.0), omega (arith, both.1)))
    (cases_Bool (test k))

-- the numbers of such a list ascend
pub passing_up : (test : ℕ → Bool) (k many i j x y : ℕ) → slice_get (all_passing test k many) i ≡ Some x → slice_get (all_passing test k many) j ≡ Some y → i < j → x < y
unfolding all_passing
passing_up test k zero i j x y at also less = absurd (none_there x at)
passing_up test k (suc many) i zero x y at also less = absurd (omega arith)
passing_up test k (suc many) zero (suc j) x y at also less = ⊎_elim
    (λ (yes : test k ≡ true).
    let first : Some k ≡ Some x = rw yes at at in
    let here : k ≡ x = cc in
    let later : slice_get (all_passing test (suc k) many) j ≡ Some y = rw yes at also in
    let both = passing_low test (suc k) many j y later in
    omega (arith, both.0))
    (λ (passed : test k ≡ false).
    let one : slice_get (all_passing test (suc k) many) 0 ≡ Some x = rw passed at at in
    let other : slice_get (all_passing test (suc k) many) (suc j) ≡ Some y = rw passed at also in
    passing_up test (suc k) many 0 (suc j) x y one other less)
    (cases_Bool (test k))
passing_up test k (suc many) (suc i) (suc j) x y at also less = ⊎_elim
    (λ (yes : test k ≡ true).
    let one : slice_get (all_passing test (suc k) many) i ≡ Some x = rw yes at at in
    let other : slice_get (all_passing test (suc k) many) j ≡ Some y = rw yes at also in
    passing_up test (suc k) many i j x y one other (omega arith))
    (λ (passed : test k ≡ false).
    let one : slice_get (all_passing test (suc k) many) (suc i) ≡ Some x = rw passed at at in
    let other : slice_get (all_passing test (suc k) many) (suc j) ≡ Some y = rw passed at also in
    passing_up test (suc k) many (suc i) (suc j) x y one other less)
    (cases_Bool (test k))

-- one of the range that passes is in the list
pub passing_in : (test : ℕ → Bool) (k many x : ℕ) → k ≤ x → x < k + many → test x ≡ true → (i : ℕ) × (slice_get (all_passing test k many) i ≡ Some x)
unfolding all_passing
passing_in test k zero x from low passes = absurd (omega arith)
passing_in test k (suc many) x from low passes = ⊎_elim
    (λ (yes : test k ≡ true).
    ⊎_elim
    (λ (here : k ≡ x). (zero, rw yes (ap (λ (n : ℕ). Some n) here)))
    (λ (other : k ≡ x → ⊥).
    let later = passing_in test (suc k) many x (omega (arith, other)) (omega arith) passes in
    (suc later.0, rw yes later.1))
    (cases_eq k x))
    (λ (passed : test k ≡ false).
    ⊎_elim
    (λ (here : k ≡ x).
    let both : false ≡ true = sym passed ∙ ap test here ∙ passes in
    cc)
    (λ (other : k ≡ x → ⊥).
    let later = passing_in test (suc k) many x (omega (arith, other)) (omega arith) passes in
    (later.0, rw passed later.1))
    (cases_eq k x))
    (cases_Bool (test k))

-- ---- the graph

module _ (st : Setting) (l : LocalView) (setting : IsSetting st) (is : IsLocalOf st l) where
  -- a vertex of the scope of v, as a number of the cluster's list
  part_number : (v i : ℕ) (x : Vertex) → slice_get (part_at l v) i ≡ Some x → slice_get (own_in_scope st v l.me.0) i ≡ Some x.0
  part_number v i x at =
      let low = low_of_placed st l v is (placed_of_part l v i x at) in
      ap (λ (ns : List ℕ). slice_get ns i) (sym (is.part v low)) ∙ slice_get-map (λ (y : Vertex). y.0) (part_at l v) i ∙ ap number_of at

  -- and a machine
  machine_number : (v i : ℕ) (b : MachineNo) → is_own l v ≡ true → slice_get (parts_at l v) i ≡ Some b → slice_get (machines_from st v 0) i ≡ Some b.0
  machine_number v i b own at =
      ap (λ (ns : List ℕ). slice_get ns i) (sym (is.parts v own)) ∙ slice_get-map (λ (a : MachineNo). a.0) (parts_at l v) i ∙ ap (option_map (λ (a : MachineNo). a.0)) at

  mapped_back : {X Y : Type 0} (f : X → Y) (o : Option X) → is_some (option_map f o) ≡ is_some o
  mapped_back f None = refl
  mapped_back f (Some x) = refl

  pub graph_in_order : IsGraphInOrder l st.machines
  graph_in_order = record {
    me = is.machine;
    own = λ v i x at.
        let low = low_of_placed st l v is (placed_of_part l v i x at) in
        let there = part_is st l v x.0 is low (one_of (part_at l v) i x at) in
        let below = (passing_low (λ y. is_in_scope st v y && st.owner y == l.me.0) 0 (size st.graph) i x.0 (part_number v i x at)).1 in
        own_from_setting st l x.0 is (omega (arith, below)) there.1;
    ascend = λ v i j x y at also less. passing_up (λ u. is_in_scope st v u && st.owner u == l.me.0) 0 (size st.graph) i j x.0 y.0 (part_number v i x at) (part_number v j y also) less;
    self = λ v own.
        let there = own_in st l v is own in
        let test : ℕ → Bool = λ u. is_in_scope st v u && st.owner u == l.me.0 in
        let at = passing_in test 0 (size st.graph) v (omega arith) (omega (arith, there.0)) (and_from (is_in_scope st v v) (st.owner v == l.me.0) (scoped_itself st setting v) (eq-eqb (st.owner v) l.me.0 there.1)) in
        let number : number_of (slice_get (part_at l v) at.0) ≡ Some v = sym (slice_get-map (λ (y : Vertex). y.0) (part_at l v) at.0) ∙ ap (λ (ns : List ℕ). slice_get ns at.0) (is.part v there.0) ∙ at.1 in
        one_of (part_at l v) at.0 (record { 0 = v }) (some_number (slice_get (part_at l v) at.0) v number);
    some = λ v own.
        let there = own_in st l v is own in
        let takes : takes_part st v l.me.0 ≡ true = ap (takes_part st v) (sym there.1) ∙ owner_takes_part st setting v v there.0 (scoped_itself st setting v) in
        let at = passing_in (takes_part st v) 0 (st.machines - 0) l.me.0 (omega arith) (let low = is.machine in omega arith) takes in
        let first = first_some (machines_from st v 0) at.0 l.me.0 at.1 in
        sym (mapped_back (λ (a : MachineNo). a.0) (slice_get (parts_at l v) 0)) ∙ ap is_some (sym (slice_get-map (λ (a : MachineNo). a.0) (parts_at l v) 0) ∙ ap (λ (ns : List ℕ). slice_get ns 0) (is.parts v own)) ∙ first;
    within = λ v i b own at. part_low st setting v b.0 (passing_at (takes_part st v) 0 (st.machines - 0) i b.0 (machine_number v i b own at));
    apart = λ v i j b c own at also less. passing_up (takes_part st v) 0 (st.machines - 0) i j b.0 c.0 (machine_number v i b own at) (machine_number v j c own also) less;
  }
    where
      first_some : (xs : List ℕ) (i x : ℕ) → slice_get xs i ≡ Some x → is_some (slice_get xs 0) ≡ true
      first_some [] i x at = absurd (none_there x at)
      first_some (y ∷ xs) i x at = refl
