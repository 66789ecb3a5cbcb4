-- Data that are set one by one, and the numbers with which a machine begins.
use Rattle.std.proofs.Common.{◌≡◌, ◌<◌, ◌≤◌, ℕ, ◌∙◌, ◌==◌, ◌&&◌, ◌||◌, not, nat_lt, Bool, true, false, Option, Some, None, is_some, List, length, get_or, All, map, filter, ap, sym, subst, refl, arith}
use Rattle.std.specs.List.{list_any, range_with_len}
use Rattle.std.proofs.lemmas.Bool.{and_from, and_parts, eq-eqb, eqb-true, lt-ltb, ltb-true, ne_eqb, true≢false}
use Rattle.std.proofs.lemmas.List.{get_or-map, length-map}
use Rattle.std.proofs.lemmas.List.Elements.{All-map}
use Rattle.std.proofs.lemmas.List.Folds.{Any-from_list_any}
use Rattle.std.proofs.lemmas.List.FromFn.{length-range_with_len}
use Rattle.gl_base.specs.declared.atoms.GhostLine.{GhostLine}
use Rattle.gl_base.specs.declared.numbers.Vertex.{Vertex}
use Rattle.gl_base.specs.declared.scopes.Datum.{Datum}
use Rattle.graph_core.specs.DataGraph.{size}
use Rattle.graph_core.specs.Neighbours.{neighbours_of}
use Rattle.cluster_laws.specs.cluster_core.Ranges.{all_passing}
use Rattle.cluster_laws.specs.cluster_core.Scopes.{is_found, takes_part, own_from}
use Rattle.cluster_laws.specs.cluster_core.Settings.{is_near}
use Rattle.cluster_laws.proofs.cluster_core.Basics.{same_truth}
use Rattle.cluster_laws.proofs.cluster_core.Nearness as near
use Rattle.partition.specs.local_parts.Parts.{is_ghost_of}
use Rattle.partition.proofs.local_parts.FoundLemmas.{Passes, any_mapped, few_passing, found_with, passing_all}
use Rattle.partition.proofs.local_parts.NearLemmas.{neighbour_passes}
use Rattle.partition.proofs.local_parts.RangeLemmas.{filter_passing}
use Rattle.placement.specs.graphs.Placed.{IsLocalOf, LocalView, Setting, is_own}

-- ---- numbers that pass a test

passing_is : (p : ℕ → Bool) (n : ℕ) → filter p (range_with_len 0 n) ≡ all_passing p 0 n
passing_is p n = filter_passing p p 0 n (λ x low high. refl)

-- each of them passes
pub all_pass : (p : ℕ → Bool) (n : ℕ) → All (Passes p n) (all_passing p 0 n)
all_pass p n = subst (All (Passes p n)) (passing_is p n) (passing_all p 0 n n (omega arith))

-- they are no more than the numbers
pub few_pass : (p : ℕ → Bool) (n : ℕ) → length (all_passing p 0 n) ≤ n
few_pass p n =
    let few = few_passing p (range_with_len 0 n) in
    let many : length (range_with_len 0 n) ≡ n = length-range_with_len 0 n in
    omega (arith, few, many, ap length (passing_is p n))

-- who passes is one of them
pub is_listed : (p : ℕ → Bool) (n v : ℕ) → v < n → p v ≡ true → list_any (λ x. x == v) (all_passing p 0 n) ≡ true
is_listed p n v low passes =
    ap (list_any (λ x. x == v)) (sym (passing_is p n)) ∙ found_with p (λ x. x == v) 0 n v (omega arith) (omega arith) passes (eq-eqb v v refl)

-- what holds of a list holds of each number that stands there
pub at_listed : (Q : ℕ → Type 0) (xs : List ℕ) (v : ℕ) → list_any (λ x. x == v) xs ≡ true → All Q xs → Q v
at_listed Q xs v stands all =
    let there = Any-from_list_any (λ x. x == v) xs stands in
    subst Q (eqb-true there.1 v there.4) (subst Q there.3 (all there.0 there.1 there.2))

-- who passes is one of the numbers, and no other
pub listed_is : (p : ℕ → Bool) (n v : ℕ) → list_any (λ x. x == v) (all_passing p 0 n) ≡ (nat_lt v n && p v)
listed_is p n v =
    same_truth (list_any (λ x. x == v) (all_passing p 0 n)) (nat_lt v n && p v)
    (λ stands.
    let passes = at_listed (Passes p n) (all_passing p 0 n) v stands (all_pass p n) in
    and_from (nat_lt v n) (p v) (lt-ltb v n passes.low) passes.is)
    (λ both.
    let parts = and_parts (nat_lt v n) (p v) both in
    is_listed p n v (ltb-true v n parts.0) parts.1)

-- what holds of the items of a list that is mapped
all_from : {X Y : Type 0} (P : Y → Type 0) (f : X → Y) (xs : List X) → All P (map f xs) → All (λ x. P (f x)) xs
all_from P f xs all = λ k d low. subst P (get_or-map f xs k d (f d) low) (all k (f d) (omega (arith, length-map xs f)))

pub none_there : {X : Type 0} (o : Option X) → is_some o ≡ false → o ≡ None
none_there None e = refl
none_there (Some x) e = absurd (true≢false e)

-- ---- what a machine holds

abbrev pub owned_by : Setting → ℕ → ℕ → Bool
owned_by st a x = st.owner x == a

module _ (st : Setting) (l : LocalView) (local : IsLocalOf st l) where
  owned_pass : All (λ (v : Vertex). Passes (owned_by st l.me.0) (size st.graph) v.0) l.owned
  owned_pass =
      all_from (Passes (owned_by st l.me.0) (size st.graph)) (λ (v : Vertex). v.0) l.owned
      (subst (All (Passes (owned_by st l.me.0) (size st.graph))) (sym local.owned) (all_pass (owned_by st l.me.0) (size st.graph)))

  ghosts_pass : All (λ (g : GhostLine). Passes (is_ghost_of st l.me.0) (size st.graph) g.vertex.0) l.ghosts
  ghosts_pass =
      all_from (Passes (is_ghost_of st l.me.0) (size st.graph)) (λ (g : GhostLine). g.vertex.0) l.ghosts
      (subst (All (Passes (is_ghost_of st l.me.0) (size st.graph))) (sym local.ghosts) (all_pass (is_ghost_of st l.me.0) (size st.graph)))

  pub owned_own : All (λ (v : Vertex). is_own l v.0 ≡ true) l.owned
  owned_own = λ k d low.
      let passes = owned_pass k d low in
      let v = (get_or l.owned k d).0 in
      local.own v ∙ and_from (nat_lt v (size st.graph)) (owned_by st l.me.0 v) (lt-ltb v (size st.graph) passes.low) passes.is

  pub owned_low : All (λ (v : Vertex). v.0 < size st.graph) l.owned
  owned_low = λ k d low. (owned_pass k d low).low

  pub ghosts_low : All (λ (g : GhostLine). g.vertex.0 < size st.graph) l.ghosts
  ghosts_low = λ k d low. (ghosts_pass k d low).low

  pub owned_few : length l.owned ≤ size st.graph
  owned_few =
      let few = few_pass (owned_by st l.me.0) (size st.graph) in
      omega (arith, few, ap length local.owned, length-map l.owned (λ (v : Vertex). v.0))

  pub ghosts_few : length l.ghosts ≤ size st.graph
  ghosts_few =
      let few = few_pass (is_ghost_of st l.me.0) (size st.graph) in
      omega (arith, few, ap length local.ghosts, length-map l.ghosts (λ (g : GhostLine). g.vertex.0))

  -- who stands among the ghosts
  pub ghost_listed : (x : ℕ) → list_any (λ (g : GhostLine). g.vertex.0 == x) l.ghosts ≡ (nat_lt x (size st.graph) && is_ghost_of st l.me.0 x)
  ghost_listed x =
      sym (any_mapped (λ (y : ℕ). y == x) (λ (g : GhostLine). g.vertex.0) l.ghosts)
      ∙ ap (list_any (λ (y : ℕ). y == x)) local.ghosts ∙ listed_is (is_ghost_of st l.me.0) (size st.graph) x

  pub ghosts_known : All (λ (g : GhostLine). list_any (λ (h : GhostLine). h.vertex.0 == g.vertex.0) l.ghosts ≡ true) l.ghosts
  ghosts_known = λ k d low.
      let passes = ghosts_pass k d low in
      let x = (get_or l.ghosts k d).vertex.0 in
      ghost_listed x ∙ and_from (nat_lt x (size st.graph)) (is_ghost_of st l.me.0 x) (lt-ltb x (size st.graph) passes.low) passes.is

  -- what holds of the listed own vertices holds of each own vertex
  pub own_at : (Q : ℕ → Type 0) (v : ℕ) → v < size st.graph → owned_by st l.me.0 v ≡ true → All (λ (u : Vertex). Q u.0) l.owned → Q v
  own_at Q v low own all =
      at_listed Q (all_passing (owned_by st l.me.0) 0 (size st.graph)) v (is_listed (owned_by st l.me.0) (size st.graph) v low own)
      (subst (All Q) local.owned (All-map Q (λ (u : Vertex). u.0) l.owned all))

  pub ghost_at : (Q : ℕ → Type 0) (v : ℕ) → v < size st.graph → is_ghost_of st l.me.0 v ≡ true → All (λ (g : GhostLine). Q g.vertex.0) l.ghosts → Q v
  ghost_at Q v low is all =
      at_listed Q (all_passing (is_ghost_of st l.me.0) 0 (size st.graph)) v (is_listed (is_ghost_of st l.me.0) (size st.graph) v low is)
      (subst (All Q) local.ghosts (All-map Q (λ (g : GhostLine). g.vertex.0) l.ghosts all))

  -- the part is the graph's still, whatever data and numbers of edges the machine keeps
  pub with_data : (kept : List Datum) (numbers : List ℕ) → ((x : ℕ) → is_own (record l { kept = kept; numbers = numbers }) x ≡ is_own l x) → length numbers ≡ length l.numbers →
      IsLocalOf st (record l { kept = kept; numbers = numbers })
  with_data kept numbers same many =
      record {
        machine = local.machine;
        owned = local.owned;
        own = λ x. same x ∙ local.own x;
        ghosts = local.ghosts;
        known = local.known;
        ids = λ x own. local.ids x (sym (same x) ∙ own);
        edges = many ∙ local.edges;
        rows = λ v links own. local.rows v links (sym (same v) ∙ own);
        sides = λ v own. local.sides v (sym (same v) ∙ own);
        owners = λ v own. local.owners v (sym (same v) ∙ own);
        places = λ v own. local.places v (sym (same v) ∙ own);
        parts = λ v own. local.parts v (sym (same v) ∙ own);
        part = local.part;
      }

-- who takes part in the scope of a vertex that another machine owns has it as a ghost
pub part_is_ghost : (st : Setting) (v a : ℕ) → takes_part st v a ≡ true → (st.owner v == a) ≡ false → is_ghost_of st a v ≡ true
part_is_ghost st v a takes off = from_found (own_from st v a 0) refl takes
  where
    from_found : (o : Option ℕ) → own_from st v a 0 ≡ o → is_found o ≡ true → is_ghost_of st a v ≡ true
    from_found None at found = absurd (true≢false (sym found))
    from_found (Some x) at found =
        let is = near.is_own st v a 0 x at in
        let owner : (st.owner x == a) ≡ true = eq-eqb (st.owner x) a is.3 in
        let apart : (x == v) ≡ false = ne_eqb x v (λ same. true≢false (sym owner ∙ ap (λ (y : ℕ). st.owner y == a) same ∙ off)) in
        let beside : is_near st v x ≡ true = sym (ap (λ (b : Bool). b || is_near st v x) apart) ∙ is.2 in
        and_from (not (st.owner v == a)) (list_any (λ u. st.owner u == a) (neighbours_of st.graph v)) (ap not off)
        (neighbour_passes st.graph (λ u. st.owner u == a) v x is.1 beside owner)
