-- In which stage a scope is, by what is seen of it.
use Rattle.std.proofs.Common.{◌≡◌, ◌≢◌, ◌⊎◌, ℕ, suc, ◌==◌, ◌&&◌, Bool, true, false, Some, List, [], ◌∷◌, refl, sym, ◌∙◌, ap, inl, inr}
use Rattle.std.proofs.lemmas.Bool.{eqb-true, eq-eqb, and_parts, both_ways}
use Rattle.gl_base.specs.declared.scopes.Claim.{Claim}
use Rattle.gl_base.specs.declared.scopes.Mode.TheVariants.{Reader, Writer}
use Rattle.gl_base.specs.declared.scopes.ScopeId.{ScopeId}
use Rattle.cluster_laws.specs.cluster_core.Settings.{Setting}
use Rattle.cluster_laws.specs.cluster_core.Scopes.{mode_at, machines_from}
use Rattle.cluster_laws.specs.cluster_core.Stages.{Token, IsAsked, IsReady, IsDone, Stage, Idle, Asks, Waits, Returns, Stays, Ends, sight_of, has_lock, centre_of, flying, some_if, one_if}
use Rattle.cluster_laws.specs.cluster_core.Places.{IsStageOf}

-- a list of one if the test passes
one_if-cons : {X : Type 0} (test : Bool) (x y : X) (more : List X) → one_if test x ≡ y ∷ more → (test ≡ true) × (x ≡ y) × (more ≡ [])
one_if-cons true x y more is = (refl, cc, cc)
one_if-cons false x y more is = cc

asked_same : (v c : ℕ) (one other : List ℕ) → IsAsked v one ≡ IsAsked c other → (v ≡ c) × (one ≡ other)
asked_same v c one other is = (cc, cc)

done_same : (v c : ℕ) → IsDone v ≡ IsDone c → v ≡ c
done_same v c is = cc

pub some_centre : (v c : ℕ) → Some v ≡ Some c → v ≡ c
some_centre v c is = cc

module _ (st : Setting) (s : ScopeId) where
  pub asked_stage : (x : Stage) (p q v : ℕ) (rest : List ℕ) (more : List Token) → (sight_of st s x).tokens p q ≡ IsAsked v rest ∷ more → (x ≡ Asks v p q) × (rest ≡ machines_from st v (suc q)) × (more ≡ [])
  asked_stage Idle p q v rest more is = cc
  asked_stage (Asks c from to) p q v rest more is =
      let h = one_if-cons (p == from && q == to) (IsAsked c (machines_from st c (suc to))) (IsAsked v rest) more is in
      let places = and_parts (p == from) (q == to) h.0 in
      let same = asked_same c v (machines_from st c (suc to)) rest h.1 in
      let from_is : from ≡ p = sym (eqb-true p from places.0) in
      let to_is : to ≡ q = sym (eqb-true q to places.1) in
      ((λ i. Asks (same.0 i) (from_is i) (to_is i)), sym same.1 ∙ (λ i. machines_from st (same.0 i) (suc (to_is i))), h.2)
  asked_stage (Waits c lock) p q v rest more is = cc
  asked_stage (Returns c from) p q v rest more is =
      let h = one_if-cons (p == from && q == s.home.0) IsReady (IsAsked v rest) more is in
      let other : IsReady ≡ IsAsked v rest = h.1 in
      cc
  asked_stage (Stays c) p q v rest more is = cc
  asked_stage (Ends c to) p q v rest more is =
      let h = one_if-cons (p == s.home.0 && to q) (IsDone c) (IsAsked v rest) more is in
      let other : IsDone c ≡ IsAsked v rest = h.1 in
      cc

  pub ready_stage : (x : Stage) (p q : ℕ) (more : List Token) → (sight_of st s x).tokens p q ≡ IsReady ∷ more → (v : ℕ) × (x ≡ Returns v p) × (q ≡ s.home.0) × (more ≡ [])
  ready_stage Idle p q more is = cc
  ready_stage (Asks c from to) p q more is =
      let h = one_if-cons (p == from && q == to) (IsAsked c (machines_from st c (suc to))) IsReady more is in
      let other : IsAsked c (machines_from st c (suc to)) ≡ IsReady = h.1 in
      cc
  ready_stage (Waits c lock) p q more is = cc
  ready_stage (Returns c from) p q more is =
      let h = one_if-cons (p == from && q == s.home.0) IsReady IsReady more is in
      let places = and_parts (p == from) (q == s.home.0) h.0 in
      (c, (λ i. Returns c (sym (eqb-true p from places.0) i)), eqb-true q s.home.0 places.1, h.2)
  ready_stage (Stays c) p q more is = cc
  ready_stage (Ends c to) p q more is =
      let h = one_if-cons (p == s.home.0 && to q) (IsDone c) IsReady more is in
      let other : IsDone c ≡ IsReady = h.1 in
      cc

  pub done_stage : (x : Stage) (p q v : ℕ) (more : List Token) → (sight_of st s x).tokens p q ≡ IsDone v ∷ more → (to : ℕ → Bool) × (x ≡ Ends v to) × (p ≡ s.home.0) × (to q ≡ true) × (more ≡ [])
  done_stage Idle p q v more is = cc
  done_stage (Asks c from to) p q v more is =
      let h = one_if-cons (p == from && q == to) (IsAsked c (machines_from st c (suc to))) (IsDone v) more is in
      let other : IsAsked c (machines_from st c (suc to)) ≡ IsDone v = h.1 in
      cc
  done_stage (Waits c lock) p q v more is = cc
  done_stage (Returns c from) p q v more is =
      let h = one_if-cons (p == from && q == s.home.0) IsReady (IsDone v) more is in
      let other : IsReady ≡ IsDone v = h.1 in
      cc
  done_stage (Stays c) p q v more is = cc
  done_stage (Ends c to) p q v more is =
      let h = one_if-cons (p == s.home.0 && to q) (IsDone c) (IsDone v) more is in
      let places = and_parts (p == s.home.0) (to q) h.0 in
      (to, (λ i. Ends (done_same c v h.1 i) to), eqb-true p s.home.0 places.0, places.1, h.2)

  pub waiting_stage : (x : Stage) (y : ℕ) (c : Claim) (more : List Claim) → (sight_of st s x).queue y ≡ c ∷ more → (v : ℕ) × (x ≡ Waits v y) × (c.mode ≡ mode_at v y) × (more ≡ [])
  waiting_stage Idle y c more is = cc
  waiting_stage (Asks v from to) y c more is = cc
  waiting_stage (Waits v lock) y c more is =
      let h = one_if-cons (y == lock) (record { scope = s; mode = mode_at v lock }) c more is in
      let at : lock ≡ y = sym (eqb-true y lock h.0) in
      (v, (λ i. Waits v (at i)), sym (ap (λ (claim : Claim). claim.mode) h.1) ∙ ap (mode_at v) at, h.2)
  waiting_stage (Returns v from) y c more is = cc
  waiting_stage (Stays v) y c more is = cc
  waiting_stage (Ends v to) y c more is = cc

  pub staying_stage : (x : Stage) (v : ℕ) → (sight_of st s x).flight ≡ Some v → (sight_of st s x).ready ≡ true → x ≡ Stays v
  staying_stage Idle v flight ready = cc
  staying_stage (Asks c from to) v flight ready = cc
  staying_stage (Waits c lock) v flight ready = cc
  staying_stage (Returns c from) v flight ready = cc
  staying_stage (Stays c) v flight ready = ap Stays (some_centre c v flight)
  staying_stage (Ends c to) v flight ready = cc

  pub idle_or_busy : (x : Stage) → (x ≡ Idle) ⊎ (x ≢ Idle)
  idle_or_busy Idle = inl refl
  idle_or_busy (Asks c from to) = inr (λ is. cc)
  idle_or_busy (Waits c lock) = inr (λ is. cc)
  idle_or_busy (Returns c from) = inr (λ is. cc)
  idle_or_busy (Stays c) = inr (λ is. cc)
  idle_or_busy (Ends c to) = inr (λ is. cc)

  -- a lock that the scope has is seen
  pub lock_seen : (x : Stage) (y : ℕ) → has_lock st x y ≡ true → (c : ℕ) × (centre_of x ≡ Some c) × ((sight_of st s x).holder y ≡ Some (mode_at c y))
  lock_seen Idle y has = absurd (both_ways false refl has)
  lock_seen (Asks v from to) y has = (v, refl, ap (λ (test : Bool). some_if test (mode_at v y)) has)
  lock_seen (Waits v lock) y has = (v, refl, ap (λ (test : Bool). some_if test (mode_at v y)) has)
  lock_seen (Returns v from) y has = (v, refl, ap (λ (test : Bool). some_if test (mode_at v y)) has)
  lock_seen (Stays v) y has = (v, refl, ap (λ (test : Bool). some_if test (mode_at v y)) has)
  lock_seen (Ends v to) y has = (v, refl, ap (λ (test : Bool). some_if test (mode_at v y)) has)

  -- a flying scope has its centre
  pub flying_centre : (x : Stage) (v : ℕ) → (sight_of st s x).flight ≡ Some v → centre_of x ≡ Some v
  flying_centre Idle v is = is
  flying_centre (Asks c from to) v is = is
  flying_centre (Waits c lock) v is = is
  flying_centre (Returns c from) v is = is
  flying_centre (Stays c) v is = is
  flying_centre (Ends c to) v is = cc

  -- what is in flight is seen, and is of the scope's home
  pub flying_seen : (x : Stage) → (sight_of st s x).flight ≡ flying x
  flying_seen Idle = refl
  flying_seen (Asks c from to) = refl
  flying_seen (Waits c lock) = refl
  flying_seen (Returns c from) = refl
  flying_seen (Stays c) = refl
  flying_seen (Ends c to) = refl

  pub flying_home : (x : Stage) (v : ℕ) → IsStageOf st s x → flying x ≡ Some v → st.owner v ≡ s.home.0
  flying_home Idle v stage is = cc
  flying_home (Asks c from to) v stage is = ap st.owner (sym (some_centre c v is)) ∙ stage.0.owned
  flying_home (Waits c lock) v stage is = ap st.owner (sym (some_centre c v is)) ∙ stage.0.owned
  flying_home (Returns c from) v stage is = ap st.owner (sym (some_centre c v is)) ∙ stage.0.owned
  flying_home (Stays c) v stage is = ap st.owner (sym (some_centre c v is)) ∙ stage.owned
  flying_home (Ends c to) v stage is = cc

modes_differ : Writer ≡ Reader → ⊥
modes_differ is = cc

pub reader_elsewhere : (v x : ℕ) → mode_at v x ≡ Reader → x ≢ v
reader_elsewhere v x reads same =
    let writes : mode_at v x ≡ Writer = rw (eq-eqb x v same) refl in
    modes_differ (sym writes ∙ reads)
