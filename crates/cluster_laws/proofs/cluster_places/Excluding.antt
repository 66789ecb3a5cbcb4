-- Places of scopes exclude one another.
use Rattle.std.proofs.Common.{◌≡◌, ◌⊎◌, ℕ, ◌==◌, if◌then◌else◌, Bool, true, false, Some, List, [], ◌∷◌, ◌++◌, refl, sym, ◌∙◌, ap, subst, ⊎_elim, inl, inr}
use Rattle.std.proofs.lemmas.Bool.{and_parts, and_from, or_cases, both_ways, false_from_ne_true, eqb-true}
use Rattle.gl_base.specs.declared.scopes.Mode.{Mode}
use Rattle.gl_base.specs.declared.scopes.Mode.TheVariants.{Reader, Writer}
use Rattle.gl_base.specs.declared.scopes.ScopeId.{ScopeId}
use Rattle.cluster_laws.specs.cluster_core.Messages.{Message, Ask, Ready, Done}
use Rattle.cluster_laws.specs.cluster_core.Settings.{Setting, IsSetting, is_near, is_in_scope}
use Rattle.cluster_laws.specs.cluster_core.Scopes.{mode_at}
use Rattle.cluster_laws.specs.cluster_core.Worlds.{World, way}
use Rattle.cluster_laws.specs.cluster_core.Stages.{Token, IsAsked, IsReady, IsDone, Stage, Idle, Asks, Waits, Returns, Stays, Ends, sight_of, has_lock, centre_of, some_if, one_if, token_of, tokens_of}
use Rattle.cluster_laws.specs.cluster_core.Places.{ArePlaces, IsAtHome, IsReadyFor, IsExclusive, done_near}
use Rattle.cluster_laws.proofs.cluster_core.Nearness.{near_turned, near_other, scoped_itself, scoped_near}
use Rattle.cluster_laws.proofs.cluster_places.Seen.{staying_stage}
use Rattle.cluster_laws.proofs.cluster_places.Delivering.{done_here}
use Rattle.cluster_laws.proofs.cluster_places.Standing.{stage_as}

-- the token is one of these
abbrev Has : Token → List Token → Type 0
Has x [] = ⊥
Has x (y ∷ ys) = (x ≡ y) ⊎ Has x ys

has_append : (x : Token) (xs ys : List Token) → Has x ys → Has x (xs ++ ys)
has_append x [] ys has = has
has_append x (y ∷ xs) ys has = inr (has_append x xs ys has)

has_one : (test : Bool) (x y : Token) → Has x (one_if test y) → (test ≡ true) × (x ≡ y)
has_one true x y has = ⊎_elim (λ (same : x ≡ y). (refl, same)) (λ (none : ⊥). absurd none) has
has_one false x y has = absurd has

-- a message that tells of an update near v names a scope
names_scope : (st : Setting) (v : ℕ) (messages : List Message) → done_near st v messages ≡ true → (t : ScopeId) × (c : ℕ) × (is_near st v c ≡ true) × Has (IsDone c) (tokens_of t messages)
names_scope st v [] told = absurd (both_ways false refl told)
names_scope st v (Ask s c rest ∷ messages) told =
    let h = names_scope st v messages told in
    (h.0, h.1, h.2, has_append (IsDone h.1) (token_of h.0 (Ask s c rest)) (tokens_of h.0 messages) h.3)
names_scope st v (Ready s ∷ messages) told =
    let h = names_scope st v messages told in
    (h.0, h.1, h.2, has_append (IsDone h.1) (token_of h.0 (Ready s)) (tokens_of h.0 messages) h.3)
names_scope st v (Done s news ∷ messages) told =
    ⊎_elim
    (λ (here : is_near st v news.centre ≡ true).
    let front : IsDone news.centre ∷ tokens_of s messages ≡ tokens_of s (Done s news ∷ messages) = ap (λ (token : List Token). token ++ tokens_of s messages) (sym (done_here s news)) in
    (s, news.centre, here, subst (Has (IsDone news.centre)) front (inl refl)))
    (λ (later : done_near st v messages ≡ true).
    let h = names_scope st v messages later in
    (h.0, h.1, h.2, has_append (IsDone h.1) (token_of h.0 (Done s news)) (tokens_of h.0 messages) h.3))
    (or_cases (is_near st v news.centre) (done_near st v messages) told)

ends_told : (st : Setting) (t : ScopeId) (x : Stage) (c p q : ℕ) → Has (IsDone c) ((sight_of st t x).tokens p q) → (to : ℕ → Bool) × (x ≡ Ends c to) × (to q ≡ true)
ends_told st t Idle c p q has = absurd has
ends_told st t (Asks v from to) c p q has =
    let other : IsDone c ≡ IsAsked v _ = (has_one _ (IsDone c) (IsAsked v _) has).1 in
    cc
ends_told st t (Waits v lock) c p q has = absurd has
ends_told st t (Returns v from) c p q has =
    let other : IsDone c ≡ IsReady = (has_one _ (IsDone c) IsReady has).1 in
    cc
ends_told st t (Stays v) c p q has = absurd has
ends_told st t (Ends v to) c p q has =
    let h = has_one _ (IsDone c) (IsDone v) has in
    let same : v ≡ c = cc (h.1) in
    (to, (λ i. Ends (same i) to), (and_parts _ (to q) h.0).1)

centres_same : (v c : ℕ) → Some v ≡ Some c → v ≡ c
centres_same v c is = cc

-- ---- a lock that is seen to be held

lock_if : (test : Bool) (v y : ℕ) (mode : Mode) → some_if test (mode_at v y) ≡ Some mode → (test ≡ true) × (mode_at v y ≡ mode)
lock_if true v y mode is = (refl, cc)
lock_if false v y mode is = cc

pub holder_has : (st : Setting) (s : ScopeId) (x : Stage) (y : ℕ) (mode : Mode) → (sight_of st s x).holder y ≡ Some mode → (c : ℕ) × (centre_of x ≡ Some c) × (has_lock st x y ≡ true) × (mode_at c y ≡ mode)
holder_has st s Idle y mode is = cc
holder_has st s (Asks v from to) y mode is = let h = lock_if (has_lock st (Asks v from to) y) v y mode is in (v, refl, h.0, h.1)
holder_has st s (Waits v lock) y mode is = let h = lock_if (has_lock st (Waits v lock) y) v y mode is in (v, refl, h.0, h.1)
holder_has st s (Returns v from) y mode is = let h = lock_if (has_lock st (Returns v from) y) v y mode is in (v, refl, h.0, h.1)
holder_has st s (Stays v) y mode is = let h = lock_if (has_lock st (Stays v) y) v y mode is in (v, refl, h.0, h.1)
holder_has st s (Ends v to) y mode is = let h = lock_if (has_lock st (Ends v to) y) v y mode is in (v, refl, h.0, h.1)

centre_if : (v y : ℕ) (test : Bool) → (if test then Writer else Reader) ≡ Writer → test ≡ true
centre_if v y true is = refl
centre_if v y false is = cc

module _ (st : Setting) (is : IsSetting st) (w : World) (stage : ScopeId → Stage) (places : ArePlaces st w stage) where
  stays : (s : ScopeId) (v : ℕ) → IsReadyFor w s v → stage s ≡ Stays v
  stays s v ready = staying_stage st s (stage s) v (sym (places.shows s).flight ∙ ready.0) (sym (places.shows s).ready ∙ ready.1)

  home_of : (s : ScopeId) (v : ℕ) → IsReadyFor w s v → IsAtHome st s v
  home_of s v ready = stage_as st w stage places s (Stays v) (stays s v ready)

  ready_apart : (s t : ScopeId) (v u : ℕ) → IsReadyFor w s v → IsReadyFor w t u → is_near st v u ≡ false
  ready_apart s t v u one other =
      false_from_ne_true (is_near st v u) (λ near.
      let at_s = stays s v one in
      let at_t = stays t u other in
      let its_own : has_lock st (stage s) v ≡ true = ap (λ (x : Stage). has_lock st x v) at_s ∙ scoped_itself st is v in
      let the_other : has_lock st (stage t) v ≡ true = ap (λ (x : Stage). has_lock st x v) at_t ∙ scoped_near st is u v (near_turned st u v ∙ near) in
      let same : s ≡ t = places.alone s t v (ap centre_of at_s) its_own the_other in
      let vertices : v ≡ u = centres_same v u (sym (ap centre_of at_s) ∙ ap (λ (r : ScopeId). centre_of (stage r)) same ∙ ap centre_of at_t) in
      both_ways (is_near st v v) (near_other st is v) (ap (is_near st v) vertices ∙ near))

  done_apart : (s : ScopeId) (v p : ℕ) → IsReadyFor w s v → done_near st v (way w p s.home.0) ≡ false
  done_apart s v p ready =
      false_from_ne_true (done_near st v (way w p s.home.0)) (λ told.
      let h = names_scope st v (way w p s.home.0) told in
      let t : ScopeId = h.0 in
      let c : ℕ = h.1 in
      let e = ends_told st t (stage t) c p s.home.0 (subst (Has (IsDone c)) ((places.shows t).tokens p s.home.0) h.3) in
      let at_s = stays s v ready in
      let its_own : has_lock st (stage s) v ≡ true = ap (λ (x : Stage). has_lock st x v) at_s ∙ scoped_itself st is v in
      let owned : st.owner v ≡ s.home.0 = (home_of s v ready).owned in
      let the_other : has_lock st (stage t) v ≡ true =
      ap (λ (x : Stage). has_lock st x v) e.1 ∙ and_from (is_in_scope st c v) (e.0 (st.owner v)) (scoped_near st is c v (near_turned st c v ∙ h.2)) (ap e.0 owned ∙ e.2) in
      let same : s ≡ t = places.alone s t v (ap centre_of at_s) its_own the_other in
      let stages : Stays v ≡ Ends c e.0 = sym at_s ∙ ap stage same ∙ e.1 in
      cc)

  pub exclusive : IsExclusive st w
  exclusive =
      record {
        owned = λ s v ready. let home = home_of s v ready in (home.vertex, home.owned);
        ready = ready_apart;
        done = done_apart;
      }

  -- a lock that is held by a writer has one holder
  pub writer_alone : (s t : ScopeId) (x : ℕ) (mode : Mode) → (w.part (st.owner x)).holder x s ≡ Some Writer → (w.part (st.owner x)).holder x t ≡ Some mode → s ≡ t
  writer_alone s t x mode writes also =
      let one = holder_has st s (stage s) x Writer (sym ((places.shows s).holder x) ∙ writes) in
      let other = holder_has st t (stage t) x mode (sym ((places.shows t).holder x) ∙ also) in
      let centre : x ≡ one.0 = eqb-true x one.0 (centre_if one.0 x (x == one.0) one.3) in
      places.alone s t x (one.1 ∙ ap Some (sym centre)) one.2 other.2
