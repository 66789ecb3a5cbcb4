-- Where no message is on the way and no scope is ready, the last lock in canonical order for which a scope waits can be granted.
use Rattle.std.proofs.Common.{◌≡◌, ◌≢◌, ◌⊎◌, ℕ, zero, suc, ◌<◌, ◌==◌, ◌&&◌, Bool, true, false, None, Some, List, [], ◌∷◌, ◌++◌, refl, sym, ◌∙◌, ap, subst, ⊎_elim, inl, inr, arith}
use Rattle.std.proofs.lemmas.Bool.{cases_eq, cases_Bool, eq-eqb, and_parts, and_from, both_ways}
use Rattle.gl_base.specs.declared.scopes.Claim.{Claim}
use Rattle.gl_base.specs.declared.scopes.Mode.{Mode}
use Rattle.gl_base.specs.declared.scopes.ScopeId.{ScopeId}
use Rattle.graph_core.specs.DataGraph.{size}
use Rattle.cluster_laws.specs.cluster_core.Messages.{Message, Ask, Ready, Done}
use Rattle.cluster_laws.specs.cluster_core.Settings.{Setting, IsSetting, is_in_scope}
use Rattle.cluster_laws.specs.cluster_core.Scopes.{is_before, mode_at, machines_from}
use Rattle.cluster_laws.specs.cluster_core.Worlds.{World, way}
use Rattle.cluster_laws.specs.cluster_core.Actions.{Grant, Send, Deliver, Update, Mark}
use Rattle.cluster_laws.specs.cluster_core.Stages.{Token, IsAsked, IsReady, IsDone, Stage, Idle, Asks, Waits, Returns, Stays, Ends, sight_of, has_lock, one_if, tokens_of, claims_of}
use Rattle.cluster_laws.specs.cluster_core.Places.{ArePlaces, IsAtHome}
use Rattle.cluster_laws.proofs.cluster_core.Basics.{same_scope}
use Rattle.cluster_laws.proofs.cluster_core.Nearness.{part_low, scope_within}
use Rattle.cluster_laws.specs.cluster_moves.Due.{AreDue, IsStill, CanWork}
use Rattle.cluster_laws.proofs.cluster_places.Reaching.{before_is}
use Rattle.cluster_laws.proofs.cluster_places.Going.{asked_here, ready_here}
use Rattle.cluster_laws.proofs.cluster_places.Seen.{asked_stage, ready_stage, done_stage}
use Rattle.cluster_laws.proofs.cluster_places.Standing.{shows_as, stage_as}
use Rattle.cluster_laws.proofs.cluster_places.Delivering.{done_here}
use Rattle.cluster_laws.proofs.cluster_places.Excluding.{holder_has}

-- ---- searches below a bound

-- one passes, or none does
pub search_below : (n : ℕ) (P Q : ℕ → Type 0) → ((k : ℕ) → k < n → P k ⊎ Q k) → ((k : ℕ) × (k < n) × P k) ⊎ ((k : ℕ) → k < n → Q k)
search_below zero P Q each = inr (λ k low. absurd (omega arith))
search_below (suc n) P Q each =
    ⊎_elim
    (λ (here : P n). inl (n, omega arith, here))
    (λ (not_here : Q n). ⊎_elim
    (λ (found : (k : ℕ) × (k < n) × P k). inl (found.0, omega (arith, found.1), found.2))
    (λ (none : (k : ℕ) → k < n → Q k). inr (λ k low. ⊎_elim
    (λ (at : k ≡ n). subst Q (sym at) not_here)
    (λ (off : k ≢ n). none k (omega arith))
    (cases_eq k n)))
    (search_below n P Q (λ k low. each k (omega arith))))
    (each n (omega arith))

-- the last one that passes, or none does
last_below : (n : ℕ) (P Q : ℕ → Type 0) → ((k : ℕ) → k < n → P k ⊎ Q k) → ((k : ℕ) × (k < n) × P k × ((j : ℕ) → k < j → j < n → Q j)) ⊎ ((k : ℕ) → k < n → Q k)
last_below zero P Q each = inr (λ k low. absurd (omega arith))
last_below (suc n) P Q each =
    ⊎_elim
    (λ (here : P n). inl (n, omega arith, here, λ j above low. absurd (omega arith)))
    (λ (not_here : Q n). ⊎_elim
    (λ (found : (k : ℕ) × (k < n) × P k × ((j : ℕ) → k < j → j < n → Q j)). inl (
      found.0,
      omega (arith, found.1),
      found.2,
      λ j above low. ⊎_elim
          (λ (at : j ≡ n). subst Q (sym at) not_here)
          (λ (off : j ≢ n). found.3 j above (omega arith))
          (cases_eq j n),
    ))
    (λ (none : (k : ℕ) → k < n → Q k). inr (λ k low. ⊎_elim
    (λ (at : k ≡ n). subst Q (sym at) not_here)
    (λ (off : k ≢ n). none k (omega arith))
    (cases_eq k n)))
    (last_below n P Q (λ k low. each k (omega arith))))
    (each n (omega arith))

-- a list has a first element, or it is empty
abbrev HasHead : {X : Type 0} → List X → Type 0
HasHead {X} xs = (x : X) × (rest : List X) × (xs ≡ x ∷ rest)

head_or_none : {X : Type 0} (xs : List X) → HasHead xs ⊎ (xs ≡ [])
head_or_none [] = inr refl
head_or_none (x ∷ xs) = inl (x, xs, refl)

cons_nil : {X : Type 0} (x : X) (xs : List X) → x ∷ xs ≡ [] → ⊥
cons_nil x xs is = cc

-- a list of one is not empty
one_told : {X : Type 0} (test : Bool) (x : X) → test ≡ true → one_if test x ≡ [] → ⊥
one_told true x is none = cons_nil x [] none
one_told false x is none = both_ways false refl is

own_first : (c : Claim) (claims : List Claim) → claims_of c.scope (c ∷ claims) ≡ c ∷ claims_of c.scope claims
own_first c claims = rw (same_scope c.scope) refl

module _ (st : Setting) (is : IsSetting st) (w : World) (stage : ScopeId → Stage) (places : ArePlaces st w stage) (due : AreDue w) (ticket : 0 < w.left) where
  -- ---- a message can be sent or received

  message_moves : (p q : ℕ) → CanWork st w ⊎ (way w p q ≡ [])
  message_moves p q =
      ⊎_elim
      (λ (some : HasHead (w.link p q)). inl (Deliver p q, tt, record { message = some.0; behind = some.1; first = some.2 }))
      (λ (none : w.link p q ≡ []). ⊎_elim
      (λ (some : HasHead ((w.part p).out q)). inl (Send p q, tt, record { message = some.0; behind = some.1; first = some.2 }))
      (λ (no_more : (w.part p).out q ≡ []). inr (λ i. none i ++ no_more i))
      (head_or_none ((w.part p).out q)))
      (head_or_none (w.link p q))

  all_ways : CanWork st w ⊎ ((p : ℕ) → p < st.machines → (q : ℕ) → q < st.machines → way w p q ≡ [])
  all_ways =
      ⊎_elim
      (λ (found : (p : ℕ) × (p < st.machines) × CanWork st w). inl found.2)
      (λ (none : (p : ℕ) → p < st.machines → (q : ℕ) → q < st.machines → way w p q ≡ []). inr none)
      (search_below st.machines (λ p. CanWork st w) (λ p. (q : ℕ) → q < st.machines → way w p q ≡ []) (λ p low. ⊎_elim
      (λ (found : (q : ℕ) × (q < st.machines) × CanWork st w). inl found.2)
      (λ (none : (q : ℕ) → q < st.machines → way w p q ≡ []). inr none)
      (search_below st.machines (λ q. CanWork st w) (λ q. way w p q ≡ []) (λ q low_q. message_moves p q))))

  home_low : (s : ScopeId) (v : ℕ) → IsAtHome st s v → s.home.0 < st.machines
  home_low s v home = subst (λ (a : ℕ). a < st.machines) home.owned (is.owner v home.vertex)

  module _ (silent : (p : ℕ) → p < st.machines → (q : ℕ) → q < st.machines → way w p q ≡ []) where
    -- each message names a scope, and so goes between machines
    no_first : (p q : ℕ) (m : Message) (rest : List Message) → way w p q ≡ m ∷ rest → way w p q ≡ []
    no_first p q (Ask s v more) rest is_way =
        let seen : (sight_of st s (stage s)).tokens p q ≡ IsAsked v more ∷ tokens_of s rest =
        sym ((places.shows s).tokens p q) ∙ ap (tokens_of s) is_way ∙ ap (λ (front : List Token). front ++ tokens_of s rest) (asked_here s v more) in
        let h = asked_stage st s (stage s) p q v more (tokens_of s rest) seen in
        let stands = stage_as st w stage places s (Asks v p q) h.0 in
        silent p stands.2 q (part_low st is v q stands.1)
    no_first p q (Ready s) rest is_way =
        let seen : (sight_of st s (stage s)).tokens p q ≡ IsReady ∷ tokens_of s rest =
        sym ((places.shows s).tokens p q) ∙ ap (tokens_of s) is_way ∙ ap (λ (front : List Token). front ++ tokens_of s rest) (ready_here s) in
        let h = ready_stage st s (stage s) p q (tokens_of s rest) seen in
        let stands = stage_as st w stage places s (Returns h.0 p) h.1 in
        silent p stands.1 q (subst (λ (a : ℕ). a < st.machines) (sym h.2) (home_low s h.0 stands.0))
    no_first p q (Done s news) rest is_way =
        let seen : (sight_of st s (stage s)).tokens p q ≡ IsDone news.centre ∷ tokens_of s rest =
        sym ((places.shows s).tokens p q) ∙ ap (tokens_of s) is_way ∙ ap (λ (front : List Token). front ++ tokens_of s rest) (done_here s news) in
        let h = done_stage st s (stage s) p q news.centre (tokens_of s rest) seen in
        let stands = stage_as st w stage places s (Ends news.centre h.0) h.1 in
        silent p (subst (λ (a : ℕ). a < st.machines) (sym h.2) (home_low s news.centre stands.0)) q (part_low st is news.centre q (stands.2 q h.3))

    no_message : (p q : ℕ) → way w p q ≡ []
    no_message p q =
        ⊎_elim
        (λ (some : HasHead (way w p q)). no_first p q some.0 some.1 some.2)
        (λ (none : way w p q ≡ []). none)
        (head_or_none (way w p q))

    no_token : (s : ScopeId) (x : Stage) → stage s ≡ x → (p q : ℕ) → (sight_of st s x).tokens p q ≡ []
    no_token s x at p q = sym ((shows_as st w stage places s x at).tokens p q) ∙ ap (tokens_of s) (no_message p q)

    not_asking : (s : ScopeId) (v from to : ℕ) → stage s ≡ Asks v from to → ⊥
    not_asking s v from to at =
        one_told (from == from && to == to) (IsAsked v (machines_from st v (suc to))) (and_from (from == from) (to == to) (eq-eqb from from refl) (eq-eqb to to refl)) (no_token s (Asks v from to) at from to)

    not_returning : (s : ScopeId) (v from : ℕ) → stage s ≡ Returns v from → ⊥
    not_returning s v from at =
        one_told (from == from && s.home.0 == s.home.0) IsReady (and_from (from == from) (s.home.0 == s.home.0) (eq-eqb from from refl) (eq-eqb s.home.0 s.home.0 refl)) (no_token s (Returns v from) at from s.home.0)

    not_telling : (s : ScopeId) (v q : ℕ) (to : ℕ → Bool) → stage s ≡ Ends v to → to q ≡ true → ⊥
    not_telling s v q to at told =
        one_told (s.home.0 == s.home.0 && to q) (IsDone v) (and_from (s.home.0 == s.home.0) (to q) (eq-eqb s.home.0 s.home.0 refl) told) (no_token s (Ends v to) at s.home.0 q)

    -- ---- a ready scope can make its update, or its snapshot update

    ready_moves : (s : ScopeId) (v : ℕ) → stage s ≡ Stays v → CanWork st w
    ready_moves s v at =
        let seen = shows_as st w stage places s (Stays v) at in
        ⊎_elim
        (λ (pending : (w.part s.home.0).pending v ≡ true). (Mark s, tt, record { vertex = v; flight = seen.flight; ready = seen.ready; pending = pending }))
        (λ (not_pending : (w.part s.home.0).pending v ≡ false). ⊎_elim
        (λ (pending : (w.part s.home.0).pending v ≡ true). absurd (both_ways ((w.part s.home.0).pending v) not_pending pending))
        (λ (task : (w.part s.home.0).task v ≡ true). (Update s, tt, record { vertex = v; flight = seen.flight; ready = seen.ready; not_pending = not_pending; task = task; ticket = ticket }))
        (due s v seen.flight))
        (cases_Bool ((w.part s.home.0).pending v))

    ready_or_not : (s : ScopeId) (x : Stage) → stage s ≡ x → CanWork st w ⊎ ((v : ℕ) → stage s ≢ Stays v)
    ready_or_not s Idle at = inr (λ v also. stays_not_idle v (sym at ∙ also))
      where
        stays_not_idle : (v : ℕ) → Idle ≡ Stays v → ⊥
        stays_not_idle v is = cc
    ready_or_not s (Asks c from to) at = absurd (not_asking s c from to at)
    ready_or_not s (Waits c lock) at = inr (λ v also. waits_not_stays v (sym at ∙ also))
      where
        waits_not_stays : (v : ℕ) → Waits c lock ≡ Stays v → ⊥
        waits_not_stays v is = cc
    ready_or_not s (Returns c from) at = absurd (not_returning s c from at)
    ready_or_not s (Stays c) at = inl (ready_moves s c at)
    ready_or_not s (Ends c to) at = inr (λ v also. ends_not_stays v (sym at ∙ also))
      where
        ends_not_stays : (v : ℕ) → Ends c to ≡ Stays v → ⊥
        ends_not_stays v is = cc

    abbrev numbered : ℕ → ℕ → ScopeId
    numbered a n = record { home = record { 0 = a }; serial = n }

    all_ready : CanWork st w ⊎ ((s : ScopeId) (v : ℕ) → stage s ≢ Stays v)
    all_ready =
        ⊎_elim
        (λ (found : (a : ℕ) × (a < st.machines) × CanWork st w). inl found.2)
        (λ (none : (a : ℕ) → a < st.machines → (n : ℕ) → n < (w.part a).serial → (v : ℕ) → stage (numbered a n) ≢ Stays v).
        inr (λ s v at.
        let stands = stage_as st w stage places s (Stays v) at in
        none s.home.0 (home_low s v stands) s.serial (places.admitted s (λ idle. idle_not_stays v (sym idle ∙ at))) v at))
        (search_below st.machines (λ a. CanWork st w) (λ a. (n : ℕ) → n < (w.part a).serial → (v : ℕ) → stage (numbered a n) ≢ Stays v) (λ a low. ⊎_elim
        (λ (found : (n : ℕ) × (n < (w.part a).serial) × CanWork st w). inl found.2)
        (λ (none : (n : ℕ) → n < (w.part a).serial → (v : ℕ) → stage (numbered a n) ≢ Stays v). inr none)
        (search_below (w.part a).serial (λ n. CanWork st w) (λ n. (v : ℕ) → stage (numbered a n) ≢ Stays v) (λ n low_n. ready_or_not (numbered a n) (stage (numbered a n)) refl))))
      where
        idle_not_stays : (v : ℕ) → Idle ≡ Stays v → ⊥
        idle_not_stays v is = cc

    module _ (none_ready : (s : ScopeId) (v : ℕ) → stage s ≢ Stays v) where
      -- ---- the last lock for which a scope waits

      abbrev Waited : ℕ → ℕ → Type 0
      Waited a x = (st.owner x ≡ a) × HasHead ((w.part a).queue x)

      abbrev NotWaited : ℕ → ℕ → Type 0
      NotWaited a x = st.owner x ≡ a → (w.part a).queue x ≡ []

      abbrev LastAt : ℕ → Type 0
      LastAt a = (x : ℕ) × (x < size st.graph) × Waited a x × ((y : ℕ) → x < y → y < size st.graph → NotWaited a y)

      abbrev NoneAt : ℕ → Type 0
      NoneAt a = (x : ℕ) → x < size st.graph → NotWaited a x

      last_at : (a : ℕ) → LastAt a ⊎ NoneAt a
      last_at a =
          last_below (size st.graph) (Waited a) (NotWaited a) (λ x low. ⊎_elim
          (λ (owned : st.owner x ≡ a). ⊎_elim
          (λ (some : HasHead ((w.part a).queue x)). inl (owned, some))
          (λ (none : (w.part a).queue x ≡ []). inr (λ also. none))
          (head_or_none ((w.part a).queue x)))
          (λ (off : st.owner x ≢ a). inr (λ owned. absurd (off owned)))
          (cases_eq (st.owner x) a))

      -- who waits for y stands in its queue
      waits_in : (s : ScopeId) (u y : ℕ) → stage s ≡ Waits u y → (w.part (st.owner y)).queue y ≡ [] → ⊥
      waits_in s u y at none =
          let seen = shows_as st w stage places s (Waits u y) at in
          one_told (y == y) (record { scope = s; mode = mode_at u y }) (eq-eqb y y refl) (sym (seen.queue y) ∙ ap (claims_of s) none)

      lock_low : (s : ScopeId) (u y : ℕ) → stage s ≡ Waits u y → y < size st.graph
      lock_low s u y at =
          let stands = stage_as st w stage places s (Waits u y) at in
          scope_within st is u y stands.0.vertex stands.1

      module _ (a x : ℕ) (low : x < size st.graph) (owned : st.owner x ≡ a) (after_x : (y : ℕ) → x < y → y < size st.graph → NotWaited a y) (after_a : (b : ℕ) → a < b → b < st.machines → NoneAt b) where
        no_holder_in : (s : ScopeId) (y : Stage) → stage s ≡ y → has_lock st y x ≡ true → ⊥
        no_holder_in s Idle at has = both_ways false refl has
        no_holder_in s (Asks v from to) at has = not_asking s v from to at
        no_holder_in s (Waits u y) at has =
            ⊎_elim
            (λ (lower : st.owner x < st.owner y).
            waits_in s u y at (after_a (st.owner y) (omega arith) (is.owner y (lock_low s u y at)) y (lock_low s u y at) refl))
            (λ (here : (st.owner x ≡ st.owner y) × (x < y)).
            waits_in s u y at (subst (λ (b : ℕ). (w.part b).queue y ≡ []) (sym owned ∙ here.0) (after_x y here.1 (lock_low s u y at) (sym here.0 ∙ owned))))
            (before_is st x (st.owner y) y (and_parts (is_in_scope st u x) (is_before st x (st.owner y) y) has).1)
        no_holder_in s (Returns v from) at has = not_returning s v from at
        no_holder_in s (Stays v) at has = none_ready s v at
        no_holder_in s (Ends v to) at has = not_telling s v (st.owner x) to at (and_parts (is_in_scope st v x) (to (st.owner x)) has).1

        no_holder : (s : ScopeId) (mode : Mode) → (w.part a).holder x s ≡ Some mode → ⊥
        no_holder s mode holds =
            let seen : (sight_of st s (stage s)).holder x ≡ Some mode = sym ((places.shows s).holder x) ∙ ap (λ (b : ℕ). (w.part b).holder x s) owned ∙ holds in
            no_holder_in s (stage s) refl (holder_has st s (stage s) x mode seen).2

        grant_moves : HasHead ((w.part a).queue x) → CanWork st w
        grant_moves some = (
          Grant a x,
          tt,
          record {
            vertex = low;
            owned = owned;
            claim = some.0;
            behind = some.1;
            first = some.2;
            together = λ s mode holds. absurd (no_holder s mode holds);
          },
        )

      still_at : ((a : ℕ) → a < st.machines → NoneAt a) → (s : ScopeId) (x : Stage) → stage s ≡ x → (w.part s.home.0).flight s ≡ None
      still_at none s Idle at = (shows_as st w stage places s Idle at).flight
      still_at none s (Asks v from to) at = absurd (not_asking s v from to at)
      still_at none s (Waits u y) at = absurd (waits_in s u y at (none (st.owner y) (is.owner y (lock_low s u y at)) y (lock_low s u y at) refl))
      still_at none s (Returns v from) at = absurd (not_returning s v from at)
      still_at none s (Stays v) at = absurd (none_ready s v at)
      still_at none s (Ends v to) at = (shows_as st w stage places s (Ends v to) at).flight

      lock_moves : CanWork st w ⊎ IsStill w
      lock_moves =
          ⊎_elim
          (λ (last : (a : ℕ) × (a < st.machines) × LastAt a × ((b : ℕ) → a < b → b < st.machines → NoneAt b)).
          let at = last.2 in
          inl (grant_moves last.0 at.0 at.1 at.2.0 at.3 last.3 at.2.1))
          (λ (none : (a : ℕ) → a < st.machines → NoneAt a). inr (record { flights = λ s. still_at none s (stage s) refl; ways = no_message }))
          (last_below st.machines LastAt NoneAt (λ a low. last_at a))

    silent_moves : CanWork st w ⊎ IsStill w
    silent_moves =
        ⊎_elim
        (λ (can : CanWork st w). inl can)
        (λ (none : (s : ScopeId) (v : ℕ) → stage s ≢ Stays v). lock_moves none)
        all_ready

  pub moves : CanWork st w ⊎ IsStill w
  moves =
      ⊎_elim
      (λ (can : CanWork st w). inl can)
      (λ (silent : (p : ℕ) → p < st.machines → (q : ℕ) → q < st.machines → way w p q ≡ []). silent_moves silent)
      all_ways
