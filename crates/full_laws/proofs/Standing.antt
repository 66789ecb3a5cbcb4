-- Where a scope stands that waits for a lock, and where it doesn't stand yet.
use Rattle.std.proofs.Common.{◌≡◌, ◌≢◌, ◌⊎◌, ℕ, suc, ◌<◌, ◌==◌, Bool, true, false, Option, None, Some, List, [], ◌∷◌, ◌++◌, length, map, refl, sym, ◌∙◌, ap, subst, ⊎_elim, inl, inr, eq-eqb, arith}
use Rattle.std.proofs.lemmas.Bool.{cases_Bool, eqb-true}
use Rattle.gl_base.specs.declared.scopes.Claim.{Claim}
use Rattle.gl_base.specs.declared.scopes.ScopeId.{ScopeId}
use Rattle.graph_core.specs.DataGraph.{size}
use Rattle.cluster_laws.specs.cluster_core.Parts.{Stand}
use Rattle.cluster_laws.specs.cluster_core.Places.{IsStageOf}
use Rattle.cluster_laws.specs.cluster_core.Scopes.{machines_from}
use Rattle.cluster_laws.specs.cluster_core.Settings.{Setting, is_in_scope}
use Rattle.cluster_laws.specs.cluster_core.Stages.{Asks, Ends, Idle, IsAsked, IsDone, IsReady, Returns, Stage, Stays, Token, Waits, sight_of, some_if}
use Rattle.cluster_laws.proofs.cluster_core.Basics.{same_scope}
use Rattle.cluster_laws.proofs.cluster_places.Seen.{asked_stage, waiting_stage}
use Rattle.full_laws.specs.FullEffects.{scope_of}
use Rattle.full_laws.specs.FullMessages.{FullMessage, Gather}
use Rattle.full_laws.specs.FullParts.{FullStand}
use Rattle.full_laws.specs.FullPlaces.{FullToken, IsArrivingAt, IsGathering, IsStandingAt, as_token, bare_stand, full_tokens_of, times_among}
use Rattle.full_laws.specs.FullReplays.{IsFullCoherent}
use Rattle.full_scope.specs.FullUpdates.{FullUpdate}
use Rattle.full_laws.specs.FullWorlds.{FullWorld, full_way}

head_of : (claims : List Claim) → 0 < length claims → (c : Claim) × (more : List Claim) × (claims ≡ c ∷ more)
head_of [] some = absurd (omega arith)
head_of (c ∷ more) some = (c, more, refl)

abbrev bare_of : FullStand → Stand
bare_of stand = record { centre = stand.centre; lock = stand.lock; rest = stand.rest }

stood : (o : Option FullStand) (bare : Stand) → bare_stand o ≡ Some bare → (stand : FullStand) × (o ≡ Some stand) × (bare_of stand ≡ bare)
stood None bare is = absurd (none_stands bare is)
  where
    none_stands : (b : Stand) → None ≡ Some b → ⊥
    none_stands b wrong = cc
stood (Some stand) bare is = (stand, refl, cc)

-- a scope that is seen to stand at a machine waits for the lock of a vertex of that
standing_stage : (st : Setting) (s : ScopeId) (x : Stage) (a : ℕ) (bare : Stand) → (sight_of st s x).stand a ≡ Some bare →
    (v lock : ℕ) × (x ≡ Waits v lock) × (a ≡ st.owner lock) × (bare ≡ record { centre = v; lock = lock; rest = machines_from st v (suc (st.owner lock)) })
standing_stage st s Idle a bare is = cc
standing_stage st s (Asks v from to) a bare is = cc
standing_stage st s (Waits v lock) a bare is =
    let there : Stand = record { centre = v; lock = lock; rest = machines_from st v (suc (st.owner lock)) } in
    ⊎_elim
    (λ (yes : (a == st.owner lock) ≡ true).
    let one : Some there ≡ Some bare = ap (λ (test : Bool). some_if test there) (sym yes) ∙ is in
    let same : there ≡ bare = cc in
    (v, lock, refl, eqb-true a (st.owner lock) yes, sym same))
    (λ (off : (a == st.owner lock) ≡ false).
    let none : None ≡ Some bare = ap (λ (test : Bool). some_if test there) (sym off) ∙ is in
    cc)
    (cases_Bool (a == st.owner lock))
standing_stage st s (Returns v from) a bare is = cc
standing_stage st s (Stays v) a bare is = cc
standing_stage st s (Ends v to) a bare is = cc

-- the first that is seen on the way is a request
front_token : (xs : List Token) (v : ℕ) (rest : List ℕ) (ys : List FullToken) → IsGathering v rest ∷ ys ≡ map as_token xs → (more : List Token) × (xs ≡ IsAsked v rest ∷ more)
front_token [] v rest ys is = cc
front_token (IsAsked u r ∷ xs) v rest ys is =
    let centre : u ≡ v = cc in
    let machines : r ≡ rest = cc in
    (xs, λ k. IsAsked (centre k) (machines k) ∷ xs)
front_token (IsReady ∷ xs) v rest ys is = cc
front_token (IsDone u ∷ xs) v rest ys is = cc

bare_none : (o : Option FullStand) → bare_stand o ≡ None → o ≡ None
bare_none None is = refl
bare_none (Some stand) is = cc

idle_or : (x : Stage) → (x ≡ Idle) ⊎ (x ≢ Idle)
idle_or Idle = inl refl
idle_or (Asks v from to) = inr (λ is. cc)
idle_or (Waits v lock) = inr (λ is. cc)
idle_or (Returns v from) = inr (λ is. cc)
idle_or (Stays v) = inr (λ is. cc)
idle_or (Ends v to) = inr (λ is. cc)

module _ (st : Setting) (p : FullUpdate) (w : FullWorld) (kept : IsFullCoherent st p w) where
  abbrev stage : ScopeId → Stage
  stage = kept.stage

  pub queued_stands : (s : ScopeId) (x : ℕ) → 0 < times_among s ((w.part (st.owner x)).queue x) → (stand : FullStand) × ((w.part (st.owner x)).stand s ≡ Some stand) × (stand.lock ≡ x)
  queued_stands s x some =
      let h = kept.places.shows s in
      let head = head_of ((sight_of st s (stage s)).queue x) (subst (λ (n : ℕ). 0 < n) (h.queue x) some) in
      let waits = waiting_stage st s (stage s) x head.0 head.1 head.2 in
      let bare : Stand = record { centre = waits.0; lock = x; rest = machines_from st waits.0 (suc (st.owner x)) } in
      let seen : bare_stand ((w.part (st.owner x)).stand s) ≡ Some bare =
      h.stand (st.owner x)
      ∙ ap (λ (y : Stage). (sight_of st s y).stand (st.owner x)) waits.1
      ∙ ap (λ (test : Bool). some_if test bare) (eq-eqb (st.owner x) (st.owner x) refl) in
      let stand = stood ((w.part (st.owner x)).stand s) bare seen in
      (stand.0, stand.1, ap (λ (b : Stand). b.lock) stand.2)

  pub stand_is : (s : ScopeId) (a : ℕ) (stand : FullStand) → (w.part a).stand s ≡ Some stand → IsStandingAt st s a stand
  stand_is s a stand at =
      let bare : Stand = bare_of stand in
      let seen : (sight_of st s (stage s)).stand a ≡ Some bare = sym ((kept.places.shows s).stand a) ∙ ap bare_stand at in
      let (v, lock, is, here, same) = standing_stage st s (stage s) a bare seen in
      let of : IsStageOf st s (Waits v lock) = subst (IsStageOf st s) is (kept.places.stages s) in
      record {
        vertex = subst (λ (b : Stand). b.centre < size st.graph) (sym same) of.0.vertex;
        home = ap (λ (b : Stand). st.owner b.centre) same ∙ of.0.owned;
        inside = ap (λ (b : Stand). is_in_scope st b.centre b.lock) same ∙ of.1;
        here = ap (λ (b : Stand). st.owner b.lock) same ∙ sym here;
        rest = ap (λ (b : Stand). b.rest) same ∙ (λ k. machines_from st (sym same k).centre (suc (sym here k)));
      }

  pub gather_comes : (from to : ℕ) (s : ScopeId) (v : ℕ) (rest : List ℕ) (seen : ℕ → Option ℕ) (behind : List FullMessage) → w.link from to ≡ Gather s v rest seen ∷ behind → IsArrivingAt st w s to v rest
  gather_comes from to s v rest seen behind first =
      let h = kept.places.shows s in
      let later : List FullMessage = behind ++ (w.part from).out to in
      let way : full_way w from to ≡ Gather s v rest seen ∷ later = ap (λ (ms : List FullMessage). ms ++ (w.part from).out to) first in
      let here : full_tokens_of s (Gather s v rest seen ∷ later) ≡ IsGathering v rest ∷ full_tokens_of s later = rw (same_scope s) refl in
      let shown : IsGathering v rest ∷ full_tokens_of s later ≡ map as_token ((sight_of st s (stage s)).tokens from to) = sym here ∙ sym (ap (full_tokens_of s) way) ∙ h.tokens from to in
      let front = front_token ((sight_of st s (stage s)).tokens from to) v rest (full_tokens_of s later) shown in
      let asks = asked_stage st s (stage s) from to v rest front.0 front.1 in
      let of : IsStageOf st s (Asks v from to) = subst (IsStageOf st s) asks.0 (kept.places.stages s) in
      record {
        vertex = of.0.vertex;
        home = of.0.owned;
        behind = asks.1;
        nowhere = bare_none ((w.part to).stand s) (h.stand to ∙ ap (λ (y : Stage). (sight_of st s y).stand to) asks.0);
      }

  next_idle : (a : ℕ) → stage (scope_of a (w.part a).serial) ≡ Idle
  next_idle a = ⊎_elim
      (λ (is : stage (scope_of a (w.part a).serial) ≡ Idle). is)
      (λ (busy : stage (scope_of a (w.part a).serial) ≢ Idle). let early = kept.places.admitted (scope_of a (w.part a).serial) busy in absurd (omega (arith, early)))
      (idle_or (stage (scope_of a (w.part a).serial)))

  pub next_flight : (a : ℕ) → (w.part a).flight (scope_of a (w.part a).serial) ≡ None
  next_flight a =
      let s : ScopeId = scope_of a (w.part a).serial in
      (kept.places.shows s).flight ∙ ap (λ (y : Stage). (sight_of st s y).flight) (next_idle a)

  pub next_stand : (a b : ℕ) → (w.part b).stand (scope_of a (w.part a).serial) ≡ None
  next_stand a b =
      let s : ScopeId = scope_of a (w.part a).serial in
      bare_none ((w.part b).stand s) ((kept.places.shows s).stand b ∙ ap (λ (y : Stage). (sight_of st s y).stand b) (next_idle a))
