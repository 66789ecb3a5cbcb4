-- A scope is admitted, and sets out to take its locks.
use Rattle.std.proofs.Common.{◌≡◌, ◌≢◌, ℕ, suc, ◌<◌, ◌≤◌, ◌==◌, ◌&&◌, Bool, true, false, if◌then◌else◌, Some, List, [], ◌∷◌, ◌++◌, refl, sym, ◌∙◌, ap, subst, ⊎_elim, inr, arith}
use Rattle.std.proofs.lemmas.Bool.{cases_eq, eq-eqb, eqb-true, ne_eqb, and_parts, both_ways, false_from_ne_true}
use Rattle.gl_base.specs.declared.scopes.ScopeId.{ScopeId}
use Rattle.cluster_laws.specs.cluster_core.Messages.{Ask}
use Rattle.cluster_laws.specs.cluster_core.Parts.{Part}
use Rattle.cluster_laws.specs.cluster_core.Ranges.{set_at}
use Rattle.cluster_laws.specs.cluster_core.Settings.{Setting, IsSetting, Engine, Locking, is_in_scope}
use Rattle.cluster_laws.specs.cluster_core.Scopes.{is_scope, set_for, mode_at, takes_part, machines_from, is_before}
use Rattle.cluster_laws.specs.cluster_core.Effects.{posts, goes_on, sets_out, next_scope, in_flight, admitted, admitted_by}
use Rattle.cluster_laws.specs.cluster_core.Worlds.{World, with_part}
use Rattle.cluster_laws.specs.cluster_core.Actions.{MayAdmit}
use Rattle.cluster_laws.specs.cluster_core.Stages.{Token, IsAsked, Stage, Idle, Asks, Shows, sight_of, has_lock, flying, some_if, one_if, tokens_of, claims_of}
use Rattle.cluster_laws.specs.cluster_core.Places.{ArePlaces, IsStageOf, IsAtHome}
use Rattle.cluster_laws.proofs.cluster_core.Basics.{set_at-kept, set_at-here, set_at-there, set_for-same, set_for-other}
use Rattle.cluster_laws.proofs.cluster_core.Nearness.{next_machine, no_machine, owner_takes_part, scoped_itself}
use Rattle.cluster_laws.proofs.cluster_places.Reaching.{reached, below, before_is, reached-locks, reached-stage, reached-flying}
use Rattle.cluster_laws.proofs.cluster_places.Frames.{SameFor, shows_still, same_then, put-same, put-tokens, not_asked, goes_on-same}
use Rattle.cluster_laws.proofs.cluster_places.Going.{InHand, goes_on-shows, asked_here}
use Rattle.cluster_laws.proofs.cluster_places.Seen.{idle_or_busy, flying_seen, flying_home, some_centre}
use Rattle.cluster_laws.proofs.cluster_places.Moving.{one_moves}
use Rattle.cluster_laws.proofs.cluster_places.Standing.{serials_rise, goes_on-serial, shows_as}

module _ (st : Setting) (is : IsSetting st) (w : World) (stage : ScopeId → Stage) (places : ArePlaces st w stage) (a v : ℕ) (may : MayAdmit st a v (w.part a)) where
  abbrev new_scope : ScopeId
  new_scope = next_scope a (w.part a)

  abbrev begun : Part
  begun = in_flight a v (w.part a)

  was_idle : stage new_scope ≡ Idle
  was_idle =
      ⊎_elim
      (λ (idle : stage new_scope ≡ Idle). idle)
      (λ (busy : stage new_scope ≢ Idle). absurd (omega (arith, places.admitted new_scope busy)))
      (idle_or_busy st new_scope (stage new_scope))

  unseen : Shows st w new_scope (sight_of st new_scope Idle)
  unseen = shows_as st w stage places new_scope Idle was_idle

  new_home : IsAtHome st new_scope v
  new_home = record { vertex = may.vertex; owned = may.owned }

  a_low : a < st.machines
  a_low = subst (λ (b : ℕ). b < st.machines) may.owned (is.owner v may.vertex)

  -- no lock of the scope comes before its first machine
  nothing_before : (b : ℕ) (rest : List ℕ) → machines_from st v 0 ≡ b ∷ rest → (x : ℕ) → below st v b 0 x ≡ false
  nothing_before b rest next x =
      false_from_ne_true (below st v b 0 x) (λ has.
      let h = and_parts (is_in_scope st v x) (is_before st x b 0) has in
      ⊎_elim
      (λ (lower : st.owner x < b). both_ways (takes_part st v (st.owner x)) ((next_machine st v 0 b rest next).2 (st.owner x) (omega arith) lower) (owner_takes_part st is v x may.vertex h.0))
      (λ (here : (st.owner x ≡ b) × (x < 0)). absurd (omega (arith, here.1)))
      (before_is st x b 0 h.1))

  begun_same : (t : ScopeId) → is_scope t new_scope ≡ false → SameFor t (w.part a) begun
  begun_same t apart =
      record { flight = set_for-other (w.part a).flight new_scope (Some v) t apart; ready = refl; stand = refl; holder = λ x. refl; queue = λ x. refl; out = λ q. refl }

  -- no scope of v is in flight
  none_flies : (t : ScopeId) → flying (stage t) ≢ Some v
  none_flies t flies =
      let home : t.home.0 ≡ a = sym (flying_home st t (stage t) v (places.stages t) flies) ∙ may.owned in
      may.fresh t (ap (λ (b : ℕ). (w.part b).flight t) (sym home) ∙ (places.shows t).flight ∙ flying_seen st t (stage t) ∙ flies)

  -- the scope is new, and nothing is held
  admits : (new : Part) (next : Stage) → Shows st (with_part w a new) new_scope (sight_of st new_scope next) → ((t : ScopeId) → is_scope t new_scope ≡ false → SameFor t begun new) → begun.serial ≤ new.serial → IsStageOf st new_scope next → ((x : ℕ) → has_lock st next x ≡ false) → flying next ≡ Some v → ArePlaces st (with_part w a new) (set_for stage new_scope next)
  admits new next shown others rise stands none flies =
      one_moves st w (with_part w a new) stage places new_scope next
      shown
      (λ t apart shows. shows_still st w a new t (sight_of st t (stage t)) (same_then t (w.part a) begun new (begun_same t apart) (others t apart)) shows)
      stands
      (serials_rise w a new (omega arith))
      (λ busy. subst (λ (n : ℕ). (w.part a).serial < n) (sym (set_at-here (λ (part : Part). part.serial) w.part a new a refl)) (omega arith))
      (λ x has. absurd (both_ways (has_lock st next x) (none x) has))
      (λ u also. inr (λ t apart. subst (λ (y : ℕ). flying (stage t) ≢ Some y) (some_centre v u (sym flies ∙ also)) (none_flies t)))

  flight_here : (new : Part) → new.flight ≡ begun.flight → (set_at w.part a new a).flight new_scope ≡ Some v
  flight_here new same =
      set_at-here (λ (part : Part). part.flight new_scope) w.part a new a refl ∙ (λ i. same i new_scope) ∙ set_for-same (w.part a).flight new_scope (Some v)

  admits_here : (rest : List ℕ) → machines_from st v 0 ≡ a ∷ rest → ArePlaces st (with_part w a (goes_on st a new_scope v 0 rest begun)) (set_for stage new_scope (reached st new_scope v a 0))
  admits_here rest next =
      let more : rest ≡ machines_from st v (suc a) = (next_machine st v 0 a rest next).3 in
      let hand : InHand st w a begun new_scope v 0 =
      record {
        flight = flight_here begun refl;
        ready = set_at-kept (λ (r : Part). r.ready new_scope) w.part a begun refl a ∙ unseen.ready;
        stand = λ b off. unseen.stand b;
        holder = λ x. set_at-kept (λ (r : Part). r.holder x new_scope) w.part a begun refl (st.owner x) ∙ unseen.holder x ∙ sym (ap (λ (test : Bool). some_if test (mode_at v x)) (nothing_before a rest next x));
        queue = λ x. set_at-kept (λ (r : Part). claims_of new_scope (r.queue x)) w.part a begun refl (st.owner x) ∙ unseen.queue x;
        tokens = λ p q. set_at-kept (λ (r : Part). tokens_of new_scope (w.link p q ++ r.out q)) w.part a begun refl p ∙ unseen.tokens p q;
      } in
      admits (goes_on st a new_scope v 0 rest begun) (reached st new_scope v a 0)
      (subst (λ (ms : List ℕ). Shows st (with_part w a (goes_on st a new_scope v 0 ms begun)) new_scope (sight_of st new_scope (reached st new_scope v a 0))) (sym more) (goes_on-shows st is w a begun new_scope v 0 may.vertex hand))
      (λ t apart. goes_on-same st a new_scope v t apart 0 rest begun)
      (omega (arith, goes_on-serial st a new_scope v 0 rest begun))
      (reached-stage st is new_scope v a 0 may.vertex new_home a_low)
      (λ x. reached-locks st is new_scope v a 0 may.vertex x ∙ nothing_before a rest next x)
      (reached-flying st new_scope v a 0)

  admits_there : (b : ℕ) (rest : List ℕ) → machines_from st v 0 ≡ b ∷ rest → ArePlaces st (with_part w a (posts b (Ask new_scope v rest) begun)) (set_for stage new_scope (Asks v a b))
  admits_there b rest next =
      let h = next_machine st v 0 b rest next in
      let new : Part = posts b (Ask new_scope v rest) begun in
      let token : Token = IsAsked v rest in
      let told : (p q : ℕ) → tokens_of new_scope (w.link p q ++ (set_at w.part a new p).out q) ≡ one_if (p == a && q == b) token =
      λ p q.
      let read : Part → List Token = λ (r : Part). tokens_of new_scope (w.link p q ++ r.out q) in
      ⊎_elim
      (λ (here : p ≡ a).
      let before : read (w.part a) ≡ [] = ap (λ (c : ℕ). tokens_of new_scope (w.link p q ++ (w.part c).out q)) (sym here) ∙ unseen.tokens p q in
      let now : read (set_at w.part a new p) ≡ read (w.part a) ++ (if q == b then token ∷ [] else []) =
      set_at-here read w.part a new p here ∙ put-tokens new_scope (w.link p q) (w.part a).out b (Ask new_scope v rest) q
      ∙ ap (λ (front : List Token). read (w.part a) ++ (if q == b then front else [])) (asked_here new_scope v rest) in
      let at : (p == a) ≡ true = eq-eqb p a here in
      now ∙ (λ i. before i ++ (if q == b then token ∷ [] else [])) ∙ sym (ap (λ (test : Bool). one_if (test && q == b) token) at))
      (λ (off : p ≢ a).
      let away : (p == a) ≡ false = ne_eqb p a off in
      set_at-there read w.part a new p off ∙ unseen.tokens p q ∙ sym (ap (λ (test : Bool). one_if (test && q == b) token) away))
      (cases_eq p a) in
      let shown : Shows st (with_part w a new) new_scope (sight_of st new_scope (Asks v a b)) =
      record {
        flight = flight_here new refl;
        ready = set_at-kept (λ (r : Part). r.ready new_scope) w.part a new refl a ∙ unseen.ready;
        stand = λ c. set_at-kept (λ (r : Part). r.stand new_scope) w.part a new refl c ∙ unseen.stand c;
        holder = λ x. set_at-kept (λ (r : Part). r.holder x new_scope) w.part a new refl (st.owner x) ∙ unseen.holder x ∙ sym (ap (λ (test : Bool). some_if test (mode_at v x)) (nothing_before b rest next x));
        queue = λ x. set_at-kept (λ (r : Part). claims_of new_scope (r.queue x)) w.part a new refl (st.owner x) ∙ unseen.queue x;
        tokens = λ p q. told p q ∙ ap (λ (ms : List ℕ). one_if (p == a && q == b) (IsAsked v ms)) h.3;
      } in
      admits new (Asks v a b)
      shown
      (λ t apart. put-same t b (Ask new_scope v rest) begun (not_asked t new_scope v rest apart))
      (omega arith)
      (new_home, h.1, a_low)
      (nothing_before b rest next)
      refl

  admits_first : (b : ℕ) (rest : List ℕ) → machines_from st v 0 ≡ b ∷ rest → (test : Bool) → (b == a) ≡ test → (next : Stage) × ArePlaces st (with_part w a (if test then goes_on st a new_scope v 0 rest begun else posts b (Ask new_scope v rest) begun)) (set_for stage new_scope next)
  admits_first b rest next true at = (reached st new_scope v a 0, admits_here rest (next ∙ (λ i. eqb-true b a at i ∷ rest)))
  admits_first b rest next false at = (Asks v a b, admits_there b rest next)

  admit_by : (machines : List ℕ) → machines_from st v 0 ≡ machines → (next : Stage) × ArePlaces st (with_part w a (sets_out st a new_scope v machines begun)) (set_for stage new_scope next)
  admit_by [] next =
      absurd (both_ways (takes_part st v (st.owner v)) (no_machine st v 0 next (st.owner v) (omega arith) (is.owner v may.vertex)) (owner_takes_part st is v v may.vertex (scoped_itself st is v)))
  admit_by (b ∷ rest) next = admits_first b rest next (b == a) refl

  pub admit_keeps : st.engine ≡ Locking → (new : ScopeId → Stage) × ArePlaces st (with_part w a (admitted st a v (w.part a))) new
  admit_keeps locks =
      let h = admit_by (machines_from st v 0) refl in
      let is_so : admitted st a v (w.part a) ≡ admitted_by Locking st a v (w.part a) = ap (λ (engine : Engine). admitted_by engine st a v (w.part a)) locks in
      (set_for stage new_scope h.0, subst (λ (part : Part). ArePlaces st (with_part w a part) (set_for stage new_scope h.0)) (sym is_so) h.1)
