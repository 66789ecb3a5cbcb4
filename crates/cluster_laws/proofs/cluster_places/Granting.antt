-- A lock is granted: its scope goes on, and all are in their places again.
use Rattle.std.proofs.Common.{◌≡◌, ◌≢◌, ℕ, suc, ◌<◌, ◌≤◌, ◌==◌, Bool, true, false, if◌then◌else◌, Option, Some, List, [], ◌∷◌, ◌++◌, refl, sym, ◌∙◌, ap, subst, ⊎_elim, inl, inr, arith}
use Rattle.std.proofs.lemmas.Bool.{cases_eq, eq-eqb, ne_eqb, and_from}
use Rattle.gl_base.specs.declared.scopes.Claim.{Claim}
use Rattle.gl_base.specs.declared.scopes.Mode.{Mode}
use Rattle.gl_base.specs.declared.scopes.ScopeId.{ScopeId}
use Rattle.cluster_laws.specs.cluster_core.Parts.{Part, Stand}
use Rattle.cluster_laws.specs.cluster_core.Ranges.{set_at}
use Rattle.cluster_laws.specs.cluster_core.Settings.{Setting, IsSetting, is_in_scope}
use Rattle.cluster_laws.specs.cluster_core.Scopes.{is_scope, set_for, mode_at, machines_from, is_before}
use Rattle.cluster_laws.specs.cluster_core.Effects.{goes_on, moves_on, takes_lock, first_granted, granted}
use Rattle.cluster_laws.specs.cluster_core.Worlds.{World, with_part}
use Rattle.cluster_laws.specs.cluster_core.Actions.{MayGrant}
use Rattle.cluster_laws.specs.cluster_core.Stages.{Stage, Waits, Shows, sight_of, has_lock, centre_of, flying, some_if, tokens_of, claims_of}
use Rattle.cluster_laws.specs.cluster_core.Places.{ArePlaces, IsAtHome}
use Rattle.cluster_laws.proofs.cluster_core.Basics.{set_at-same, set_at-other, set_at-kept, set_at-here, set_for-same, set_for-other, same_scope, apart_turned}
use Rattle.cluster_laws.proofs.cluster_places.Reaching.{reached, below, before_from, same_before, reached-locks, reached-stage, reached-centre, reached-flying}
use Rattle.cluster_laws.proofs.cluster_places.Frames.{SameFor, shows_still, same_then, goes_on-same, not_claimed}
use Rattle.cluster_laws.proofs.cluster_places.Going.{InHand, goes_on-shows, held-same}
use Rattle.cluster_laws.proofs.cluster_places.Seen.{waiting_stage, lock_seen, reader_elsewhere, some_centre}
use Rattle.cluster_laws.proofs.cluster_places.Moving.{LocksFit, one_moves}
use Rattle.cluster_laws.proofs.cluster_places.Standing.{serials_rise, goes_on-serial, shows_as, stage_as, busy_low}

own_claim : (c : Claim) (claims : List Claim) → claims_of c.scope (c ∷ claims) ≡ c ∷ claims_of c.scope claims
own_claim c claims = rw (same_scope c.scope) refl

module _ (st : Setting) (is : IsSetting st) (w : World) (stage : ScopeId → Stage) (places : ArePlaces st w stage) (a x : ℕ) (may : MayGrant st a x (w.part a)) where
  abbrev its : ScopeId
  its = may.claim.scope

  -- the lock is held, and the request is gone
  abbrev locked : Part
  locked = takes_lock x may.claim may.behind (w.part a)

  waited : (v : ℕ) × (stage its ≡ Waits v x) × (may.claim.mode ≡ mode_at v x) × (claims_of its may.behind ≡ [])
  waited =
      let seen : (sight_of st its (stage its)).queue x ≡ may.claim ∷ claims_of its may.behind =
      sym ((places.shows its).queue x)
      ∙ ap (λ (b : ℕ). claims_of its ((w.part b).queue x)) may.owned
      ∙ ap (claims_of its) may.first
      ∙ own_claim may.claim may.behind in
      waiting_stage st its (stage its) x may.claim (claims_of its may.behind) seen

  abbrev v : ℕ
  v = waited.0

  seen_waiting : Shows st w its (sight_of st its (Waits v x))
  seen_waiting = shows_as st w stage places its (Waits v x) waited.1

  home : IsAtHome st its v × (is_in_scope st v x ≡ true)
  home = stage_as st w stage places its (Waits v x) waited.1

  stood : (w.part a).stand its ≡ Some (record { centre = v; lock = x; rest = machines_from st v (suc a) })
  stood =
      let here : (a == st.owner x) ≡ true = eq-eqb a (st.owner x) (sym may.owned) in
      seen_waiting.stand a
      ∙ ap (λ (test : Bool). some_if test (record { centre = v; lock = x; rest = machines_from st v (suc (st.owner x)) })) here
      ∙ (λ i. Some (record { centre = v; lock = x; rest = machines_from st v (suc (may.owned i)) }))

  -- what the grant makes of the part
  grant_is : granted st a x (w.part a) ≡ goes_on st a its v (suc x) (machines_from st v (suc a)) locked
  grant_is =
      ap (λ (claims : List Claim). first_granted st a x claims (w.part a)) may.first
      ∙ ap (λ (stand : Option Stand). moves_on st a x may.claim stand locked) stood

  holds_more : (y : ℕ) → y ≢ x → below st v (st.owner x) x y ≡ below st v a (suc x) y
  holds_more y off =
      same_before st v (st.owner x) x a (suc x) y
      (λ scoped place. ⊎_elim
      (λ (lower : st.owner y < st.owner x). inl (omega (arith, may.owned)))
      (λ (here : (st.owner y ≡ st.owner x) × (y < x)). inr (here.0 ∙ may.owned, omega (arith, here.1)))
      place)
      (λ scoped place. ⊎_elim
      (λ (lower : st.owner y < a). inl (omega (arith, may.owned)))
      (λ (here : (st.owner y ≡ a) × (y < suc x)). inr (here.0 ∙ sym may.owned, omega (arith, here.1)))
      place)

  locked_holder : (y : ℕ) → y ≡ x → locked.holder y its ≡ Some (mode_at v y)
  locked_holder y here =
      let at : locked.holder x its ≡ Some (mode_at v x) =
      ap (λ (held_by : ScopeId → Option Mode). held_by its) (set_at-same (w.part a).holder x (set_for ((w.part a).holder x) its (Some may.claim.mode)))
      ∙ set_for-same ((w.part a).holder x) its (Some may.claim.mode)
      ∙ ap Some waited.2 in
      subst (λ (z : ℕ). locked.holder z its ≡ Some (mode_at v z)) (sym here) at

  now_below : (y : ℕ) → y ≡ x → below st v a (suc x) y ≡ true
  now_below y here =
      and_from (is_in_scope st v y) (is_before st y a (suc x)) (ap (is_in_scope st v) here ∙ home.1) (before_from st y a (suc x) (inr (ap st.owner here ∙ may.owned, omega arith)))

  granted_hand : InHand st w a locked its v (suc x)
  granted_hand =
      record {
        flight = set_at-kept (λ (r : Part). r.flight its) w.part a locked refl its.home.0 ∙ seen_waiting.flight;
        ready = set_at-kept (λ (r : Part). r.ready its) w.part a locked refl its.home.0 ∙ seen_waiting.ready;
        stand = λ b off. seen_waiting.stand b ∙ ap (λ (test : Bool). some_if test (record { centre = v; lock = x; rest = machines_from st v (suc (st.owner x)) })) (ne_eqb b (st.owner x) (λ same. off (same ∙ may.owned)));
        holder = λ y. ⊎_elim
            (λ (here : y ≡ x).
            set_at-here (λ (r : Part). r.holder y its) w.part a locked (st.owner y) (ap st.owner here ∙ may.owned)
            ∙ locked_holder y here
            ∙ sym (ap (λ (test : Bool). some_if test (mode_at v y)) (now_below y here)))
            (λ (off : y ≢ x).
            set_at-kept (λ (r : Part). r.holder y its) w.part a locked (ap (λ (held_by : ScopeId → Option Mode). held_by its) (set_at-other (w.part a).holder x (set_for ((w.part a).holder x) its (Some may.claim.mode)) y off)) (st.owner y)
            ∙ seen_waiting.holder y
            ∙ held-same v (below st v (st.owner x) x) (below st v a (suc x)) y (holds_more y off))
            (cases_eq y x);
        queue = λ y. ⊎_elim
            (λ (here : y ≡ x).
            set_at-here (λ (r : Part). claims_of its (r.queue y)) w.part a locked (st.owner y) (ap st.owner here ∙ may.owned)
            ∙ subst (λ (z : ℕ). claims_of its (locked.queue z) ≡ []) (sym here) (ap (claims_of its) (set_at-same (w.part a).queue x may.behind) ∙ waited.3))
            (λ (off : y ≢ x).
            set_at-kept (λ (r : Part). claims_of its (r.queue y)) w.part a locked (ap (claims_of its) (set_at-other (w.part a).queue x may.behind y off)) (st.owner y)
            ∙ seen_waiting.queue y
            ∙ ap (λ (test : Bool). if test then record { scope = its; mode = mode_at v x } ∷ [] else []) (ne_eqb y x off))
            (cases_eq y x);
        tokens = λ p q. set_at-kept (λ (r : Part). tokens_of its (w.link p q ++ r.out q)) w.part a locked refl p ∙ seen_waiting.tokens p q;
      }

  locked_same : (t : ScopeId) → is_scope t its ≡ false → SameFor t (w.part a) locked
  locked_same t apart =
      let fewer : claims_of t may.behind ≡ claims_of t ((w.part a).queue x) =
      sym (ap (claims_of t) may.first ∙ not_claimed t may.claim (apart_turned t its apart) may.behind) in
      record {
        flight = refl;
        ready = refl;
        stand = refl;
        holder = λ y. set_at-kept (λ (held_by : ScopeId → Option Mode). held_by t) (w.part a).holder x (set_for ((w.part a).holder x) its (Some may.claim.mode)) (set_for-other ((w.part a).holder x) its (Some may.claim.mode) t apart) y;
        queue = λ y. set_at-kept (claims_of t) (w.part a).queue x may.behind fewer y;
        out = λ q. refl;
      }

  -- no other scope that holds this lock does so as a writer, and this one does not if there is another
  read_by_both : (t : ScopeId) → has_lock st (stage t) x ≡ true → (v ≢ x) × (centre_of (stage t) ≢ Some x)
  read_by_both t has =
      let seen = lock_seen st t (stage t) x has in
      let c : ℕ = seen.0 in
      let holds : (w.part a).holder x t ≡ Some (mode_at c x) =
      ap (λ (b : ℕ). (w.part b).holder x t) (sym may.owned) ∙ (places.shows t).holder x ∙ seen.2 in
      let both = may.together t (mode_at c x) holds in (
        (λ same. reader_elsewhere v x (sym waited.2 ∙ both.1) (sym same)),
        (λ centre. reader_elsewhere c x both.0 (some_centre x c (sym centre ∙ seen.1))),
      )

  grant_fits : LocksFit st stage its (reached st its v a (suc x))
  grant_fits y has =
      let now : below st v a (suc x) y ≡ true = sym (reached-locks st is its v a (suc x) home.0.vertex y) ∙ has in
      ⊎_elim
      (λ (here : y ≡ x). inr (λ t apart also.
      let both = read_by_both t (subst (λ (z : ℕ). has_lock st (stage t) z ≡ true) here also) in (
        (λ centre. both.0 (some_centre v x (sym (reached-centre st its v a (suc x)) ∙ centre ∙ ap Some here))),
        (λ centre. both.1 (centre ∙ ap Some here)),
      )))
      (λ (off : y ≢ x). inl (ap (λ (z : Stage). has_lock st z y) waited.1 ∙ holds_more y off ∙ now, reached-centre st its v a (suc x) ∙ sym (ap centre_of waited.1)))
      (cases_eq y x)

  pub grant_keeps : (new : ScopeId → Stage) × ArePlaces st (with_part w a (granted st a x (w.part a))) new
  grant_keeps =
      let next : Stage = reached st its v a (suc x) in
      let new : Part = goes_on st a its v (suc x) (machines_from st v (suc a)) locked in
      let low : a < st.machines = subst (λ (b : ℕ). b < st.machines) may.owned (is.owner x may.vertex) in
      let rises : (b : ℕ) → (w.part b).serial ≤ (set_at w.part a new b).serial = serials_rise w a new (omega (arith, goes_on-serial st a its v (suc x) (machines_from st v (suc a)) locked)) in
      let kept : ArePlaces st (with_part w a new) (set_for stage its next) =
      one_moves st w (with_part w a new) stage places its next
      (goes_on-shows st is w a locked its v (suc x) home.0.vertex granted_hand)
      (λ t apart shows. shows_still st w a new t (sight_of st t (stage t)) (same_then t (w.part a) locked new (locked_same t apart) (goes_on-same st a its v t apart (suc x) (machines_from st v (suc a)) locked)) shows)
      (reached-stage st is its v a (suc x) home.0.vertex home.0 low)
      rises
      (λ busy. omega (arith, busy_low st w stage places its (Waits v x) waited.1 (λ idle. cc), rises its.home.0))
      grant_fits
      (λ u flies. inl (ap flying waited.1 ∙ sym (reached-flying st its v a (suc x)) ∙ flies)) in
      (set_for stage its next, subst (λ (part : Part). ArePlaces st (with_part w a part) (set_for stage its next)) (sym grant_is) kept)
