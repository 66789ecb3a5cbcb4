-- A message is sent, or received: the scopes are in their places again.
use Rattle.std.proofs.Common.{◌≡◌, ◌≢◌, ◌⊎◌, ℕ, suc, ◌<◌, ◌≤◌, ◌==◌, ◌&&◌, not, Bool, true, false, None, Some, List, [], ◌∷◌, ◌++◌, refl, sym, ◌∙◌, ap, subst, ⊎_elim, inl, arith}
use Rattle.std.proofs.lemmas.Bool.{cases_eq, eq-eqb, ne_eqb, and_parts, and_from, and_left, and_right}
use Rattle.gl_base.specs.declared.scopes.ScopeId.{ScopeId}
use Rattle.cluster_laws.specs.cluster_core.Messages.{Message, News, Ask, Ready, Done}
use Rattle.cluster_laws.specs.cluster_core.Parts.{Part}
use Rattle.cluster_laws.specs.cluster_core.Ranges.{set_at}
use Rattle.cluster_laws.specs.cluster_core.Settings.{Setting, IsSetting, is_in_scope}
use Rattle.cluster_laws.specs.cluster_core.Scopes.{is_scope, set_for, mode_at, machines_from}
use Rattle.cluster_laws.specs.cluster_core.Effects.{goes_on, applied}
use Rattle.cluster_laws.specs.cluster_core.Worlds.{World, with_part, way}
use Rattle.cluster_laws.specs.cluster_core.Actions.{sends, delivers}
use Rattle.cluster_laws.specs.cluster_core.Stages.{Token, IsAsked, IsReady, IsDone, Stage, Asks, Returns, Stays, Ends, Sight, Shows, sight_of, has_lock, centre_of, flying, some_if, one_if, token_of, tokens_of, claims_of}
use Rattle.cluster_laws.specs.cluster_core.Places.{ArePlaces, IsAtHome}
use Rattle.cluster_laws.proofs.cluster_core.Basics.{set_at-kept, set_at-here, set_at-there, set_for-same, set_for-other, same_scope, apart_turned}
use Rattle.cluster_laws.proofs.cluster_core.Nearness.{part_low}
use Rattle.cluster_laws.proofs.cluster_core.Taking.{taken, taken-here, taken-there, same_way, shorter, sent-way}
use Rattle.cluster_laws.proofs.cluster_places.Reaching.{reached, reached-locks, reached-stage, reached-centre, reached-flying}
use Rattle.cluster_laws.proofs.cluster_places.Frames.{shows_still, goes_on-same, not_asked, not_ready, readied}
use Rattle.cluster_laws.proofs.cluster_places.Going.{InHand, goes_on-shows, asked_here, ready_here}
use Rattle.cluster_laws.proofs.cluster_places.Seen.{asked_stage, ready_stage, done_stage}
use Rattle.cluster_laws.proofs.cluster_places.Moving.{one_moves}
use Rattle.cluster_laws.proofs.cluster_places.Standing.{serials_rise, goes_on-serial, shows_as, stage_as, busy_low}

-- ---- what is seen as a message leaves a link

module _ (w : World) (p q : ℕ) (m : Message) (behind : List Message) (first : w.link p q ≡ m ∷ behind) where
  -- of a scope that it doesn't name as much is told as before
  pub taken-tokens : (t : ScopeId) → token_of t m ≡ [] → (p' q' : ℕ) → tokens_of t (way (taken w p q m behind first) p' q') ≡ tokens_of t (way w p' q')
  taken-tokens t none p' q' =
      let now : World = taken w p q m behind first in
      ⊎_elim
      (λ (same : (p' ≡ p) × (q' ≡ q)).
      let here : tokens_of t (way w p q) ≡ tokens_of t (way now p q) =
      ap (tokens_of t) (taken-here w p q m behind first) ∙ ap (λ (front : List Token). front ++ tokens_of t (way now p q)) none in
      (λ i. tokens_of t (way now (same.0 i) (same.1 i))) ∙ sym here ∙ (λ i. tokens_of t (way w (sym same.0 i) (sym same.1 i))))
      (λ (off : (p' ≢ p) ⊎ (q' ≢ q)). ap (tokens_of t) (taken-there w p q m behind first p' q' off))
      (same_way p q p' q')

  pub taken-still : (st : Setting) (t : ScopeId) (seen : Sight) → token_of t m ≡ [] → Shows st w t seen → Shows st (taken w p q m behind first) t seen
  taken-still st t seen none shows =
      record {
        flight = shows.flight;
        ready = shows.ready;
        stand = shows.stand;
        holder = shows.holder;
        queue = shows.queue;
        tokens = λ p' q'. taken-tokens t none p' q' ∙ shows.tokens p' q';
      }

-- ---- what is seen as a message goes to its link

module _ (w : World) (p q : ℕ) (m : Message) (behind : List Message) (first : (w.part p).out q ≡ m ∷ behind) where
  pub sent-still : (st : Setting) (t : ScopeId) (seen : Sight) → Shows st w t seen → Shows st (sends w p q (m ∷ behind)) t seen
  sent-still st t seen shows =
      let less : Part = shorter w p q m behind first in
      record {
        flight = set_at-kept (λ (part : Part). part.flight t) w.part p less refl t.home.0 ∙ shows.flight;
        ready = set_at-kept (λ (part : Part). part.ready t) w.part p less refl t.home.0 ∙ shows.ready;
        stand = λ b. set_at-kept (λ (part : Part). part.stand t) w.part p less refl b ∙ shows.stand b;
        holder = λ x. set_at-kept (λ (part : Part). part.holder x t) w.part p less refl (st.owner x) ∙ shows.holder x;
        queue = λ x. set_at-kept (λ (part : Part). claims_of t (part.queue x)) w.part p less refl (st.owner x) ∙ shows.queue x;
        tokens = λ p' q'. ap (tokens_of t) (sent-way w p q m behind first p' q') ∙ shows.tokens p' q';
      }

pub done_here : (s : ScopeId) (news : News) → token_of s (Done s news) ≡ IsDone news.centre ∷ []
done_here s news = rw (same_scope s) refl

pub not_done : (t s : ScopeId) (news : News) → is_scope t s ≡ false → token_of t (Done s news) ≡ []
not_done t s news apart = rw (apart_turned t s apart) refl

without : (test : Bool) → (test && not false) ≡ test
without true = refl
without false = refl

pub none_flies : (v : ℕ) → None ≡ Some v → ⊥
none_flies v is = cc

module _ (st : Setting) (is : IsSetting st) (w : World) (stage : ScopeId → Stage) (places : ArePlaces st w stage) where
  pub send_keeps : (p q : ℕ) (m : Message) (behind : List Message) → (w.part p).out q ≡ m ∷ behind → ArePlaces st (sends w p q (m ∷ behind)) stage
  send_keeps p q m behind first =
      let less : Part = shorter w p q m behind first in
      record {
        shows = λ s. sent-still w p q m behind first st s (sight_of st s (stage s)) (places.shows s);
        stages = places.stages;
        admitted = λ s busy. subst (λ (n : ℕ). s.serial < n) (sym (set_at-kept (λ (part : Part). part.serial) w.part p less refl s.home.0)) (places.admitted s busy);
        single = places.single;
        alone = places.alone;
      }

  module _ (p q : ℕ) (m : Message) (behind : List Message) (first : w.link p q ≡ m ∷ behind) where
    abbrev now : World
    now = taken w p q m behind first

    -- what is told of the scope of the message
    pub told : (s : ScopeId) (token : Token) → token_of s m ≡ token ∷ [] → (sight_of st s (stage s)).tokens p q ≡ token ∷ tokens_of s (way now p q)
    told s token names =
        sym ((places.shows s).tokens p q) ∙ ap (tokens_of s) (taken-here w p q m behind first) ∙ ap (λ (front : List Token). front ++ tokens_of s (way now p q)) names

    -- of a scope that was told of here alone, nothing is told any more
    nothing_told : (s : ScopeId) (token : Token) → ((p' q' : ℕ) → tokens_of s (way w p' q') ≡ one_if (p' == p && q' == q) token) → tokens_of s (way now p q) ≡ [] → (p' q' : ℕ) → tokens_of s (way now p' q') ≡ []
    nothing_told s token alone none p' q' =
        ⊎_elim
        (λ (same : (p' ≡ p) × (q' ≡ q)). (λ i. tokens_of s (way now (same.0 i) (same.1 i))) ∙ none)
        (λ (off : (p' ≢ p) ⊎ (q' ≢ q)).
        let elsewhere : one_if (p' == p && q' == q) token ≡ [] =
        ⊎_elim
        (λ (from : p' ≢ p). ap (λ (test : Bool). one_if test token) (and_left (p' == p) (q' == q) (ne_eqb p' p from)))
        (λ (to : q' ≢ q). ap (λ (test : Bool). one_if test token) (and_right (p' == p) (q' == q) (ne_eqb q' q to)))
        off in
        ap (tokens_of s) (taken-there w p q m behind first p' q' off) ∙ alone p' q' ∙ elsewhere)
        (same_way p q p' q')

  ask_keeps : (p q : ℕ) (s : ScopeId) (v : ℕ) (rest : List ℕ) (behind : List Message) → w.link p q ≡ Ask s v rest ∷ behind → ArePlaces st (delivers st w p q (Ask s v rest ∷ behind)) (set_for stage s (reached st s v q 0))
  ask_keeps p q s v rest behind first =
      let m : Message = Ask s v rest in
      let now : World = taken w p q m behind first in
      let h = asked_stage st s (stage s) p q v rest (tokens_of s (way now p q)) (told p q m behind first s (IsAsked v rest) (asked_here s v rest)) in
      let seen = shows_as st w stage places s (Asks v p q) h.0 in
      let stands = stage_as st w stage places s (Asks v p q) h.0 in
      let home : IsAtHome st s v = stands.0 in
      let new : Part = goes_on st q s v 0 rest (w.part q) in
      let once : (p' q' : ℕ) → tokens_of s (way w p' q') ≡ one_if (p' == p && q' == q) (IsAsked v (machines_from st v (suc q))) = seen.tokens in
      let hand : InHand st now q (w.part q) s v 0 =
      record {
        flight = set_at-kept (λ (r : Part). r.flight s) w.part q (w.part q) refl s.home.0 ∙ seen.flight;
        ready = set_at-kept (λ (r : Part). r.ready s) w.part q (w.part q) refl s.home.0 ∙ seen.ready;
        stand = λ b off. seen.stand b;
        holder = λ x. set_at-kept (λ (r : Part). r.holder x s) w.part q (w.part q) refl (st.owner x) ∙ seen.holder x;
        queue = λ x. set_at-kept (λ (r : Part). claims_of s (r.queue x)) w.part q (w.part q) refl (st.owner x) ∙ seen.queue x;
        tokens = λ p' q'. set_at-kept (λ (r : Part). tokens_of s (now.link p' q' ++ r.out q')) w.part q (w.part q) refl p' ∙ nothing_told p q m behind first s (IsAsked v (machines_from st v (suc q))) once h.2 p' q';
      } in
      let shown : Shows st (with_part now q new) s (sight_of st s (reached st s v q 0)) =
      subst (λ (ms : List ℕ). Shows st (with_part now q (goes_on st q s v 0 ms (w.part q))) s (sight_of st s (reached st s v q 0))) (sym h.1) (goes_on-shows st is now q (w.part q) s v 0 home.vertex hand) in
      let rises : (b : ℕ) → (w.part b).serial ≤ (set_at w.part q new b).serial = serials_rise w q new (omega (arith, goes_on-serial st q s v 0 rest (w.part q))) in
      one_moves st w (delivers st w p q (m ∷ behind)) stage places s (reached st s v q 0)
      shown
      (λ t apart shows. shows_still st now q new t (sight_of st t (stage t)) (goes_on-same st q s v t apart 0 rest (w.part q)) (taken-still w p q m behind first st t (sight_of st t (stage t)) (not_asked t s v rest apart) shows))
      (reached-stage st is s v q 0 home.vertex home (part_low st is v q stands.1))
      rises
      (λ busy. omega (arith, busy_low st w stage places s (Asks v p q) h.0 (λ idle. cc), rises s.home.0))
      (λ x has. inl (ap (λ (y : Stage). has_lock st y x) h.0 ∙ sym (reached-locks st is s v q 0 home.vertex x) ∙ has, reached-centre st s v q 0 ∙ sym (ap centre_of h.0)))
      (λ u flies. inl (ap flying h.0 ∙ sym (reached-flying st s v q 0) ∙ flies))

  ready_keeps : (p q : ℕ) (s : ScopeId) (behind : List Message) → w.link p q ≡ Ready s ∷ behind → (v : ℕ) × ArePlaces st (delivers st w p q (Ready s ∷ behind)) (set_for stage s (Stays v))
  ready_keeps p q s behind first =
      let m : Message = Ready s in
      let now : World = taken w p q m behind first in
      let h = ready_stage st s (stage s) p q (tokens_of s (way now p q)) (told p q m behind first s IsReady (ready_here s)) in
      let v : ℕ = h.0 in
      let seen = shows_as st w stage places s (Returns v p) h.1 in
      let stands = stage_as st w stage places s (Returns v p) h.1 in
      let new : Part = record (w.part q) { ready = set_for (w.part q).ready s true } in
      let once : (p' q' : ℕ) → tokens_of s (way w p' q') ≡ one_if (p' == p && q' == q) IsReady =
      λ p' q'. seen.tokens p' q' ∙ ap (λ (home : ℕ). one_if (p' == p && q' == home) IsReady) (sym h.2) in
      let shown : Shows st (with_part now q new) s (sight_of st s (Stays v)) =
      record {
        flight = set_at-kept (λ (r : Part). r.flight s) w.part q new refl s.home.0 ∙ seen.flight;
        ready = set_at-here (λ (r : Part). r.ready s) w.part q new s.home.0 (sym h.2) ∙ set_for-same (w.part q).ready s true;
        stand = λ b. set_at-kept (λ (r : Part). r.stand s) w.part q new refl b ∙ seen.stand b;
        holder = λ x. set_at-kept (λ (r : Part). r.holder x s) w.part q new refl (st.owner x) ∙ seen.holder x;
        queue = λ x. set_at-kept (λ (r : Part). claims_of s (r.queue x)) w.part q new refl (st.owner x) ∙ seen.queue x;
        tokens = λ p' q'. set_at-kept (λ (r : Part). tokens_of s (now.link p' q' ++ r.out q')) w.part q new refl p' ∙ nothing_told p q m behind first s IsReady once h.3 p' q';
      } in
      let rises : (b : ℕ) → (w.part b).serial ≤ (set_at w.part q new b).serial = serials_rise w q new (omega arith) in (
        v,
        one_moves st w (delivers st w p q (m ∷ behind)) stage places s (Stays v)
            shown
            (λ t apart shows. shows_still st now q new t (sight_of st t (stage t)) (readied st q s v t apart (w.part q)) (taken-still w p q m behind first st t (sight_of st t (stage t)) (not_ready t s apart) shows))
            stands.0
            rises
            (λ busy. omega (arith, busy_low st w stage places s (Returns v p) h.1 (λ idle. cc), rises s.home.0))
            (λ x has. inl (ap (λ (y : Stage). has_lock st y x) h.1 ∙ has, sym (ap centre_of h.1)))
            (λ u flies. inl (ap flying h.1 ∙ flies)),
      )

  done_keeps : (p q : ℕ) (s : ScopeId) (news : News) (behind : List Message) → w.link p q ≡ Done s news ∷ behind → (next : Stage) × ArePlaces st (delivers st w p q (Done s news ∷ behind)) (set_for stage s next)
  done_keeps p q s news behind first =
      let m : Message = Done s news in
      let c : ℕ = news.centre in
      let now : World = taken w p q m behind first in
      let h = done_stage st s (stage s) p q c (tokens_of s (way now p q)) (told p q m behind first s (IsDone c) (done_here s news)) in
      let to : ℕ → Bool = h.0 in
      let seen = shows_as st w stage places s (Ends c to) h.1 in
      let stands = stage_as st w stage places s (Ends c to) h.1 in
      let new : Part = applied st q s news (w.part q) in
      let left : ℕ → Bool = λ b. to b && not (b == q) in
      let gone : left q ≡ false = rw (eq-eqb q q refl) (and_right (to q) false refl) in
      let kept : (b : ℕ) → b ≢ q → left b ≡ to b = λ b off. rw (ne_eqb b q off) (without (to b)) in
      let shown : Shows st (with_part now q new) s (sight_of st s (Ends c left)) =
      record {
        flight = set_at-kept (λ (r : Part). r.flight s) w.part q new refl s.home.0 ∙ seen.flight;
        ready = set_at-kept (λ (r : Part). r.ready s) w.part q new refl s.home.0 ∙ seen.ready;
        stand = λ b. set_at-kept (λ (r : Part). r.stand s) w.part q new refl b ∙ seen.stand b;
        holder = λ x. ⊎_elim
            (λ (here : st.owner x ≡ q).
            let none : left (st.owner x) ≡ false = ap left here ∙ gone in
            set_at-here (λ (r : Part). r.holder x s) w.part q new (st.owner x) here
            ∙ set_for-same ((w.part q).holder x) s None
            ∙ sym (ap (λ (test : Bool). some_if test (mode_at c x)) (and_right (is_in_scope st c x) (left (st.owner x)) none)))
            (λ (off : st.owner x ≢ q).
            set_at-there (λ (r : Part). r.holder x s) w.part q new (st.owner x) off
            ∙ seen.holder x
            ∙ sym (ap (λ (test : Bool). some_if (is_in_scope st c x && test) (mode_at c x)) (kept (st.owner x) off)))
            (cases_eq (st.owner x) q);
        queue = λ x. set_at-kept (λ (r : Part). claims_of s (r.queue x)) w.part q new refl (st.owner x) ∙ seen.queue x;
        tokens = λ p' q'. set_at-kept (λ (r : Part). tokens_of s (now.link p' q' ++ r.out q')) w.part q new refl p' ∙ ⊎_elim
            (λ (same : (p' ≡ p) × (q' ≡ q)).
            let none : left q' ≡ false = ap left same.1 ∙ gone in
            (λ i. tokens_of s (way now (same.0 i) (same.1 i))) ∙ h.4 ∙ sym (ap (λ (test : Bool). one_if test (IsDone c)) (and_right (p' == s.home.0) (left q') none)))
            (λ (off : (p' ≢ p) ⊎ (q' ≢ q)).
            let both : one_if (p' == s.home.0 && to q') (IsDone c) ≡ one_if (p' == s.home.0 && left q') (IsDone c) =
            ⊎_elim
            (λ (from : p' ≢ p).
            let away : (p' == s.home.0) ≡ false = ne_eqb p' s.home.0 (λ same. from (same ∙ sym h.2)) in
            ap (λ (test : Bool). one_if test (IsDone c)) (and_left (p' == s.home.0) (to q') away ∙ sym (and_left (p' == s.home.0) (left q') away)))
            (λ (at : q' ≢ q). ap (λ (test : Bool). one_if (p' == s.home.0 && test) (IsDone c)) (sym (kept q' at)))
            off in
            ap (tokens_of s) (taken-there w p q m behind first p' q' off) ∙ seen.tokens p' q' ∙ both)
            (same_way p q p' q');
      } in
      let rises : (b : ℕ) → (w.part b).serial ≤ (set_at w.part q new b).serial = serials_rise w q new (omega arith) in (
        Ends c left,
        one_moves st w (delivers st w p q (m ∷ behind)) stage places s (Ends c left)
            shown
            (λ t apart shows. shows_still st now q new t (sight_of st t (stage t)) (record {
              flight = refl;
              ready = refl;
              stand = refl;
              holder = λ x. set_for-other ((w.part q).holder x) s None t apart;
              queue = λ x. refl;
              out = λ b. refl;
            }) (taken-still w p q m behind first st t (sight_of st t (stage t)) (not_done t s news apart) shows))
            (stands.0, and_left (to s.home.0) (not (s.home.0 == q)) stands.1, λ b is. stands.2 b (and_parts (to b) (not (b == q)) is).0)
            rises
            (λ busy. omega (arith, busy_low st w stage places s (Ends c to) h.1 (λ idle. cc), rises s.home.0))
            (λ x has.
            let parts = and_parts (is_in_scope st c x) (left (st.owner x)) has in
            let more = and_parts (to (st.owner x)) (not (st.owner x == q)) parts.1 in
            inl (ap (λ (y : Stage). has_lock st y x) h.1 ∙ and_from (is_in_scope st c x) (to (st.owner x)) parts.0 more.0, sym (ap centre_of h.1)))
            (λ u flies. absurd (none_flies u flies)),
      )

  pub deliver_keeps : (p q : ℕ) (m : Message) (behind : List Message) → w.link p q ≡ m ∷ behind → (new : ScopeId → Stage) × ArePlaces st (delivers st w p q (m ∷ behind)) new
  deliver_keeps p q (Ask s v rest) behind first = (set_for stage s (reached st s v q 0), ask_keeps p q s v rest behind first)
  deliver_keeps p q (Ready s) behind first = let h = ready_keeps p q s behind first in (set_for stage s (Stays h.0), h.1)
  deliver_keeps p q (Done s news) behind first = let h = done_keeps p q s news behind first in (set_for stage s h.0, h.1)
