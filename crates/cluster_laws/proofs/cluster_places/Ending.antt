-- A scope ends: its update, or its snapshot update, is made, and the other machines are told.
use Rattle.std.proofs.Common.{◌≡◌, ◌≢◌, ℕ, ◌≤◌, ◌==◌, ◌&&◌, not, Bool, true, false, if◌then◌else◌, None, Some, List, [], ◌∷◌, ◌++◌, refl, sym, ◌∙◌, ap, ⊎_elim, inl, append_assoc, append-nil, arith}
use Rattle.std.proofs.lemmas.Bool.{cases_eq, cases_Bool, eq-eqb, ne_eqb, and_parts, and_from, and_left, and_right}
use Rattle.gl_base.specs.declared.entries.Entry.{Entry}
use Rattle.gl_base.specs.declared.scopes.ScopeId.{ScopeId}
use Rattle.cluster_laws.specs.cluster_core.Messages.{Message, News, Done}
use Rattle.cluster_laws.specs.cluster_core.Parts.{Part}
use Rattle.cluster_laws.specs.cluster_core.Ranges.{set_at}
use Rattle.cluster_laws.specs.cluster_core.Settings.{Setting, IsSetting, is_in_scope}
use Rattle.cluster_laws.specs.cluster_core.Scopes.{is_scope, set_for, mode_at, takes_part}
use Rattle.cluster_laws.specs.cluster_core.Effects.{released, tell, news_for, mark_news, updated, marked}
use Rattle.cluster_laws.specs.cluster_core.Worlds.{World, with_part}
use Rattle.cluster_laws.specs.cluster_core.Stages.{Token, IsDone, Stage, Stays, Ends, Shows, sight_of, has_lock, centre_of, some_if, one_if, tokens_of, claims_of}
use Rattle.cluster_laws.specs.cluster_core.Places.{ArePlaces, IsAtHome}
use Rattle.cluster_laws.proofs.cluster_core.Basics.{set_at-kept, set_at-here, set_at-there, set_for-same, set_for-other}
use Rattle.cluster_laws.proofs.cluster_core.Nearness.{owner_takes_part}
use Rattle.cluster_laws.proofs.cluster_places.Frames.{SameFor, shows_still, tokens_of-push}
use Rattle.cluster_laws.proofs.cluster_places.Going.{held-same}
use Rattle.cluster_laws.proofs.cluster_places.Seen.{staying_stage}
use Rattle.cluster_laws.proofs.cluster_places.Moving.{one_moves}
use Rattle.cluster_laws.proofs.cluster_places.Standing.{serials_rise, shows_as, stage_as, busy_low}
use Rattle.cluster_laws.proofs.cluster_places.Delivering.{done_here, not_done, none_flies}

-- the scope of v is over at its home, which tells the others
pub record IsEnd (st : Setting) (s : ScopeId) (v : ℕ) (news : ℕ → News) (old made : Part) : Type 0 where
  pub flight : made.flight ≡ set_for old.flight s None
  pub ready : made.ready ≡ set_for old.ready s false
  pub stand : made.stand ≡ old.stand
  pub holder : made.holder ≡ released s old.holder
  pub queue : made.queue ≡ old.queue
  pub serial : made.serial ≡ old.serial
  pub out : made.out ≡ tell st s.home.0 v s news old.out
  pub centre : (q : ℕ) → (news q).centre ≡ v

-- an update is such, and so is a snapshot update
pub update_ends : (st : Setting) (s : ScopeId) (v : ℕ) (entry : Entry) (old : Part) → IsEnd st s v (news_for st old v) old (updated st s.home.0 s v entry old)
update_ends st s v entry old =
    record { flight = refl; ready = refl; stand = refl; holder = refl; queue = refl; serial = refl; out = refl; centre = λ q. refl }

pub mark_ends : (st : Setting) (s : ScopeId) (v : ℕ) (old : Part) → IsEnd st s v (mark_news st old v) old (marked st s.home.0 s v old)
mark_ends st s v old =
    record { flight = refl; ready = refl; stand = refl; holder = refl; queue = refl; serial = refl; out = refl; centre = λ q. refl }

told_same : (t s : ScopeId) (news : News) (test : Bool) (messages : List Message) → is_scope t s ≡ false → tokens_of t (if test then messages ++ Done s news ∷ [] else messages) ≡ tokens_of t messages
told_same t s news true messages apart =
    tokens_of-push t messages (Done s news) ∙ ap (λ (more : List Token). tokens_of t messages ++ more) (not_done t s news apart) ∙ append-nil (tokens_of t messages)
told_same t s news false messages apart = refl

-- where nothing was told, the news are all that is
told_once : (s : ScopeId) (news : News) (v : ℕ) (test : Bool) (link out : List Message) → news.centre ≡ v → tokens_of s (link ++ out) ≡ [] → tokens_of s (link ++ (if test then out ++ Done s news ∷ [] else out)) ≡ one_if test (IsDone v)
told_once s news v true link out centre none =
    ap (tokens_of s) (sym (append_assoc link out (Done s news ∷ []))) ∙ tokens_of-push s (link ++ out) (Done s news) ∙ (λ i. none i ++ (done_here s news ∙ (λ j. IsDone (centre j) ∷ [])) i)
told_once s news v false link out centre none = none

module _ (st : Setting) (is : IsSetting st) (w : World) (stage : ScopeId → Stage) (places : ArePlaces st w stage) (s : ScopeId) (u : ℕ) (flight : (w.part s.home.0).flight s ≡ Some u) (ready : (w.part s.home.0).ready s ≡ true) (news : ℕ → News) (made : Part) (end : IsEnd st s u news (w.part s.home.0) made) where
  pub was_ready : stage s ≡ Stays u
  was_ready = staying_stage st s (stage s) u (sym (places.shows s).flight ∙ flight) (sym (places.shows s).ready ∙ ready)

  -- the machines that are told
  abbrev pub reaches : ℕ → Bool
  reaches q = takes_part st u q && not (q == s.home.0)

  seen : Shows st w s (sight_of st s (Stays u))
  seen = shows_as st w stage places s (Stays u) was_ready

  stands : IsAtHome st s u
  stands = stage_as st w stage places s (Stays u) was_ready

  reaches_none : (q : ℕ) → q ≡ s.home.0 → reaches q ≡ false
  reaches_none q here = and_right (takes_part st u q) (not (q == s.home.0)) (ap not (eq-eqb q s.home.0 here))

  made_same : (t : ScopeId) → is_scope t s ≡ false → SameFor t (w.part s.home.0) made
  made_same t apart =
      record {
        flight = (λ i. end.flight i t) ∙ set_for-other (w.part s.home.0).flight s None t apart;
        ready = (λ i. end.ready i t) ∙ set_for-other (w.part s.home.0).ready s false t apart;
        stand = λ i. end.stand i t;
        holder = λ x. (λ i. end.holder i x t) ∙ set_for-other ((w.part s.home.0).holder x) s None t apart;
        queue = λ x. λ i. claims_of t (end.queue i x);
        out = λ q. (λ i. tokens_of t (end.out i q)) ∙ told_same t s (news q) (reaches q) ((w.part s.home.0).out q) apart;
      }

  held_still : (x : ℕ) → st.owner x ≢ s.home.0 → is_in_scope st u x ≡ has_lock st (Ends u reaches) x
  held_still x off =
      ⊎_elim
      (λ (scoped : is_in_scope st u x ≡ true).
      let told : reaches (st.owner x) ≡ true =
      and_from (takes_part st u (st.owner x)) (not (st.owner x == s.home.0)) (owner_takes_part st is u x stands.vertex scoped) (ap not (ne_eqb (st.owner x) s.home.0 off)) in
      scoped ∙ sym (and_from (is_in_scope st u x) (reaches (st.owner x)) scoped told))
      (λ (away : is_in_scope st u x ≡ false). away ∙ sym (and_left (is_in_scope st u x) (reaches (st.owner x)) away))
      (cases_Bool (is_in_scope st u x))

  made_shows : Shows st (with_part w s.home.0 made) s (sight_of st s (Ends u reaches))
  made_shows =
      let home : ℕ = s.home.0 in
      record {
        flight = set_at-here (λ (r : Part). r.flight s) w.part s.home.0 made s.home.0 refl ∙ (λ i. end.flight i s) ∙ set_for-same (w.part s.home.0).flight s None;
        ready = set_at-here (λ (r : Part). r.ready s) w.part s.home.0 made s.home.0 refl ∙ (λ i. end.ready i s) ∙ set_for-same (w.part s.home.0).ready s false;
        stand = λ b. set_at-kept (λ (r : Part). r.stand s) w.part s.home.0 made (λ i. end.stand i s) b ∙ seen.stand b;
        holder = λ x. ⊎_elim
            (λ (here : st.owner x ≡ s.home.0).
            set_at-here (λ (r : Part). r.holder x s) w.part s.home.0 made (st.owner x) here
            ∙ (λ i. end.holder i x s)
            ∙ set_for-same ((w.part s.home.0).holder x) s None
            ∙ sym (ap (λ (test : Bool). some_if test (mode_at u x)) (and_right (is_in_scope st u x) (reaches (st.owner x)) (reaches_none (st.owner x) here))))
            (λ (off : st.owner x ≢ s.home.0).
            set_at-there (λ (r : Part). r.holder x s) w.part s.home.0 made (st.owner x) off
            ∙ seen.holder x
            ∙ held-same u (has_lock st (Stays u)) (has_lock st (Ends u reaches)) x (held_still x off))
            (cases_eq (st.owner x) s.home.0);
        queue = λ x. set_at-kept (λ (r : Part). claims_of s (r.queue x)) w.part s.home.0 made (λ i. claims_of s (end.queue i x)) (st.owner x) ∙ seen.queue x;
        tokens = λ p q. ⊎_elim
            (λ (here : p ≡ s.home.0).
            let none : tokens_of s (w.link p q ++ (w.part s.home.0).out q) ≡ [] =
            ap (λ (c : ℕ). tokens_of s (w.link p q ++ (w.part c).out q)) (sym here) ∙ seen.tokens p q in
            set_at-here (λ (r : Part). tokens_of s (w.link p q ++ r.out q)) w.part s.home.0 made p here
            ∙ (λ i. tokens_of s (w.link p q ++ end.out i q))
            ∙ told_once s (news q) u (reaches q) (w.link p q) ((w.part s.home.0).out q) (end.centre q) none
            ∙ sym (ap (λ (test : Bool). one_if (test && reaches q) (IsDone u)) (eq-eqb p s.home.0 here)))
            (λ (off : p ≢ s.home.0).
            set_at-there (λ (r : Part). tokens_of s (w.link p q ++ r.out q)) w.part s.home.0 made p off
            ∙ seen.tokens p q
            ∙ sym (ap (λ (test : Bool). one_if (test && reaches q) (IsDone u)) (ne_eqb p s.home.0 off)))
            (cases_eq p s.home.0);
      }

  pub end_keeps : ArePlaces st (with_part w s.home.0 made) (set_for stage s (Ends u reaches))
  end_keeps =
      let rises : (b : ℕ) → (w.part b).serial ≤ (set_at w.part s.home.0 made b).serial = serials_rise w s.home.0 made (omega (arith, end.serial)) in
      one_moves st w (with_part w s.home.0 made) stage places s (Ends u reaches)
      made_shows
      (λ t apart shows. shows_still st w s.home.0 made t (sight_of st t (stage t)) (made_same t apart) shows)
      (stands, reaches_none s.home.0 refl, λ q told. (and_parts (takes_part st u q) (not (q == s.home.0)) told).0)
      rises
      (λ busy. omega (arith, busy_low st w stage places s (Stays u) was_ready (λ idle. cc), rises s.home.0))
      (λ x has. inl (ap (λ (y : Stage). has_lock st y x) was_ready ∙ (and_parts (is_in_scope st u x) (reaches (st.owner x)) has).0, sym (ap centre_of was_ready)))
      (λ v flies. absurd (none_flies v flies))
