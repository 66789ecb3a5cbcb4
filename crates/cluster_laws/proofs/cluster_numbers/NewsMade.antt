-- An update is made of a vertex while no news of its neighbours are on the way to its owner: the copies stay true.
use Rattle.std.proofs.Common.{◌≡◌, ℕ, suc, ◌<◌, Bool, true, false, not, ◌&&◌, ◌≢◌, ◌⊎◌, List, [], ◌∷◌, ◌++◌, length, is_some, nat_lt, ◌==◌, sym, refl, ap, ◌∙◌, subst, ap₂, subst₂, inl, inr, ⊎_elim, true≢false, append_assoc, arith, lt-ltb, eq-eqb, ne_eqb, eqb-true}
use Rattle.std.specs.List.{AllByRecursion}
use Rattle.std.proofs.lemmas.Bool.{cases_eq, cases_Bool, and_parts, and_from, and_right, or_parts, or_from, not_from_true, not_from_false, cond-true, cond-false, false_from_ne_true}
use Rattle.gl_base.specs.declared.entries.Entry.{Entry}
use Rattle.gl_base.specs.declared.scopes.ScopeId.{ScopeId}
use Rattle.gl_base.specs.declared.scopes.Datum.{Datum}
use Rattle.graph_core.specs.DataGraph.{size}
use Rattle.graph_core.proofs.HalvesLaws.{each-append}
use Rattle.seq_run.specs.States.{new_number, after_update, wakes}
use Rattle.cluster_laws.specs.cluster_core.Copies.{edge_to_come, from_owner, to_owner, agreed, AreCopies}
use Rattle.cluster_laws.specs.cluster_core.Effects.{newer_datum, edge_after, renewed, told_datum, is_shared, told_edge, news_for, tell, updated, is_left, marked_datum, mark_news, marked}
use Rattle.cluster_laws.specs.cluster_core.Messages.{News, Message, Ask, Ready, Done}
use Rattle.cluster_laws.specs.cluster_core.Parts.{Part, lent}
use Rattle.cluster_laws.specs.cluster_core.Places.{done_near}
use Rattle.cluster_laws.specs.cluster_core.Scopes.{takes_part}
use Rattle.cluster_laws.specs.cluster_core.Settings.{Setting, IsSetting, is_near, nth_edge}
use Rattle.cluster_laws.specs.cluster_core.Ways.{datum_told, edge_told, changes_edge, edge_changed, IsNewsFor, IsToldTo}
use Rattle.cluster_laws.specs.cluster_core.Worlds.{World, with_part, way}
use Rattle.cluster_laws.proofs.cluster_core.Basics.{set_at-same, set_at-other, set_at-cases, set_at-kept, set_at-here, set_at-there}
use Rattle.cluster_laws.proofs.cluster_core.Nearness.{owner_takes_part, scoped_near}
use Rattle.cluster_laws.proofs.cluster_numbers.EdgeEnds.{IsBetween, end_cases, between_same, ends_near, wakes_near, edge_kept, shared_ends, not_shared, shared_from}
use Rattle.cluster_laws.proofs.cluster_numbers.Passing.{any-neither, any_one}
use Rattle.cluster_laws.proofs.cluster_numbers.Told.{datum_told-append, edge_told-append, edge_not_told, edge_told-same}

-- ---- what is told is what was written

newer_told : (old : Datum) (new : ℕ) → newer_datum old (told_datum old new) ≡ renewed old new
newer_told old new = ⊎_elim
    (λ (same : new ≡ old.value). rw (eq-eqb new old.value same) refl)
    (λ (other : new ≡ old.value → ⊥). rw (ne_eqb new old.value other, lt-ltb old.version (suc old.version) (omega arith)) refl)
    (cases_eq new old.value)

pub renewed-value : (old : Datum) (new : ℕ) → (renewed old new).value ≡ new
renewed-value old new = ⊎_elim
    (λ (same : new ≡ old.value). rw (eq-eqb new old.value same) (sym same))
    (λ (other : new ≡ old.value → ⊥). rw (ne_eqb new old.value other) refl)
    (cases_eq new old.value)

pub renewed-mark : (old : Datum) (new : ℕ) → (renewed old new).mark ≡ old.mark
renewed-mark old new = ⊎_elim
    (λ (same : new ≡ old.value). rw (eq-eqb new old.value same) refl)
    (λ (other : new ≡ old.value → ⊥). rw (ne_eqb new old.value other) refl)
    (cases_eq new old.value)

edge_told_after : (old new : ℕ) → edge_after (told_edge true old new) old ≡ new
edge_told_after old new = ⊎_elim
    (λ (same : old ≡ new). rw (eq-eqb old new same) same)
    (λ (other : old ≡ new → ⊥). rw (ne_eqb old new other) refl)
    (cases_eq old new)

told_where_shared : (shared : Bool) (old new : ℕ) → is_some (told_edge shared old new) ≡ true → shared ≡ true
told_where_shared true old new some = refl
told_where_shared false old new some = some

-- ---- an edge of true copies

-- what an edge comes to is the same at the owners of its two ends
pub agreed_between : (st : Setting) (w : World) → AreCopies st w → (e x y : ℕ) → e < length st.graph.edges → IsBetween (nth_edge st e) x y → agreed st w e ≡ edge_to_come w e (st.owner x) (st.owner y)
agreed_between st w copies e x y within between = ⊎_elim
    (λ (z : ((nth_edge st e).from ≡ x) × ((nth_edge st e).to ≡ y)). ap₂ (λ a b. edge_to_come w e (st.owner a) (st.owner b)) z.0 z.1)
    (λ (z : ((nth_edge st e).to ≡ x) × ((nth_edge st e).from ≡ y)). copies.edges_agree e within ∙ ap₂ (λ a b. edge_to_come w e (st.owner a) (st.owner b)) z.0 z.1)
    between

-- copies go by the parts and the links alone
pub copies_by_parts : (st : Setting) (one other : World) → other.part ≡ one.part → other.link ≡ one.link → AreCopies st one → AreCopies st other
copies_by_parts st one other parts links copies =
    let ways : (p q : ℕ) → way other p q ≡ way one p q = λ p q. ap₂ (λ (l : ℕ → ℕ → List Message) (f : ℕ → Part). l p q ++ (f p).out q) links parts in
    let edges : (e a b : ℕ) → edge_to_come other e a b ≡ edge_to_come one e a b = λ e a b. ap₂ (edge_told e) (ways b a) (ap (λ (f : ℕ → Part). (f a).edge e) parts) in
    record {
      told = λ p q. subst (AllByRecursion (IsToldTo st p q)) (sym (ways p q)) (copies.told p q);
      vertices_agree = λ v a within part apart.
          ap₂ (datum_told v) (ways (st.owner v) a) (ap (λ (f : ℕ → Part). (f a).datum v) parts) ∙ copies.vertices_agree v a within part apart
          ∙ sym (ap (λ (f : ℕ → Part). (f (st.owner v)).datum v) parts);
      edges_agree = λ e within. edges e (from_owner st e) (to_owner st e) ∙ copies.edges_agree e within ∙ sym (edges e (to_owner st e) (from_owner st e));
      one_way = λ e within. ⊎_elim
          (λ none. inl (ap (edge_changed e) (ways (from_owner st e) (to_owner st e)) ∙ none))
          (λ none. inr (ap (edge_changed e) (ways (to_owner st e) (from_owner st e)) ∙ none))
          (copies.one_way e within);
    }

-- ---- what a machine makes of its part as it tells news of v

-- Machine a writes the datum of v and edges at v, and tells the others of the scope what it wrote.
pub record IsMade (st : Setting) (a : ℕ) (s : ScopeId) (v : ℕ) (news : ℕ → News) (old made : Part) : Type 0 where
  pub out : made.out ≡ tell st a v s news old.out
  pub centre : (q : ℕ) → (news q).centre ≡ v
  pub datum_else : (y : ℕ) → y ≢ v → made.datum y ≡ old.datum y
  pub told : (q : ℕ) → newer_datum (old.datum v) (news q).datum ≡ made.datum v
  pub edge_else : (e : ℕ) → ((nth_edge st e).from ≢ v) × ((nth_edge st e).to ≢ v) → made.edge e ≡ old.edge e
  pub shared : (e q : ℕ) → is_some ((news q).edges e) ≡ true → is_shared st v q (nth_edge st e) ≡ true
  pub edges : (e q : ℕ) → is_shared st v q (nth_edge st e) ≡ true → edge_after ((news q).edges e) (old.edge e) ≡ made.edge e
  pub wakes : (q u : ℕ) → (news q).wakes u ≡ true → (is_near st v u ≡ true) × (st.owner u ≡ q)
  pub pends : (q u : ℕ) → (news q).pends u ≡ true → (is_near st v u ≡ true) × (st.owner u ≡ q)

-- an update is such
pub update_made : (st : Setting) → IsSetting st → (a : ℕ) (s : ScopeId) (v : ℕ) (entry : Entry) (old : Part) → IsMade st a s v (news_for st old v) old (updated st a s v entry old)
update_made st is a s v entry old =
    let new : ℕ = new_number st.graph st.program (lent old) v in
    let edge : ℕ → ℕ = (after_update st.graph st.program (lent old) v).edge in
    record {
      out = refl;
      centre = λ q. refl;
      datum_else = λ y other. set_at-other old.datum v (renewed (old.datum v) new) y other;
      told = λ q. newer_told (old.datum v) new ∙ sym (set_at-same old.datum v (renewed (old.datum v) new));
      edge_else = λ e away. edge_kept st is (lent old) v e away;
      shared = λ e q some. told_where_shared (is_shared st v q (nth_edge st e)) (old.edge e) (edge e) some;
      edges = λ e q shared. ap (λ b. edge_after (told_edge b (old.edge e) (edge e)) (old.edge e)) shared ∙ edge_told_after (old.edge e) (edge e);
      wakes = λ q u woken.
          let both = and_parts (st.owner u == q) (wakes st.graph st.program (lent old) v u) woken in
          (wakes_near st is (lent old) v u both.1, eqb-true (st.owner u) q both.0);
      pends = λ q u no. absurd (true≢false (sym no));
    }

-- and so is a snapshot update
pub mark_made : (st : Setting) (a : ℕ) (s : ScopeId) (v : ℕ) (old : Part) → IsMade st a s v (mark_news st old v) old (marked st a s v old)
mark_made st a s v old =
    record {
      out = refl;
      centre = λ q. refl;
      datum_else = λ y other. set_at-other old.datum v (marked_datum old v) y other;
      told = λ q.
          cond-true (nat_lt (old.datum v).version (suc (old.datum v).version)) (marked_datum old v) (old.datum v) (lt-ltb (old.datum v).version (suc (old.datum v).version) (omega arith))
          ∙ sym (set_at-same old.datum v (marked_datum old v));
      edge_else = λ e away. refl;
      shared = λ e q some. absurd (true≢false (sym some));
      edges = λ e q shared. refl;
      wakes = λ q u no. absurd (true≢false (sym no));
      pends = λ q u yes_pends.
          let both = and_parts (st.owner u == q) (is_left st old v u) yes_pends in
          ((and_parts (is_near st v u) (nat_lt (old.datum u).mark old.known) both.1).0, eqb-true (st.owner u) q both.0);
    }

module _ (st : Setting) (is : IsSetting st) (w : World) (s : ScopeId) (v : ℕ) (within : v < size st.graph) (owned : st.owner v ≡ s.home.0) (still : (p : ℕ) → done_near st v (way w p s.home.0) ≡ false) (copies : AreCopies st w) where
  abbrev home : ℕ
  home = s.home.0

  -- no message to the owner of v changes an edge at v
  no_news : (e x p : ℕ) (ms : List Message) → e < length st.graph.edges → IsBetween (nth_edge st e) v x → AllByRecursion (IsToldTo st p home) ms → done_near st v ms ≡ false → edge_changed e ms ≡ false
  no_news e x p [] low between all none = refl
  no_news e x p (Ask t c rest ∷ ms) low between all none = no_news e x p ms low between all.1 none
  no_news e x p (Ready t ∷ ms) low between all none = no_news e x p ms low between all.1 none
  no_news e x p (Done t news ∷ ms) low between all none =
      let parts = or_parts (is_near st v news.centre) (done_near st v ms) none in
      or_from (is_some (news.edges e)) (edge_changed e ms)
      (false_from_ne_true (is_some (news.edges e)) (λ some.
      let (u, its, owner) = shared_ends st is news.centre home (nth_edge st e) (all.0.edges e some) in
      ⊎_elim
      (λ (z : (v ≡ news.centre) × (x ≡ u)). all.0.apart (sym all.0.centre ∙ ap st.owner (sym z.0) ∙ owned))
      (λ (z : (v ≡ u) × (x ≡ news.centre)). true≢false (sym (subst (λ c. is_near st v c ≡ true) z.1 (ends_near st is e v x low between)) ∙ parts.0))
      (between_same (nth_edge st e) v x news.centre u between its)))
      (no_news e x p ms low between all.1 parts.1)

  pub unchanged : (e x p : ℕ) → e < length st.graph.edges → IsBetween (nth_edge st e) v x → edge_changed e (way w p home) ≡ false
  unchanged e x p low between = no_news e x p (way w p home) low between (copies.told p home) (still p)

  -- the copy of an edge at v, at the owner of v, is the number that it comes to
  pub copy_true : (e x : ℕ) → e < length st.graph.edges → IsBetween (nth_edge st e) v x → agreed st w e ≡ (w.part home).edge e
  copy_true e x low between =
      agreed_between st w copies e v x low between ∙ ap (λ a. edge_to_come w e a (st.owner x)) owned
      ∙ edge_told-same e (way w (st.owner x) home) ((w.part home).edge e) (unchanged e x (st.owner x) low between)

  module _ (news : ℕ → News) (made : Part) (is_made : IsMade st s.home.0 s v news (w.part s.home.0) made) where
    abbrev pub new : World
    new = with_part w s.home.0 made

    abbrev reaches : ℕ → Bool
    reaches q = takes_part st v q && not (q == home)

    -- ---- ways

    pub way_told : (q : ℕ) → reaches q ≡ true → way new home q ≡ way w home q ++ Done s (news q) ∷ []
    way_told q yes_told =
        ap (λ ms. w.link home q ++ ms)
        (set_at-here (λ (part : Part). part.out q) w.part home made home refl ∙ ap (λ (f : ℕ → List Message). f q) is_made.out
        ∙ cond-true (reaches q) ((w.part home).out q ++ Done s (news q) ∷ []) ((w.part home).out q) yes_told)
        ∙ sym (append_assoc (w.link home q) ((w.part home).out q) (Done s (news q) ∷ []))

    pub way_else : (p q : ℕ) → (p ≢ home) ⊎ (reaches q ≡ false) → way new p q ≡ way w p q
    way_else p q other =
        ap (λ ms. w.link p q ++ ms)
        (set_at-cases (λ (part : Part). part.out q ≡ (w.part p).out q) w.part home made p
        (λ same. ⊎_elim
        (λ (no : p ≢ home). absurd (no same))
        (λ (no : reaches q ≡ false).
        ap (λ (f : ℕ → List Message). f q) is_made.out ∙ cond-false (reaches q) ((w.part home).out q ++ Done s (news q) ∷ []) ((w.part home).out q) no ∙ ap (λ j. (w.part j).out q) (sym same))
        other)
        (λ there. refl))

    pub way_cases : (p q : ℕ) → ((p ≡ home) × (reaches q ≡ true)) ⊎ ((p ≢ home) ⊎ (reaches q ≡ false))
    way_cases p q = ⊎_elim
        (λ (same : p ≡ home). ⊎_elim (λ (yes_told : reaches q ≡ true). inl (same, yes_told)) (λ (no : reaches q ≡ false). inr (inr no)) (cases_Bool (reaches q)))
        (λ (other : p ≡ home → ⊥). inr (inl other))
        (cases_eq p home)

    -- what is on the way from p to q now: as much as before, and where q is told the news behind that
    pub way_by : (P : List Message → Type 0) (p q : ℕ) → (p ≡ home → reaches q ≡ true → P (way w p q ++ Done s (news q) ∷ [])) → P (way w p q) → P (way new p q)
    way_by P p q more same = ⊎_elim
        (λ (told : (p ≡ home) × (reaches q ≡ true)).
        subst P (sym (subst (λ i. way new i q ≡ way w i q ++ Done s (news q) ∷ []) (sym told.0) (way_told q told.1))) (more told.0 told.1))
        (λ (other : (p ≢ home) ⊎ (reaches q ≡ false)). subst P (sym (way_else p q other)) same)
        (way_cases p q)

    pub reaches_none : reaches home ≡ false
    reaches_none = and_right (takes_part st v home) (not (home == home)) (not_from_true (home == home) (eq-eqb home home refl))

    pub reaches_from : (q : ℕ) → takes_part st v q ≡ true → q ≢ home → reaches q ≡ true
    reaches_from q part other = and_from (takes_part st v q) (not (q == home)) part (not_from_false (q == home) (ne_eqb q home other))

    pub reaches_apart : (q : ℕ) → reaches q ≡ true → home ≢ q
    reaches_apart q yes_told same = true≢false (sym yes_told ∙ subst (λ x. reaches x ≡ false) same reaches_none)

    -- ---- what is told

    news_fits : (q : ℕ) → reaches q ≡ true → IsNewsFor st home q (news q)
    news_fits q yes_told =
        record {
          centre = ap st.owner (is_made.centre q) ∙ owned;
          apart = reaches_apart q yes_told;
          edges = λ e some. subst (λ c. is_shared st c q (nth_edge st e) ≡ true) (sym (is_made.centre q)) (is_made.shared e q some);
          wakes = λ u yes_wakes. subst (λ c. (is_near st c u ≡ true) × (st.owner u ≡ q)) (sym (is_made.centre q)) (is_made.wakes q u yes_wakes);
          pends = λ u yes_pends. subst (λ c. (is_near st c u ≡ true) × (st.owner u ≡ q)) (sym (is_made.centre q)) (is_made.pends q u yes_pends);
        }

    told_more : (p q : ℕ) → AllByRecursion (IsToldTo st p q) (way new p q)
    told_more p q =
        way_by (AllByRecursion (IsToldTo st p q)) p q
        (λ same yes_told. each-append (IsToldTo st p q) (way w p q) (Done s (news q) ∷ []) (copies.told p q)
        (subst (λ i. IsNewsFor st i q (news q)) (sym same) (news_fits q yes_told), tt))
        (copies.told p q)

    -- ---- data

    pub datum_else : (b y : ℕ) → (b ≡ home → y ≢ v) → (new.part b).datum y ≡ (w.part b).datum y
    datum_else b y other = set_at-cases (λ (part : Part). part.datum y ≡ (w.part b).datum y) w.part home made b
        (λ same. is_made.datum_else y (other same) ∙ ap (λ j. (w.part j).datum y) (sym same))
        (λ there. refl)

    pub datum_written : (new.part (st.owner v)).datum v ≡ made.datum v
    datum_written = set_at-here (λ (part : Part). part.datum v) w.part home made (st.owner v) owned

    told_other : (q y : ℕ) (d : Datum) → y ≢ v → datum_told y (Done s (news q) ∷ []) d ≡ d
    told_other q y d other = cond-false (y == (news q).centre) (newer_datum d (news q).datum) d (ne_eqb y (news q).centre (λ same. other (same ∙ is_made.centre q)))

    told_own : (q : ℕ) (d : Datum) → d ≡ (w.part home).datum v → datum_told v (Done s (news q) ∷ []) d ≡ made.datum v
    told_own q d same =
        cond-true (v == (news q).centre) (newer_datum d (news q).datum) d (eq-eqb v (news q).centre (sym (is_made.centre q)))
        ∙ ap (λ x. newer_datum x (news q).datum) same ∙ is_made.told q

    copy_written : (b : ℕ) → takes_part st v b ≡ true → b ≢ st.owner v → datum_told v (way new (st.owner v) b) ((new.part b).datum v) ≡ made.datum v
    copy_written b part apart =
        let other : b ≢ home = λ same. apart (same ∙ sym owned) in
        let was : datum_told v (way w home b) ((w.part b).datum v) ≡ (w.part home).datum v =
        subst (λ p. datum_told v (way w p b) ((w.part b).datum v) ≡ (w.part p).datum v) owned (copies.vertices_agree v b within part apart) in
        ap₂ (λ ms d. datum_told v ms d) (ap (λ p. way new p b) owned ∙ way_told b (reaches_from b part other)) (datum_else b v (λ same. absurd (other same)))
        ∙ datum_told-append v (way w home b) (Done s (news b) ∷ []) ((w.part b).datum v)
        ∙ told_own b (datum_told v (way w home b) ((w.part b).datum v)) was

    copy_else : (y p b : ℕ) (d : Datum) → y ≢ v → datum_told y (way new p b) d ≡ datum_told y (way w p b) d
    copy_else y p b d other =
        way_by (λ ms. datum_told y ms d ≡ datum_told y (way w p b) d) p b
        (λ same yes_told. datum_told-append y (way w p b) (Done s (news b) ∷ []) d ∙ told_other b y (datum_told y (way w p b) d) other)
        refl

    vertices_after : (y b : ℕ) → y < size st.graph → takes_part st y b ≡ true → b ≢ st.owner y → datum_told y (way new (st.owner y) b) ((new.part b).datum y) ≡ (new.part (st.owner y)).datum y
    vertices_after y b low part apart = ⊎_elim
        (λ (same : y ≡ v).
        subst (λ x. takes_part st x b ≡ true → b ≢ st.owner x → datum_told x (way new (st.owner x) b) ((new.part b).datum x) ≡ (new.part (st.owner x)).datum x) (sym same)
        (λ its away. copy_written b its away ∙ sym datum_written) part apart)
        (λ (other : y ≡ v → ⊥).
        ap (datum_told y (way new (st.owner y) b)) (datum_else b y (λ same. other)) ∙ copy_else y (st.owner y) b ((w.part b).datum y) other
        ∙ copies.vertices_agree y b low part apart ∙ sym (datum_else (st.owner y) y (λ same. other)))
        (cases_eq y v)

    -- ---- edges

    edge_here : (e : ℕ) → (new.part home).edge e ≡ made.edge e
    edge_here e = set_at-here (λ (part : Part). part.edge e) w.part home made home refl

    -- of an edge at v, as its owner has it, and as the owner of the other end has it
    own_edge : (e x : ℕ) → e < length st.graph.edges → IsBetween (nth_edge st e) v x → edge_to_come new e home (st.owner x) ≡ made.edge e
    own_edge e x low between =
        ap₂ (λ ms n. edge_told e ms n) (way_else (st.owner x) home (inr reaches_none)) (edge_here e)
        ∙ edge_told-same e (way w (st.owner x) home) (made.edge e) (unchanged e x (st.owner x) low between)

    other_edge : (e x : ℕ) → e < length st.graph.edges → IsBetween (nth_edge st e) v x → edge_to_come new e (st.owner x) home ≡ made.edge e
    other_edge e x low between = ⊎_elim
        (λ (same : st.owner x ≡ home). subst₂ (λ i j. edge_to_come new e i j ≡ made.edge e) (sym same) same (own_edge e x low between))
        (λ (other : st.owner x ≡ home → ⊥).
        let part : takes_part st v (st.owner x) ≡ true = owner_takes_part st is v x within (scoped_near st is v x (ends_near st is e v x low between)) in
        let turned : IsBetween (nth_edge st e) x v = ⊎_elim (λ z. inr (z.1, z.0)) (λ z. inl (z.1, z.0)) between in
        let was : edge_told e (way w home (st.owner x)) ((w.part (st.owner x)).edge e) ≡ (w.part home).edge e =
        ap (λ p. edge_to_come w e (st.owner x) p) (sym owned) ∙ sym (agreed_between st w copies e x v low turned) ∙ copy_true e x low between in
        ap₂ (λ ms n. edge_told e ms n) (way_told (st.owner x) (reaches_from (st.owner x) part other)) (set_at-there (λ (p : Part). p.edge e) w.part home made (st.owner x) other)
        ∙ edge_told-append e (way w home (st.owner x)) (Done s (news (st.owner x)) ∷ []) ((w.part (st.owner x)).edge e)
        ∙ ap (edge_after ((news (st.owner x)).edges e)) was ∙ is_made.edges e (st.owner x) (shared_from st is v x (nth_edge st e) between))
        (cases_eq (st.owner x) home)

    -- of an edge that is not at v nothing is told, and nothing changes
    not_told : (e q : ℕ) → ((nth_edge st e).from ≢ v) × ((nth_edge st e).to ≢ v) → is_some ((news q).edges e) ≡ false
    not_told e q away = false_from_ne_true (is_some ((news q).edges e)) (λ some. true≢false (sym (is_made.shared e q some) ∙ not_shared st is v q (nth_edge st e) away))

    pub edge_else : (e y z : ℕ) → ((nth_edge st e).from ≢ v) × ((nth_edge st e).to ≢ v) → edge_to_come new e y z ≡ edge_to_come w e y z
    edge_else e y z away =
        ap (edge_told e (way new z y)) (set_at-kept (λ (part : Part). part.edge e) w.part home made (is_made.edge_else e away) y)
        ∙ way_by (λ ms. edge_told e ms ((w.part y).edge e) ≡ edge_to_come w e y z) z y
        (λ same yes_told. edge_told-append e (way w z y) (Done s (news y) ∷ []) ((w.part y).edge e) ∙ edge_not_told ((news y).edges e) (edge_to_come w e y z) (not_told e y away))
        refl

    changed_else : (e p q : ℕ) → ((nth_edge st e).from ≢ v) × ((nth_edge st e).to ≢ v) → edge_changed e (way w p q) ≡ false → edge_changed e (way new p q) ≡ false
    changed_else e p q away none =
        way_by (λ ms. edge_changed e ms ≡ false) p q
        (λ same yes_told. any-neither (changes_edge e) (way w p q) (Done s (news q) ∷ []) none (any_one (changes_edge e) (Done s (news q)) ∙ not_told e q away))
        none

    pub agreed_here : (e x : ℕ) → e < length st.graph.edges → IsBetween (nth_edge st e) v x → agreed st new e ≡ made.edge e
    agreed_here e x low between = ⊎_elim
        (λ (z : ((nth_edge st e).from ≡ v) × ((nth_edge st e).to ≡ x)).
        ap₂ (λ a b. edge_to_come new e (st.owner a) (st.owner b)) z.0 z.1 ∙ ap (λ a. edge_to_come new e a (st.owner x)) owned ∙ own_edge e x low between)
        (λ (z : ((nth_edge st e).to ≡ v) × ((nth_edge st e).from ≡ x)).
        ap₂ (λ a b. edge_to_come new e (st.owner a) (st.owner b)) z.1 z.0 ∙ ap (edge_to_come new e (st.owner x)) owned ∙ other_edge e x low between)
        between

    turned_here : (e x : ℕ) → e < length st.graph.edges → IsBetween (nth_edge st e) v x → edge_to_come new e (to_owner st e) (from_owner st e) ≡ made.edge e
    turned_here e x low between = ⊎_elim
        (λ (z : ((nth_edge st e).from ≡ v) × ((nth_edge st e).to ≡ x)).
        ap₂ (λ a b. edge_to_come new e (st.owner a) (st.owner b)) z.1 z.0 ∙ ap (edge_to_come new e (st.owner x)) owned ∙ other_edge e x low between)
        (λ (z : ((nth_edge st e).to ≡ v) × ((nth_edge st e).from ≡ x)).
        ap₂ (λ a b. edge_to_come new e (st.owner a) (st.owner b)) z.0 z.1 ∙ ap (λ a. edge_to_come new e a (st.owner x)) owned ∙ own_edge e x low between)
        between

    edges_after : (e : ℕ) → e < length st.graph.edges → edge_to_come new e (from_owner st e) (to_owner st e) ≡ edge_to_come new e (to_owner st e) (from_owner st e)
    edges_after e low = ⊎_elim
        (λ (at : (x : ℕ) × IsBetween (nth_edge st e) v x). agreed_here e at.0 low at.1 ∙ sym (turned_here e at.0 low at.1))
        (λ (away : ((nth_edge st e).from ≢ v) × ((nth_edge st e).to ≢ v)).
        edge_else e (from_owner st e) (to_owner st e) away ∙ copies.edges_agree e low ∙ sym (edge_else e (to_owner st e) (from_owner st e) away))
        (end_cases (nth_edge st e) v)

    -- the way to the owner of v changes no edge at v
    way_home : (e x : ℕ) → e < length st.graph.edges → IsBetween (nth_edge st e) v x → edge_changed e (way new (st.owner x) (st.owner v)) ≡ false
    way_home e x low between =
        ap (λ q. edge_changed e (way new (st.owner x) q)) owned ∙ ap (edge_changed e) (way_else (st.owner x) home (inr reaches_none)) ∙ unchanged e x (st.owner x) low between

    one_way_after : (e : ℕ) → e < length st.graph.edges → (edge_changed e (way new (from_owner st e) (to_owner st e)) ≡ false) ⊎ (edge_changed e (way new (to_owner st e) (from_owner st e)) ≡ false)
    one_way_after e low = ⊎_elim
        (λ (at : (x : ℕ) × IsBetween (nth_edge st e) v x). ⊎_elim
        (λ (z : ((nth_edge st e).from ≡ v) × ((nth_edge st e).to ≡ at.0)).
        inr (ap₂ (λ a b. edge_changed e (way new (st.owner a) (st.owner b))) z.1 z.0 ∙ way_home e at.0 low at.1))
        (λ (z : ((nth_edge st e).to ≡ v) × ((nth_edge st e).from ≡ at.0)).
        inl (ap₂ (λ a b. edge_changed e (way new (st.owner a) (st.owner b))) z.1 z.0 ∙ way_home e at.0 low at.1))
        at.1)
        (λ (away : ((nth_edge st e).from ≢ v) × ((nth_edge st e).to ≢ v)). ⊎_elim
        (λ none. inl (changed_else e (from_owner st e) (to_owner st e) away none))
        (λ none. inr (changed_else e (to_owner st e) (from_owner st e) away none))
        (copies.one_way e low))
        (end_cases (nth_edge st e) v)

    pub copies_made : AreCopies st new
    copies_made = record { told = told_more; vertices_agree = vertices_after; edges_agree = edges_after; one_way = one_way_after }
