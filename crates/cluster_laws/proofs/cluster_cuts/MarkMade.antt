-- The snapshot update of a vertex keeps the marks.
use Rattle.std.proofs.Common.{◌≡◌, ℕ, ◌<◌, ◌≤◌, true, false, not, ◌&&◌, ◌||◌, ◌≢◌, ◌⊎◌, List, [], ◌∷◌, nat_lt, ◌==◌, Some, None, Option, sym, refl, ap, ◌∙◌, subst, subst₂, inl, ⊎_elim, true≢false, le_trans, le_of_eq, le_of_lt, lt_irrefl, arith, ltb-true, lt-ltb, eq-eqb, eqb-true}
use Rattle.std.specs.List.{AllByRecursion}
use Rattle.std.proofs.lemmas.Bool.{cases_eq, and_parts, or_cases, and_from, or_parts, not-true}
use Rattle.gl_base.specs.declared.entries.Entry.{Entry}
use Rattle.gl_base.specs.declared.scopes.ScopeId.{ScopeId}
use Rattle.gl_base.specs.declared.scopes.Datum.{Datum}
use Rattle.graph_core.specs.DataGraph.{size}
use Rattle.graph_core.proofs.HalvesLaws.{each-append}
use Rattle.cluster_laws.specs.cluster_core.Copies.{AreCopies}
use Rattle.cluster_laws.specs.cluster_core.Effects.{ends, is_left, save, marked_datum, number_if, pends_for, mark_news, marked}
use Rattle.cluster_laws.specs.cluster_core.Marks.{mark_of, IsMarking, IsInPlace, MarksHold}
use Rattle.cluster_laws.specs.cluster_core.Messages.{News, Message, Ask, Ready, Done}
use Rattle.cluster_laws.specs.cluster_core.Parts.{Part}
use Rattle.cluster_laws.specs.cluster_core.Places.{done_near}
use Rattle.cluster_laws.specs.cluster_core.Ranges.{first_passing, set_at}
use Rattle.cluster_laws.specs.cluster_core.Replays.{IsReplay}
use Rattle.cluster_laws.specs.cluster_core.Settings.{Setting, IsSetting, is_near}
use Rattle.cluster_laws.specs.cluster_core.Ways.{IsToldTo}
use Rattle.cluster_laws.specs.cluster_core.Worlds.{World, with_part, way}
use Rattle.cluster_laws.proofs.cluster_core.Basics.{set_at-same, set_at-other, set_at-cases, set_at-kept, set_at-here, set_at-there, first_passing-none}
use Rattle.cluster_laws.proofs.cluster_core.Nearness.{near_turned, near_within}
use Rattle.cluster_laws.proofs.cluster_numbers.NewsMade.{IsMade, mark_made, way_by}
use Rattle.cluster_laws.proofs.cluster_numbers.Replaying.{true_datum}
use Rattle.cluster_laws.proofs.cluster_cuts.MarkSteps.{seeded_pending, placed_same, newest_above}

module _ (st : Setting) (is : IsSetting st) (w : World) (s : ScopeId) (v : ℕ) (within : v < size st.graph) (owned : st.owner v ≡ s.home.0) (still : (p : ℕ) → done_near st v (way w p s.home.0) ≡ false) (copies : AreCopies st w) (order : List Entry) (replay : IsReplay st w order) (marks : MarksHold st w) (pends : (w.part s.home.0).pending v ≡ true) where
  abbrev own : Part
  own = w.part s.home.0

  abbrev made : Part
  made = marked st s.home.0 s v own

  abbrev world : World
  world = with_part w s.home.0 made

  abbrev news : ℕ → News
  news = mark_news st own v

  abbrev is_made : IsMade st s.home.0 s v news own made
  is_made = mark_made st s.home.0 s v own

  -- ---- it has no mark of the newest snapshot yet, and its machine knows that one

  pub home_low : s.home.0 < st.machines
  home_low = subst (λ a. a < st.machines) owned (is.owner v within)

  pub home_unmarked : mark_of st w v < own.known
  home_unmarked = subst (λ n. n < own.known) (sym (ap (λ a. ((w.part a).datum v).mark) owned)) (marks.pending s.home.0 v pends).2

  pub home_newest : (own.known ≡ w.begun) × (w.acknowledged < w.begun)
  home_newest = newest_above (mark_of st w v) own.known w.acknowledged w.begun marks.under (marks.marks v within).0 home_unmarked (marks.known s.home.0 home_low).1

  -- ---- marks afterwards

  pub mark_here : mark_of st world v ≡ w.begun
  mark_here =
      ap (λ (d : Datum). d.mark) (set_at-here (λ (p : Part). p.datum v) w.part s.home.0 made (st.owner v) owned ∙ set_at-same own.datum v (marked_datum own v)) ∙ home_newest.0

  mark_datum_else : (b u : ℕ) → u ≢ v → (world.part b).datum u ≡ (w.part b).datum u
  mark_datum_else b u other = set_at-cases (λ (p : Part). p.datum u ≡ (w.part b).datum u) w.part s.home.0 made b
      (λ same. set_at-other own.datum v (marked_datum own v) u other ∙ ap (λ j. (w.part j).datum u) (sym same))
      (λ there. refl)

  pub mark_else : (u : ℕ) → u ≢ v → mark_of st world u ≡ mark_of st w u
  mark_else u other = ap (λ (d : Datum). d.mark) (mark_datum_else (st.owner u) u other)

  pub known_same : (b : ℕ) → (world.part b).known ≡ (w.part b).known
  known_same b = set_at-kept (λ (p : Part). p.known) w.part s.home.0 made refl b

  sent_same : (b : ℕ) → (world.part b).sent ≡ (w.part b).sent
  sent_same b = set_at-kept (λ (p : Part). p.sent) w.part s.home.0 made refl b

  -- no mark is above the newest snapshot
  pub mark_high : (u : ℕ) → u < size st.graph → mark_of st w u ≤ w.begun
  mark_high u low = le_trans (marks.marks u low).1 (marks.known (st.owner u) (is.owner u low)).1

  -- the section of this machine was not sent
  not_sent : own.sent ≡ w.begun → ⊥
  not_sent sent =
      let all = marks.sent s.home.0 home_low sent home_newest.1 in
      lt_irrefl _ (subst₂ (λ m n. m < n) (all.1 v within owned) all.0 home_unmarked)

  -- ---- who is left

  -- a neighbour that is left has no mark
  pub left_low : (u : ℕ) → is_left st own v u ≡ true → (is_near st v u ≡ true) × (mark_of st w u < w.begun)
  left_low u left =
      let both = and_parts (is_near st v u) (nat_lt (own.datum u).mark own.known) left in
      (both.0, subst₂ (λ m n. m < n) (ap (λ (d : Datum). d.mark) (true_datum st is w s v within owned still copies order replay u both.0)) home_newest.0 (ltb-true (own.datum u).mark own.known both.1))

  pub left_from : (u : ℕ) → is_near st v u ≡ true → mark_of st w u < w.begun → is_left st own v u ≡ true
  left_from u near low =
      and_from (is_near st v u) (nat_lt (own.datum u).mark own.known) near
      (lt-ltb (own.datum u).mark own.known (subst₂ (λ m n. m < n) (sym (ap (λ (d : Datum). d.mark) (true_datum st is w s v within owned still copies order replay u near))) (sym home_newest.0) low))

  pub apart_from : (u : ℕ) → is_near st v u ≡ true → u ≢ v
  apart_from u near same = (near_within st is v u near).1 (sym same)

  -- ---- what is told

  marking_more : (p q : ℕ) (ms : List Message) → AllByRecursion (IsToldTo st p q) ms → (q ≡ s.home.0 → done_near st v ms ≡ false) → AllByRecursion (IsMarking st w) ms → AllByRecursion (IsMarking st world) ms
  marking_more p q [] fit quiet all = tt
  marking_more p q (Ask t c rest ∷ ms) fit quiet all = (tt, marking_more p q ms fit.1 quiet all.1)
  marking_more p q (Ready t ∷ ms) fit quiet all = (tt, marking_more p q ms fit.1 quiet all.1)
  marking_more p q (Done t n ∷ ms) fit quiet all = (
    (
      all.0.0,
      λ u named.
          let its = all.0.1 u named in
          let other : u ≢ v = λ same.
          let fits = fit.0.pends u named in
          let none = (or_parts (is_near st v n.centre) (done_near st v ms) (quiet (sym fits.1 ∙ ap st.owner same ∙ owned))).0 in
          true≢false (sym (near_turned st v n.centre ∙ subst (λ x. is_near st n.centre x ≡ true) same fits.0) ∙ none) in
          (its.0, subst (λ k. k < w.begun) (sym (mark_else u other)) its.1),
    ),
    marking_more p q ms fit.1 (λ same. (or_parts (is_near st v n.centre) (done_near st v ms) (quiet same)).1) all.1,
  )

  number_found : (q u : ℕ) → u < size st.graph → pends_for st own v q u ≡ true → number_if (first_passing (pends_for st own v q) 0 (size st.graph)) own.known ≡ own.known
  number_found q u low named = found (first_passing (pends_for st own v q) 0 (size st.graph)) refl
    where
      found : (first : Option ℕ) → first_passing (pends_for st own v q) 0 (size st.graph) ≡ first → number_if (first_passing (pends_for st own v q) 0 (size st.graph)) own.known ≡ own.known
      found (Some x) some = ap (λ o. number_if o own.known) some
      found None none = absurd (true≢false (sym named ∙ first_passing-none (pends_for st own v q) 0 (size st.graph) none u (omega arith) (omega arith)))

  number_low : (first : Option ℕ) → number_if first own.known ≤ w.begun
  number_low None = omega arith
  number_low (Some x) = le_of_eq home_newest.0

  news_marking : (q : ℕ) → IsMarking st world (Done s (news q))
  news_marking q = (
    number_low (first_passing (pends_for st own v q) 0 (size st.graph)),
    λ u named.
        let low = left_low u (and_parts (st.owner u == q) (is_left st own v u) named).1 in
        (number_found q u (near_within st is v u low.0).0 named ∙ home_newest.0, subst (λ k. k < w.begun) (sym (mark_else u (apart_from u low.0))) low.1),
  )

  told_marking : (p q : ℕ) → AllByRecursion (IsMarking st world) (way world p q)
  told_marking p q =
      let base = marking_more p q (way w p q) (copies.told p q) (λ same. subst (λ j. done_near st v (way w p j) ≡ false) (sym same) (still p)) (marks.told p q) in
      way_by st is w s v within owned still copies news made is_made (AllByRecursion (IsMarking st world)) p q
      (λ same yes_told. each-append (IsMarking st world) (way w p q) (Done s (news q) ∷ []) base (news_marking q, tt))
      base

  -- ---- what is pending

  -- the part before a seed is added
  abbrev unseeded : Part
  unseeded = ends st s.home.0 s v (mark_news st own v) (record own { datum = set_at own.datum v (marked_datum own v); pending = λ u. pends_for st own v s.home.0 u || (own.pending u && not (u == v)); saved = save st own v })

  pending_here : (u : ℕ) → made.pending u ≡ true → (u < size st.graph) × (st.owner u ≡ s.home.0) × ((made.datum u).mark < made.known)
  pending_here u yes_pends = ⊎_elim
      (λ (was : (pends_for st own v s.home.0 u || (own.pending u && not (u == v))) ≡ true). ⊎_elim
      (λ (named : pends_for st own v s.home.0 u ≡ true).
      let both = and_parts (st.owner u == s.home.0) (is_left st own v u) named in
      let low = left_low u both.1 in (
        (near_within st is v u low.0).0,
        eqb-true (st.owner u) s.home.0 both.0,
        subst (λ (d : Datum). d.mark < own.known) (sym (set_at-other own.datum v (marked_datum own v) u (apart_from u low.0)))
            (ltb-true (own.datum u).mark own.known (and_parts (is_near st v u) (nat_lt (own.datum u).mark own.known) both.1).1),
      ))
      (λ (old : (own.pending u && not (u == v)) ≡ true).
      let both = and_parts (own.pending u) (not (u == v)) old in
      let its = marks.pending s.home.0 u both.0 in (
        its.0,
        its.1,
        subst (λ (d : Datum). d.mark < own.known)
            (sym (set_at-other own.datum v (marked_datum own v) u (λ same. true≢false (sym (eq-eqb u v same) ∙ not-true (u == v) both.1)))) its.2,
      ))
      (or_cases (pends_for st own v s.home.0 u) (own.pending u && not (u == v)) was))
      (λ (seed : (u < size st.graph) × (st.owner u ≡ s.home.0) × ((unseeded.datum u).mark < unseeded.known)). seed)
      (seeded_pending st s.home.0 unseeded u yes_pends)

  in_place : (b : ℕ) → b < st.machines → IsInPlace world b
  in_place b low = ⊎_elim
      (λ (same : b ≡ s.home.0). ⊎_elim
      (λ (none : (w.reports b ≡ []) × (w.collected b ≡ None)). inl none)
      (λ (some : (w.acknowledged < w.begun) × ((w.part b).sent ≡ w.begun)
      × (((w.reports b ≡ (w.part b).saved ∷ []) × (w.collected b ≡ None)) ⊎ ((w.reports b ≡ []) × (w.collected b ≡ Some (w.part b).saved)))).
      absurd (not_sent (ap (λ j. (w.part j).sent) (sym same) ∙ some.1)))
      (marks.sections b low))
      (λ (other : b ≡ s.home.0 → ⊥).
      placed_same (w.reports b) (w.reports b) (w.collected b) (w.collected b) w.acknowledged w.acknowledged w.begun w.begun
      (w.part b).sent (world.part b).sent (w.part b).saved (world.part b).saved refl refl refl refl
      (sent_same b) (set_at-there (λ (p : Part). p.saved) w.part s.home.0 made b other) (marks.sections b low))
      (cases_eq b s.home.0)

  mark_bounds : (u : ℕ) → u < size st.graph → (w.acknowledged ≤ mark_of st world u) × (mark_of st world u ≤ (world.part (st.owner u)).known)
  mark_bounds u low = ⊎_elim
      (λ (same : u ≡ v).
      let mark : mark_of st world u ≡ w.begun = ap (mark_of st world) same ∙ mark_here in
      let known : (world.part (st.owner u)).known ≡ w.begun = known_same (st.owner u) ∙ ap (λ j. (w.part j).known) (ap st.owner same ∙ owned) ∙ home_newest.0 in
      (subst (λ n. w.acknowledged ≤ n) (sym mark) (le_of_lt home_newest.1), le_of_eq (mark ∙ sym known)))
      (λ (other : u ≡ v → ⊥). subst₂ (λ m n. (w.acknowledged ≤ m) × (m ≤ n)) (sym (mark_else u other)) (sym (known_same (st.owner u))) (marks.marks u low))
      (cases_eq u v)

  pub marks_marked : MarksHold st world
  marks_marked =
      record {
        base = marks.base;
        under = marks.under;
        known = λ b low. subst (λ n. (w.acknowledged ≤ n) × (n ≤ w.begun)) (sym (known_same b)) (marks.known b low);
        orders = marks.orders;
        marks = mark_bounds;
        pending = λ b u yes_pends. set_at-cases (λ (p : Part). p.pending u ≡ true → (u < size st.graph) × (st.owner u ≡ b) × ((p.datum u).mark < p.known)) w.part s.home.0 made b
            (λ same its. let here = pending_here u its in (here.0, here.1 ∙ sym same, here.2))
            (λ other its. marks.pending b u its)
            yes_pends;
        told = told_marking;
        sent_low = λ b low. subst (λ n. (w.acknowledged ≤ n) × (n ≤ w.begun)) (sym (sent_same b)) (marks.sent_low b low);
        sent = λ b low its under.
            let was = marks.sent b low (sym (sent_same b) ∙ its) under in (
              known_same b ∙ was.0,
              λ u inside owner. ⊎_elim
                  (λ (same : u ≡ v). ap (mark_of st world) same ∙ mark_here)
                  (λ (other : u ≡ v → ⊥). mark_else u other ∙ was.1 u inside owner)
                  (cases_eq u v),
            );
        sections = in_place;
      }
