-- Each action of a snapshot keeps the marks, but for the snapshot update.
use Rattle.std.proofs.Common.{◌≡◌, ℕ, suc, ◌<◌, ◌≤◌, max, true, ◌≢◌, ◌⊎◌, List, [], ◌∷◌, ◌++◌, length, ◌==◌, Some, None, sym, refl, ap, ◌∙◌, subst, ap₂, subst₂, inl, inr, ⊎_elim, le_trans, le_of_eq, le_refl, lt_of_lt_of_le, le_of_lt, lt_irrefl, lt-suc_self, ne_of_lt, suc-ne-zero, arith, ne_eqb}
use Rattle.std.specs.List.{AllByRecursion}
use Rattle.std.proofs.lemmas.Bool.{cases_eq, or_cases, cond-false}
use Rattle.gl_base.specs.declared.scopes.ScopeId.{ScopeId}
use Rattle.gl_base.specs.declared.scopes.Datum.{Datum}
use Rattle.graph_core.specs.DataGraph.{size}
use Rattle.graph_core.proofs.HalvesLaws.{each-append, each-weaker}
use Rattle.cluster_laws.specs.cluster_core.Actions.{MaySend, MayRecord, delivers, begins_one, hears, sends_section, collects, records}
use Rattle.cluster_laws.specs.cluster_core.Copies.{AreCopies}
use Rattle.cluster_laws.specs.cluster_core.Effects.{newer_datum, begins, applied}
use Rattle.cluster_laws.specs.cluster_core.Marks.{mark_of, IsMarking, IsInPlace, MarksHold}
use Rattle.cluster_laws.specs.cluster_core.Messages.{News, Section, Message, Ask, Ready, Done}
use Rattle.cluster_laws.specs.cluster_core.Parts.{Part}
use Rattle.cluster_laws.specs.cluster_core.Ranges.{set_at}
use Rattle.cluster_laws.specs.cluster_core.Settings.{Setting, IsSetting}
use Rattle.cluster_laws.specs.cluster_core.Ways.{IsNewsFor, IsToldTo}
use Rattle.cluster_laws.specs.cluster_core.Worlds.{World, way}
use Rattle.cluster_laws.proofs.cluster_core.Basics.{set_at-cases, set_at-kept, set_at-here, set_at-there}
use Rattle.cluster_laws.proofs.cluster_core.Nearness.{near_within}
use Rattle.cluster_laws.proofs.cluster_core.Taking.{same_way, taken, taken-here, taken-there}
use Rattle.cluster_laws.proofs.cluster_numbers.Passing.{none_not_some}
use Rattle.cluster_laws.proofs.cluster_cuts.MarkSteps.{marking_same, placed_same, newest_above, IsLearning, marks_learned, begins_learns}

-- ---- news are received

below_max : (m n x k b : ℕ) → m < b → n ≡ b → m < max x n
below_max m n x k b low same = omega arith

module _ (st : Setting) (is : IsSetting st) (w : World) (p q : ℕ) (s : ScopeId) (news : News) (behind : List Message) (first : w.link p q ≡ Done s news ∷ behind) (copies : AreCopies st w) (marks : MarksHold st w) where
  told_front : AllByRecursion (IsMarking st w) (Done s news ∷ way (taken w p q (Done s news) behind first) p q)
  told_front = subst (AllByRecursion (IsMarking st w)) (taken-here w p q (Done s news) behind first) (marks.told p q)

  its_news : IsNewsFor st p q news
  its_news = (subst (AllByRecursion (IsToldTo st p q)) (taken-here w p q (Done s news) behind first) (copies.told p q)).0

  pub number_low : news.number ≤ w.begun
  number_low = told_front.0.0

  other_vertex : (u : ℕ) → st.owner u ≡ q → u ≢ news.centre
  other_vertex u owner same = its_news.apart (sym its_news.centre ∙ ap st.owner (sym same) ∙ owner)

  abbrev after_news : Part
  after_news = applied st q s news (w.part q)

  datum_same : (u : ℕ) → st.owner u ≡ q → after_news.datum u ≡ (w.part q).datum u
  datum_same u owner = cond-false (u == news.centre) (newer_datum ((w.part q).datum u) news.datum) ((w.part q).datum u) (ne_eqb u news.centre (other_vertex u owner))

  pub news_learn : IsLearning st q news.number (w.part q) after_news
  news_learn =
      let begun = begins_learns st q news.number w marks in
      record {
        known = refl;
        saved = refl;
        sent = refl;
        marks = λ u owner. ap (λ (d : Datum). d.mark) (datum_same u owner);
        pending = λ u yes_pends. ⊎_elim
            (λ (named : news.pends u ≡ true).
            let its = told_front.0.1 u named in
            let fits = its_news.pends u named in
            let low : mark_of st w u < max (w.part q).known news.number = below_max (mark_of st w u) news.number (w.part q).known 0 w.begun its.1 its.0 in (
              (near_within st is news.centre u fits.0).0,
              fits.1,
              subst (λ (d : Datum). d.mark < max (w.part q).known news.number) (ap (λ j. (w.part j).datum u) fits.1 ∙ sym (datum_same u fits.1)) low,
            ))
            (λ (was : (begins st q news.number (w.part q)).pending u ≡ true).
            let its = begun.pending u was in
            (its.0, its.1, subst (λ (d : Datum). d.mark < max (w.part q).known news.number) (sym (datum_same u its.1)) its.2))
            (or_cases (news.pends u) ((begins st q news.number (w.part q)).pending u) yes_pends);
      }

  abbrev new : World
  new = delivers st w p q (Done s news ∷ behind)

  told_now : (i j : ℕ) → AllByRecursion (IsMarking st w) (way new i j)
  told_now i j =
      let now : way new i j ≡ way (taken w p q (Done s news) behind first) i j =
      ap (λ ms. (taken w p q (Done s news) behind first).link i j ++ ms) (set_at-kept (λ (part : Part). part.out j) w.part q after_news refl i) in
      ⊎_elim
      (λ (both : (i ≡ p) × (j ≡ q)).
      subst (AllByRecursion (IsMarking st w)) (sym (now ∙ ap₂ (way (taken w p q (Done s news) behind first)) both.0 both.1)) told_front.1)
      (λ (other : (i ≢ p) ⊎ (j ≢ q)). subst (AllByRecursion (IsMarking st w)) (sym (now ∙ taken-there w p q (Done s news) behind first i j other)) (marks.told i j))
      (same_way p q i j)

  pub marks_come : MarksHold st (delivers st w p q (Done s news ∷ behind))
  marks_come = marks_learned st w marks q news.number after_news news_learn number_low new.link w.orders marks.orders told_now

-- ---- an order is heard, and a snapshot begins

module _ (st : Setting) (w : World) (marks : MarksHold st w) where
  pub order_low : (a k : ℕ) (behind : List ℕ) → w.orders a ≡ k ∷ behind → k ≤ w.begun
  order_low a k behind first = (subst (AllByRecursion (λ n. n ≤ w.begun)) first (marks.orders a)).0

  pub marks_heard : (a k : ℕ) (behind : List ℕ) → w.orders a ≡ k ∷ behind → MarksHold st (hears st w a (k ∷ behind))
  marks_heard a k behind first =
      marks_learned st w marks a k (begins st a k (w.part a)) (begins_learns st a k w marks) (order_low a k behind first) w.link (set_at w.orders a behind)
      (λ b. set_at-cases (AllByRecursion (λ n. n ≤ w.begun)) w.orders a behind b
      (λ same. (subst (AllByRecursion (λ n. n ≤ w.begun)) first (marks.orders a)).1) (λ other. marks.orders b))
      (λ p q. subst (AllByRecursion (IsMarking st w)) (ap (λ ms. w.link p q ++ ms) (sym (set_at-kept (λ (part : Part). part.out q) w.part a (begins st a k (w.part a)) refl p))) (marks.told p q))

  nothing_under : w.acknowledged ≡ w.begun → (a : ℕ) → a < st.machines → (w.reports a ≡ []) × (w.collected a ≡ None)
  nothing_under over a low = ⊎_elim
      (λ (none : (w.reports a ≡ []) × (w.collected a ≡ None)). none)
      (λ (some : (w.acknowledged < w.begun) × ((w.part a).sent ≡ w.begun)
      × (((w.reports a ≡ (w.part a).saved ∷ []) × (w.collected a ≡ None)) ⊎ ((w.reports a ≡ []) × (w.collected a ≡ Some (w.part a).saved)))).
      absurd (ne_of_lt some.0 over))
      (marks.sections a low)

  -- while no snapshot is under way no vertex waits for its mark
  marking_begun : IsSetting st → w.acknowledged ≡ w.begun → (p q : ℕ) (ms : List Message) → AllByRecursion (IsToldTo st p q) ms → AllByRecursion (IsMarking st w) ms → AllByRecursion (IsMarking st (begins_one w)) ms
  marking_begun is over p q [] fit all = tt
  marking_begun is over p q (Ask t c rest ∷ ms) fit all = (tt, marking_begun is over p q ms fit.1 all.1)
  marking_begun is over p q (Ready t ∷ ms) fit all = (tt, marking_begun is over p q ms fit.1 all.1)
  marking_begun is over p q (Done t news ∷ ms) fit all = (
    (
      le_trans all.0.0 (le_of_lt (lt-suc_self w.begun)),
      λ u named.
          let inside = (near_within st is news.centre u (fit.0.pends u named).0).0 in
          let low : mark_of st w u < w.begun = (all.0.1 u named).1 in
          let high : w.acknowledged ≤ mark_of st w u = (marks.marks u inside).0 in
          absurd (lt_irrefl _ (lt_of_lt_of_le low (subst (λ n. n ≤ mark_of st w u) over high))),
    ),
    marking_begun is over p q ms fit.1 all.1,
  )

  pub marks_begin : IsSetting st → AreCopies st w → w.acknowledged ≡ w.begun → MarksHold st (begins_one w)
  marks_begin is copies over =
      record {
        base = marks.base;
        under = inr (ap suc (sym over));
        known = λ a low. ((marks.known a low).0, le_trans (marks.known a low).1 (le_of_lt (lt-suc_self w.begun)));
        orders = λ a. each-append (λ k. k ≤ suc w.begun) (w.orders a) (suc w.begun ∷ [])
            (each-weaker (λ k. k ≤ w.begun) (λ k. k ≤ suc w.begun) (λ k low. le_trans low (le_of_lt (lt-suc_self w.begun))) (w.orders a) (marks.orders a)) (le_refl (suc w.begun), tt);
        marks = marks.marks;
        pending = marks.pending;
        told = λ p q. marking_begun is over p q (way w p q) (copies.told p q) (marks.told p q);
        sent_low = λ a low. ((marks.sent_low a low).0, le_trans (marks.sent_low a low).1 (le_of_lt (lt-suc_self w.begun)));
        sent = λ a low its under. absurd (lt_irrefl _ (subst (λ n. n ≤ w.begun) its (marks.sent_low a low).1));
        sections = λ a low. inl (nothing_under over a low);
      }

  -- ---- a section is sent, comes, and all are recorded

  pub marks_send : (a : ℕ) → MaySend st a (w.part a) → MarksHold st (sends_section w a)
  marks_send a may =
      let part : Part = record (w.part a) { sent = (w.part a).known } in
      let mark : (v : ℕ) → mark_of st (sends_section w a) v ≡ mark_of st w v = λ v. set_at-kept (λ (p : Part). (p.datum v).mark) w.part a part refl (st.owner v) in
      let known : (b : ℕ) → ((sends_section w a).part b).known ≡ (w.part b).known = λ b. set_at-kept (λ (p : Part). p.known) w.part a part refl b in
      let newest : a < st.machines → ((w.part a).known ≡ w.begun) × (w.acknowledged < w.begun) =
      λ low. newest_above (w.part a).sent (w.part a).known w.acknowledged w.begun marks.under (marks.sent_low a low).0 may.unsent (marks.known a low).1 in
      record {
        base = marks.base;
        under = marks.under;
        known = λ b low. subst (λ n. (w.acknowledged ≤ n) × (n ≤ w.begun)) (sym (known b)) (marks.known b low);
        orders = marks.orders;
        marks = λ v within. subst₂ (λ m n. (w.acknowledged ≤ m) × (m ≤ n)) (sym (mark v)) (sym (known (st.owner v))) (marks.marks v within);
        pending = λ b u yes_pends. set_at-cases (λ (p : Part). p.pending u ≡ true → (u < size st.graph) × (st.owner u ≡ b) × ((p.datum u).mark < p.known)) w.part a part b
            (λ same its. let was = marks.pending a u its in (was.0, was.1 ∙ sym same, was.2))
            (λ other its. marks.pending b u its)
            yes_pends;
        told = λ p q. subst (AllByRecursion (IsMarking st (sends_section w a))) (ap (λ ms. w.link p q ++ ms) (sym (set_at-kept (λ (x : Part). x.out q) w.part a part refl p)))
            (each-weaker (IsMarking st w) (IsMarking st (sends_section w a)) (λ m. marking_same st w (sends_section w a) refl mark m) (way w p q) (marks.told p q));
        sent_low = λ b low. set_at-cases (λ (p : Part). (w.acknowledged ≤ p.sent) × (p.sent ≤ w.begun)) w.part a part b
            (λ same. marks.known a (subst (λ j. j < st.machines) same low))
            (λ other. marks.sent_low b low);
        sent = λ b low its under.
            set_at-cases (λ (p : Part). p.sent ≡ w.begun → (p.known ≡ w.begun) × ((v : ℕ) → v < size st.graph → st.owner v ≡ b → mark_of st (sends_section w a) v ≡ w.begun)) w.part a part b
            (λ same here. (here, λ v within owner. mark v ∙ ap (λ j. ((w.part j).datum v).mark) (owner ∙ same) ∙ may.marked v within (owner ∙ same) ∙ here))
            (λ other there. let was = marks.sent b low there under in (was.0, λ v within owner. mark v ∙ was.1 v within owner))
            its;
        sections = λ b low. ⊎_elim
            (λ (same : b ≡ a).
            let here : a < st.machines = subst (λ j. j < st.machines) same low in
            let new = newest here in
            let place : IsInPlace (sends_section w a) a = ⊎_elim
            (λ (none : (w.reports a ≡ []) × (w.collected a ≡ None)).
            placed_same ((w.part a).saved ∷ []) ((sends_section w a).reports a) None ((sends_section w a).collected a) w.acknowledged w.acknowledged w.begun w.begun
            w.begun ((sends_section w a).part a).sent (w.part a).saved ((sends_section w a).part a).saved
            (set_at-here (λ ms. ms) w.reports a (w.reports a ++ (w.part a).saved ∷ []) a refl ∙ ap (λ ms. ms ++ (w.part a).saved ∷ []) none.0) none.1 refl refl
            (set_at-here (λ (p : Part). p.sent) w.part a part a refl ∙ new.0) (set_at-here (λ (p : Part). p.saved) w.part a part a refl)
            (inr (new.1, refl, inl (refl, refl))))
            (λ (some : (w.acknowledged < w.begun) × ((w.part a).sent ≡ w.begun)
            × (((w.reports a ≡ (w.part a).saved ∷ []) × (w.collected a ≡ None)) ⊎ ((w.reports a ≡ []) × (w.collected a ≡ Some (w.part a).saved)))).
            absurd (lt_irrefl _ (lt_of_lt_of_le may.unsent (subst (λ n. (w.part a).known ≤ n) (sym some.1) (marks.known a here).1))))
            (marks.sections a here) in
            subst (IsInPlace (sends_section w a)) (sym same) place)
            (λ (other : b ≡ a → ⊥).
            placed_same (w.reports b) ((sends_section w a).reports b) (w.collected b) (w.collected b) w.acknowledged w.acknowledged w.begun w.begun
            (w.part b).sent ((sends_section w a).part b).sent (w.part b).saved ((sends_section w a).part b).saved
            (set_at-there (λ ms. ms) w.reports a (w.reports a ++ (w.part a).saved ∷ []) b other) refl refl refl
            (set_at-there (λ (p : Part). p.sent) w.part a part b other) (set_at-there (λ (p : Part). p.saved) w.part a part b other) (marks.sections b low))
            (cases_eq b a);
      }

  pub marks_collect : (a : ℕ) (section : Section) (behind : List Section) → w.reports a ≡ section ∷ behind → MarksHold st (collects w a (section ∷ behind))
  marks_collect a section behind first =
      record {
        base = marks.base;
        under = marks.under;
        known = marks.known;
        orders = marks.orders;
        marks = marks.marks;
        pending = marks.pending;
        told = λ p q. each-weaker (IsMarking st w) (IsMarking st (collects w a (section ∷ behind))) (λ m. marking_same st w (collects w a (section ∷ behind)) refl (λ u. refl) m) (way w p q) (marks.told p q);
        sent_low = marks.sent_low;
        sent = marks.sent;
        sections = λ b low. ⊎_elim
            (λ (same : b ≡ a).
            let place : IsInPlace (collects w a (section ∷ behind)) a = ⊎_elim
            (λ (none : (w.reports a ≡ []) × (w.collected a ≡ None)). absurd (not_nil section behind (sym first ∙ none.0)))
            (λ (some : (w.acknowledged < w.begun) × ((w.part a).sent ≡ w.begun)
            × (((w.reports a ≡ (w.part a).saved ∷ []) × (w.collected a ≡ None)) ⊎ ((w.reports a ≡ []) × (w.collected a ≡ Some (w.part a).saved)))). ⊎_elim
            (λ (sent : (w.reports a ≡ (w.part a).saved ∷ []) × (w.collected a ≡ None)).
            let parts = same_parts section (w.part a).saved behind [] (sym first ∙ sent.0) in
            inr (some.0, some.1, inr (set_at-here (λ ms. ms) w.reports a behind a refl ∙ parts.1, set_at-here (λ o. o) w.collected a (Some section) a refl ∙ ap Some parts.0)))
            (λ (come : (w.reports a ≡ []) × (w.collected a ≡ Some (w.part a).saved)). absurd (not_nil section behind (sym first ∙ come.0)))
            some.2)
            (marks.sections a (subst (λ j. j < st.machines) same low)) in
            subst (IsInPlace (collects w a (section ∷ behind))) (sym same) place)
            (λ (other : b ≡ a → ⊥).
            placed_same (w.reports b) ((collects w a (section ∷ behind)).reports b) (w.collected b) ((collects w a (section ∷ behind)).collected b) w.acknowledged w.acknowledged w.begun w.begun
            (w.part b).sent (w.part b).sent (w.part b).saved (w.part b).saved
            (set_at-there (λ ms. ms) w.reports a behind b other) (set_at-there (λ o. o) w.collected a (Some section) b other) refl refl refl refl (marks.sections b low))
            (cases_eq b a);
      }
    where
      not_nil : (x : Section) (xs : List Section) → x ∷ xs ≡ [] → ⊥
      not_nil x xs same = suc-ne-zero (length xs) (ap length same)

      same_parts : (x y : Section) (xs ys : List Section) → x ∷ xs ≡ y ∷ ys → (x ≡ y) × (xs ≡ ys)
      same_parts x y xs ys same = (cc, cc)

  -- once all sections have come each machine sent its own, and all vertices are marked
  pub section_come : MayRecord st w → (a : ℕ) → a < st.machines → ((w.part a).sent ≡ w.begun) × (w.reports a ≡ []) × (w.collected a ≡ Some (w.part a).saved)
  section_come may a low =
      let come = may.sections a low in ⊎_elim
      (λ (none : (w.reports a ≡ []) × (w.collected a ≡ None)). absurd (none_not_some come.0 (sym none.1 ∙ come.1)))
      (λ (some : (w.acknowledged < w.begun) × ((w.part a).sent ≡ w.begun)
      × (((w.reports a ≡ (w.part a).saved ∷ []) × (w.collected a ≡ None)) ⊎ ((w.reports a ≡ []) × (w.collected a ≡ Some (w.part a).saved)))). ⊎_elim
      (λ (sent : (w.reports a ≡ (w.part a).saved ∷ []) × (w.collected a ≡ None)). absurd (none_not_some come.0 (sym sent.1 ∙ come.1)))
      (λ (here : (w.reports a ≡ []) × (w.collected a ≡ Some (w.part a).saved)). (some.1, here.0, here.1))
      some.2)
      (marks.sections a low)

  pub all_marked : IsSetting st → MayRecord st w → (v : ℕ) → v < size st.graph → mark_of st w v ≡ w.begun
  all_marked is may v within =
      let low = is.owner v within in
      (marks.sent (st.owner v) low (section_come may (st.owner v) low).0 may.under).1 v within refl

  pub all_known : MayRecord st w → (a : ℕ) → a < st.machines → (w.part a).known ≡ w.begun
  all_known may a low = (marks.sent a low (section_come may a low).0 may.under).0

  pub marks_record : IsSetting st → MayRecord st w → MarksHold st (records w)
  marks_record is may =
      record {
        base = le_trans marks.base (le_of_lt may.under);
        under = inl refl;
        known = λ a low. (le_of_eq (sym (all_known may a low)), (marks.known a low).1);
        orders = marks.orders;
        marks = λ v within. (le_of_eq (sym (all_marked is may v within)), (marks.marks v within).1);
        pending = marks.pending;
        told = λ p q. each-weaker (IsMarking st w) (IsMarking st (records w)) (λ m. marking_same st w (records w) refl (λ u. refl) m) (way w p q) (marks.told p q);
        sent_low = λ a low. (le_of_eq (sym (section_come may a low).0), (marks.sent_low a low).1);
        sent = λ a low its under. absurd (lt_irrefl _ under);
        sections = λ a low. inl ((section_come may a low).1, refl);
      }
