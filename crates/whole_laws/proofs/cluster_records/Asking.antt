-- Each event but a recovery keeps who has asked for a snapshot, and that who asks has half of its window outside the newest one.
use Rattle.std.proofs.Common.{◌≡◌, ◌⊎◌, ℕ, suc, ◌+◌, ◌<◌, ◌≤◌, ◌==◌, ◌&&◌, ◌||◌, is_some, nat_le, nat_lt, not, Bool, true, false, if◌then◌else◌, Option, List, [], ◌∷◌, ◌++◌, length, sum_by, inl, inr, refl, sym, ◌∙◌, ap, subst, ⊎_elim, append_assoc, le_trans, le-leb, leb-true, length-append, arith}
use Rattle.std.specs.List.{AllByRecursion, list_any}
use Rattle.std.proofs.lemmas.Bool.{and_from, and_parts, both_ways, cases_Bool, eq-eqb, eqb-true, or_cases, or_left, or_right}
use Rattle.std.proofs.lemmas.List.Sums.{sum_by_push}
use Rattle.gl_base.specs.declared.scopes.ScopeId.{ScopeId}
use Rattle.graph_core.proofs.HalvesLaws.{each-append}
use Rattle.graph_core.specs.DataGraph.{size}
use Rattle.cluster_laws.specs.cluster_core.Messages.{Message}
use Rattle.cluster_laws.specs.cluster_core.Ranges.{set_at}
use Rattle.cluster_laws.specs.cluster_core.Settings.{IsSetting, Setting}
use Rattle.cluster_laws.specs.cluster_core.Worlds.{World}
use Rattle.cluster_laws.proofs.cluster_core.Basics.{set_at-holds, set_at-same}
use Rattle.cluster_laws.proofs.cluster_numbers.Passing.{any-either, any-left, any-right, any_one}
use Rattle.cluster_laws.specs.cluster_model.Calls.{Begin, Call, Committed, Count, Report, Saved, Step, Want, Wave}
use Rattle.cluster_laws.specs.cluster_model.Clusters.{Cluster, call_way, report_way}
use Rattle.cluster_laws.specs.cluster_model.Events.{Event, Admit, DeliverCall, DeliverReport, Deliver, Fail, Grant, Mark, MayDo, PutBegin, PutStep, PutWave, Record, Recover, Section, Send, SendCall, SendReport, Stop, Update, after_event, delivers_call, delivers_message, delivers_report, makes, saves, sends_call, sends_message, sends_report}
use Rattle.cluster_laws.specs.cluster_model.Leading.{RecordIsDue}
use Rattle.cluster_laws.specs.cluster_model.Machines.{Machine, count_of, outside}
use Rattle.cluster_laws.specs.cluster_model.Working.{admits, asks_if, asks_more, before_at, behind_at, commits, fails, grants, half_window, hands, hands_report, is_done, makes_mark, makes_update, or_zero, prompt, receives, sections, snapshot_in, takes_call, works_on}
use Rattle.whole_laws.specs.cluster_whole.Logged.{Logged}
use Rattle.whole_laws.specs.cluster_whole.Views.{world_of}
use Rattle.whole_laws.specs.cluster_whole.Whole.{IsNoRecovery, IsWhole}
use Rattle.whole_laws.proofs.cluster_whole.Pieces.{passed, read_at}
use Rattle.whole_laws.specs.cluster_records.Listed.{AreListed}
use Rattle.whole_laws.specs.cluster_records.Wanting.{AreAsking, IsAsking, IsCounting, IsTrueWant, entries_outside, is_want, want_told}
use Rattle.whole_laws.proofs.cluster_records.Entering.{IsNoUpdate, update_logged}
use Rattle.whole_laws.proofs.cluster_records.Listed.{made_listed, sent_near}
use Rattle.whole_laws.proofs.cluster_records.Listing.{same_listed}
use Rattle.whole_laws.proofs.cluster_records.Outside.{many_outside, outside_is, outside_more}
use Rattle.whole_laws.proofs.cluster_records.Recording.{next_number}
use Rattle.whole_laws.proofs.cluster_records.Sizing.{events_counting, kept_counting, update_counts}

-- ---- what is outside

back_again : (a b c d : ℕ) → a + (b + c) + 0 ≡ a + b + c
back_again a b c d = omega arith

-- all that was listed is before the marks of a new snapshot
moved_outside : (k : ℕ) (m : Machine) → sum_by (λ n. n) m.unsure + length (before_at k m) + length (behind_at k m) ≡ outside m
moved_outside k m = by_test (nat_lt m.part.known k)
  where
    by_test : (test : Bool) → sum_by (λ n. n) m.unsure + length (if test then m.before ++ m.behind else m.before) + length (if test then [] else m.behind) ≡ outside m
    by_test true = ap (λ (n : ℕ). sum_by (λ n. n) m.unsure + n + 0) (length-append m.before m.behind) ∙ back_again (sum_by (λ n. n) m.unsure) (length m.before) (length m.behind) 0
    by_test false = refl

none_left : (a b : ℕ) → a + b + 0 ≡ a + b
none_left a b = omega arith

-- what is sent stays outside
section_outside : (m : Machine) → outside (sections m) ≡ outside m
section_outside m =
    ap (λ (n : ℕ). n + 0 + length m.behind) (sum_by_push (λ (n : ℕ). n) m.unsure (length m.before)) ∙ ap (λ (n : ℕ). n + length m.behind) (none_left (sum_by (λ n. n) m.unsure) (length m.before))

-- ---- reports

want_more : (k : ℕ) (test : Bool) (link out : List Report) (report : Report) → want_told k (link ++ out) ≡ true → want_told k (link ++ (if test then out ++ report ∷ [] else out)) ≡ true
want_more k true link out report is = subst (λ (rs : List Report). want_told k rs ≡ true) (append_assoc link out (report ∷ [])) (any-left (is_want k) (link ++ out) (report ∷ []) is)
want_more k false link out report is = is

want_last : (k : ℕ) (link out : List Report) → want_told k (link ++ (out ++ Want k ∷ [])) ≡ true
want_last k link out =
    subst (λ (rs : List Report). want_told k rs ≡ true) (append_assoc link out (Want k ∷ []))
    (any-right (is_want k) (link ++ out) (Want k ∷ []) (any_one (is_want k) (Want k) ∙ eq-eqb k k refl))

one_more : (P : Report → Type 0) (test : Bool) (link out : List Report) (report : Report) → (test ≡ true → P report) → AllByRecursion P (link ++ out) → AllByRecursion P (link ++ (if test then out ++ report ∷ [] else out))
one_more P true link out report its all = subst (AllByRecursion P) (append_assoc link out (report ∷ [])) (each-append P (link ++ out) (report ∷ []) all (its refl, tt))
one_more P false link out report its all = all

truly_more : (st : Setting) (a : ℕ) (logged : List Logged) (l : Logged) (report : Report) → IsTrueWant st a logged report → IsTrueWant st a (logged ++ l ∷ []) report
truly_more st a logged l (Saved k section entries) is = tt
truly_more st a logged l (Count k counts) is = tt
truly_more st a logged l (Want k) is = le_trans is (outside_more a k logged l)

all_truly_more : (st : Setting) (a : ℕ) (logged : List Logged) (l : Logged) (reports : List Report) → AllByRecursion (IsTrueWant st a logged) reports → AllByRecursion (IsTrueWant st a (logged ++ l ∷ [])) reports
all_truly_more st a logged l [] all = tt
all_truly_more st a logged l (report ∷ reports) all = (truly_more st a logged l report all.0, all_truly_more st a logged l reports all.1)

-- ---- one machine

-- what it asks by stays the same
abbrev AsksSame : Machine → Machine → Type 0
AsksSame old new = (new.acknowledged ≡ old.acknowledged) × (new.wanted ≡ old.wanted) × (outside new ≡ outside old)

module _ (st : Setting) (a : ℕ) (acknowledged : ℕ) (wanted : Bool) (logged : List Logged) where
  abbrev Asks : Machine → List Report → Type 0
  Asks m reports = IsAsking st a m acknowledged wanted reports logged

  -- it tells nothing less, and no want more
  pub same_asking : (m new : Machine) (reports others : List Report) → AsksSame m new → ((k : ℕ) → want_told k reports ≡ true → want_told k others ≡ true) →
      (AllByRecursion (IsTrueWant st a logged) reports → AllByRecursion (IsTrueWant st a logged) others) → Asks m reports → Asks new others
  same_asking m new reports others same more all was =
      record {
        asked = λ some stored half. same.1 ∙ was.asked some stored (subst (λ (n : ℕ). half_window st ≤ n) same.2 half);
        told = λ asked_it newest. ⊎_elim
            (λ (on : want_told m.acknowledged reports ≡ true). inl (subst (λ (k : ℕ). want_told k others ≡ true) (sym same.0) (more m.acknowledged on)))
            (λ (known : wanted ≡ true). inr known)
            (was.told (sym same.1 ∙ asked_it) (sym same.0 ∙ newest));
        truly = all was.truly;
      }

  -- one report more, which is no want
  pub told_asking : (m new : Machine) (link : List Report) (test : Bool) (report : Report) → IsTrueWant st a logged report → AsksSame m new → new.out ≡ (if test then m.out ++ report ∷ [] else m.out) → Asks m (link ++ m.out) → Asks new (link ++ new.out)
  told_asking m new link test report truly same out was =
      subst (λ (rs : List Report). Asks new (link ++ rs)) (sym out)
      (same_asking m new (link ++ m.out) (link ++ (if test then m.out ++ report ∷ [] else m.out)) same
      (λ k. want_more k test link m.out report) (one_more (IsTrueWant st a logged) test link m.out report (λ is. truly)) was)

  pub prompted_asking : (m : Machine) (link : List Report) → Asks m (link ++ m.out) → Asks (prompt st a m) (link ++ (prompt st a m).out)
  prompted_asking m link was = told_asking m (prompt st a m) link (is_some m.held && is_done st.engine st a m) (Count (or_zero m.held) (count_of st m)) tt (refl, refl, refl) refl was

  -- it asks where it has to
  asking_if : (m : Machine) (link : List Report) (test : Bool) → asks_more st m ≡ test → outside m ≡ many_outside a m.acknowledged logged →
      (m.wanted ≡ true → m.acknowledged ≡ acknowledged → (want_told m.acknowledged (link ++ m.out) ≡ true) ⊎ (wanted ≡ true)) → AllByRecursion (IsTrueWant st a logged) (link ++ m.out) →
      Asks (asks_if test m) (link ++ (asks_if test m).out)
  asking_if m link true is counted told truly =
      let half : half_window st ≤ outside m = leb-true (half_window st) (outside m) (and_parts (st.stored && not m.wanted) (nat_le (half_window st) (outside m)) is).1 in
      record {
        asked = λ some stored enough. or_right m.wanted true refl;
        told = λ asked_it newest. inl (want_last m.acknowledged link m.out);
        truly = one_more (IsTrueWant st a logged) true link m.out (Want m.acknowledged) (λ yes_test. subst (λ (n : ℕ). half_window st ≤ n) counted half) truly;
      }
  asking_if m link false is counted told truly =
      record {
        asked = λ some stored enough. ⊎_elim
            (λ (before : m.wanted ≡ true). or_left m.wanted false before)
            (λ (none : m.wanted ≡ false).
            absurd (both_ways (asks_more st m) is
            (and_from (st.stored && not m.wanted) (nat_le (half_window st) (outside m)) (and_from st.stored (not m.wanted) stored (ap not none)) (le-leb (half_window st) (outside m) enough))))
            (cases_Bool m.wanted);
        told = λ asked_it newest. told (by_either m.wanted asked_it) newest;
        truly = truly;
      }
    where
      by_either : (b : Bool) → (b || false) ≡ true → b ≡ true
      by_either true is = refl
      by_either false is = is

  pub asks_asking : (m : Machine) (link : List Report) → outside m ≡ many_outside a m.acknowledged logged →
      (m.wanted ≡ true → m.acknowledged ≡ acknowledged → (want_told m.acknowledged (link ++ m.out) ≡ true) ⊎ (wanted ≡ true)) → AllByRecursion (IsTrueWant st a logged) (link ++ m.out) →
      Asks (asks_if (asks_more st m) m) (link ++ (asks_if (asks_more st m) m).out)
  asks_asking m link = asking_if m link (asks_more st m) refl

-- no machine knows a newer snapshot to be acknowledged than the newest
not_newest : (now begun known late : ℕ) → now ≡ known + late → begun ≡ suc now → known ≡ begun → ⊥
not_newest now begun known late one two three = omega arith

false_true : false ≡ true → ⊥
false_true is = cc

module _ (st : Setting) (is : IsSetting st) (c : Cluster) (whole : IsWhole st c) (logged : List Logged) (listed : AreListed st c logged) (asking : AreAsking st c logged) where
  abbrev w : World
  w = world_of c

  abbrev now : ℕ
  now = c.coordinator.acknowledged

  abbrev known : Bool
  known = c.coordinator.wanted

  abbrev Asked : Cluster → Type 0
  Asked new = (a : ℕ) → a < st.machines → IsAsking st a (new.machine a) new.coordinator.acknowledged new.coordinator.wanted (report_way new a) logged

  abbrev AreAskingSoon : Cluster → Type 0
  AreAskingSoon new = Asked new × (new.coordinator.wanted ≡ true → (a : ℕ) × (a < st.machines) × (half_window st ≤ length (entries_outside a new.coordinator.acknowledged logged)))

  -- what it counts as outside is what is
  pub counted : (a : ℕ) → a < st.machines → outside (c.machine a) ≡ many_outside a (c.machine a).acknowledged logged
  counted a low =
      let counting = asking.counting a low in
      let near = sent_near st is c whole logged listed a low in
      outside_is a (c.machine a) logged (listed a low) near.0 near.1 counting.sections counting.sent counting.unsure

  -- one machine changes
  one : (a : ℕ) (new : Machine) → (a < st.machines → IsAsking st a new now known (c.reports a ++ new.out) logged) → (b : ℕ) → b < st.machines → IsAsking st b (set_at c.machine a new b) now known (c.reports b ++ (set_at c.machine a new b).out) logged
  one a new its b = set_at-holds (λ (b : ℕ) (m : Machine). b < st.machines → IsAsking st b m now known (c.reports b ++ m.out) logged) c.machine a new b its (λ off. asking.asking b)

  quiet : (a : ℕ) (new : Machine) → AsksSame (c.machine a) new → new.out ≡ (c.machine a).out → a < st.machines → IsAsking st a new now known (c.reports a ++ new.out) logged
  quiet a new same out low =
      subst (λ (rs : List Report). IsAsking st a new now known (c.reports a ++ rs) logged) (sym out)
      (same_asking st a now known logged (c.machine a) new (report_way c a) (report_way c a) same (λ k on. on) (λ all. all) (asking.asking a low))

  answered : (a : ℕ) (new : Machine) → (a < st.machines → IsAsking st a new now known (c.reports a ++ new.out) logged) → (b : ℕ) → b < st.machines → IsAsking st b (set_at c.machine a (prompt st a new) b) now known (c.reports b ++ (set_at c.machine a (prompt st a new) b).out) logged
  answered a new its = one a (prompt st a new) (λ low. prompted_asking st a now known logged new (c.reports a) (its low))

  -- a machine hears that a snapshot is acknowledged, and asks where it has to
  committed : (a k : ℕ) (behind : List Call) → c.calls a ≡ Committed k ∷ behind → MayDo st c (DeliverCall a) → a < st.machines → IsAsking st a (takes_call st a (Committed k) (c.machine a)) now known (c.reports a ++ (takes_call st a (Committed k) (c.machine a)).out) logged
  committed a k behind first may low =
      let m : Machine = commits k (c.machine a) in
      let counting : IsCounting a (prompt st a (takes_call st a (Committed k) (c.machine a))) now (set_at c.calls a behind a ++ c.coordinator.out a) logged =
      subst (λ (x : Machine). IsCounting a x now (set_at c.calls a behind a ++ c.coordinator.out a) logged) (set_at-same c.machine a (prompt st a (takes_call st a (Committed k) (c.machine a))))
      (subst (λ (calls : List Call). (b : ℕ) → b < st.machines → IsCounting b ((delivers_call st c a calls).machine b) (delivers_call st c a calls).coordinator.acknowledged (call_way (delivers_call st c a calls) b) logged) first
      (events_counting st is c whole logged listed asking.counting (DeliverCall a) may (λ base same. cc) (λ s same. cc)) a low) in
      let near = sent_near st is c whole logged listed a low in
      asks_asking st a now known logged m (c.reports a)
      (outside_is a m logged (same_listed a (c.machine a) logged (listed a low) m refl refl refl refl) near.0 near.1 counting.sections counting.sent counting.unsure)
      (λ asked_it newest. absurd (false_true asked_it)) (asking.asking a low).truly

  called : (a : ℕ) (call : Call) (behind : List Call) → c.calls a ≡ call ∷ behind → MayDo st c (DeliverCall a) → a < st.machines → IsAsking st a (takes_call st a call (c.machine a)) now known (c.reports a ++ (takes_call st a call (c.machine a)).out) logged
  called a (Begin k) behind first may low = quiet a (takes_call st a (Begin k) (c.machine a)) (refl, refl, moved_outside k (c.machine a)) refl low
  called a (Committed k) behind first may low = committed a k behind first may low
  called a (Wave k) behind first may low = quiet a (takes_call st a (Wave k) (c.machine a)) (refl, refl, refl) refl low
  called a (Step colour) behind first may low = quiet a (takes_call st a (Step colour) (c.machine a)) (refl, refl, refl) refl low

  -- the coordinator knows no less
  knows_more : (a : ℕ) (m : Machine) (reports : List Report) (more : Bool) → IsAsking st a m now known reports logged → IsAsking st a m now (known || more) reports logged
  knows_more a m reports more was =
      record {
        asked = was.asked;
        told = λ asked_it newest. ⊎_elim (λ (on : want_told m.acknowledged reports ≡ true). inl on) (λ (yes_known : known ≡ true). inr (or_left known more yes_known)) (was.told asked_it newest);
        truly = was.truly;
      }

  -- the first report is gone, which is no want
  heard_other : (a : ℕ) (report : Report) (behind : List Report) → c.reports a ≡ report ∷ behind → ((k : ℕ) → is_want k report ≡ false) → (b : ℕ) → b < st.machines → IsAsking st b (c.machine b) now known (set_at c.reports a behind b ++ (c.machine b).out) logged
  heard_other a report behind first none b =
      set_at-holds (λ (b : ℕ) (rs : List Report). b < st.machines → IsAsking st b (c.machine b) now known (rs ++ (c.machine b).out) logged) c.reports a behind b
      (λ low.
      let was : IsAsking st a (c.machine a) now known (report ∷ (behind ++ (c.machine a).out)) logged = subst (λ (rs : List Report). IsAsking st a (c.machine a) now known (rs ++ (c.machine a).out) logged) first (asking.asking a low) in
      same_asking st a now known logged (c.machine a) (c.machine a) (report ∷ (behind ++ (c.machine a).out)) (behind ++ (c.machine a).out) (refl, refl, refl)
      (λ k on. ⊎_elim
      (λ (here : list_any (is_want k) (report ∷ []) ≡ true). absurd (both_ways (is_want k report) (none k) (sym (any_one (is_want k) report) ∙ here)))
      (λ (later : list_any (is_want k) (behind ++ (c.machine a).out) ≡ true). later)
      (any-either (is_want k) (report ∷ []) (behind ++ (c.machine a).out) on))
      (λ all. all.1) was)
      (λ off. asking.asking b)

  -- or it is one
  heard_want : (a k : ℕ) (behind : List Report) → a < st.machines → c.reports a ≡ Want k ∷ behind → AreAskingSoon (delivers_report c a (Want k ∷ behind))
  heard_want a k behind fits first =
      let was : IsAsking st a (c.machine a) now known (Want k ∷ (behind ++ (c.machine a).out)) logged = subst (λ (rs : List Report). IsAsking st a (c.machine a) now known (rs ++ (c.machine a).out) logged) first (asking.asking a fits) in (
        λ b.
            set_at-holds (λ (b : ℕ) (rs : List Report). b < st.machines → IsAsking st b (c.machine b) now (known || k == now) (rs ++ (c.machine b).out) logged) c.reports a behind b
            (λ low. record {
              asked = was.asked;
              told = λ asked_it newest. ⊎_elim
                  (λ (on : want_told (c.machine a).acknowledged (Want k ∷ (behind ++ (c.machine a).out)) ≡ true). ⊎_elim
                  (λ (here : list_any (is_want (c.machine a).acknowledged) (Want k ∷ []) ≡ true).
                  inr (or_right known (k == now) (eq-eqb k now (eqb-true k (c.machine a).acknowledged (sym (any_one (is_want (c.machine a).acknowledged) (Want k)) ∙ here) ∙ newest))))
                  (λ (later : list_any (is_want (c.machine a).acknowledged) (behind ++ (c.machine a).out) ≡ true). inl later)
                  (any-either (is_want (c.machine a).acknowledged) (Want k ∷ []) (behind ++ (c.machine a).out) on))
                  (λ (yes_known : known ≡ true). inr (or_left known (k == now) yes_known))
                  (was.told asked_it newest);
              truly = was.truly.1;
            })
            (λ off low. knows_more b (c.machine b) (report_way c b) (k == now) (asking.asking b low)),
        λ either. ⊎_elim
            (λ (before : known ≡ true). asking.wanted before)
            (λ (now_wanted : (k == now) ≡ true). (a, fits, subst (λ (n : ℕ). half_window st ≤ many_outside a n logged) (eqb-true k now now_wanted) was.truly.0))
            (or_cases known (k == now) either),
      )

  report_heard : (a : ℕ) (report : Report) (behind : List Report) → a < st.machines → c.reports a ≡ report ∷ behind → AreAskingSoon (delivers_report c a (report ∷ behind))
  report_heard a (Saved k section entries) behind fits first = (heard_other a (Saved k section entries) behind first (λ j. refl), asking.wanted)
  report_heard a (Count k counts) behind fits first = (heard_other a (Count k counts) behind first (λ j. refl), asking.wanted)
  report_heard a (Want k) behind fits first = heard_want a k behind fits first

  -- a snapshot is acknowledged, and no machine knows that yet
  recorded : RecordIsDue st c.coordinator → AreAskingSoon (after_event st c Record)
  recorded due = (
    λ a low.
        let was = asking.asking a low in
        let counting = asking.counting a low in
        record {
          asked = was.asked;
          told = λ asked_it newest. absurd (not_newest now c.coordinator.begun (c.machine a).acknowledged counting.late counting.newest (next_number st is c whole due) newest);
          truly = was.truly;
        },
    λ wanted. absurd (false_true wanted),
  )

  pub events_soon : (event : Event) → MayDo st c event → IsNoRecovery event → IsNoUpdate event → AreAskingSoon (after_event st c event)
  events_soon (Admit a v) may other none = (answered a (admits st a v (c.machine a)) (quiet a (admits st a v (c.machine a)) (refl, refl, refl) refl), asking.wanted)
  events_soon (Grant a x) may other none = (answered a (grants st a x (c.machine a)) (quiet a (grants st a x (c.machine a)) (refl, refl, refl) refl), asking.wanted)
  events_soon (Send p q) may other none =
      subst (λ (ms : List Message). AreAskingSoon (sends_message c p q ms)) (sym may.2.first)
      (one p (hands q may.2.behind (c.machine p)) (quiet p (hands q may.2.behind (c.machine p)) (refl, refl, refl) refl), asking.wanted)
  events_soon (SendCall a) may other none =
      subst (λ (calls : List Call). AreAskingSoon (sends_call c a calls)) (sym may.1.first) (asking.asking, asking.wanted)
  events_soon (SendReport a) may other none =
      let less : Machine = hands_report may.1.behind (c.machine a) in
      subst (λ (reports : List Report). AreAskingSoon (sends_report c a reports)) (sym may.1.first) (
        λ b low.
            let way : set_at c.reports a (c.reports a ++ may.1.message ∷ []) b ++ (set_at c.machine a less b).out ≡ report_way c b =
            ap (λ (xs : List Report). set_at c.reports a (c.reports a ++ may.1.message ∷ []) b ++ xs) (read_at (λ (x : Machine). x.out) c.machine a less b)
            ∙ passed c.reports (λ b. (c.machine b).out) a may.1.message may.1.behind may.1.first b in
            subst (λ (rs : List Report). IsAsking st b (set_at c.machine a less b) now known rs logged) (sym way)
            (same_asking st b now known logged (c.machine b) (set_at c.machine a less b) (report_way c b) (report_way c b)
            (set_at-holds (λ (b : ℕ) (m : Machine). AsksSame (c.machine b) m) c.machine a less b (refl, refl, refl) (λ off. (refl, refl, refl)))
            (λ k on. on) (λ all. all) (asking.asking b low)),
        asking.wanted,
      )
  events_soon (Deliver p q) may other none =
      let m : Machine = receives st q may.2.message (c.machine q) in
      subst (λ (ms : List Message). AreAskingSoon (delivers_message st c p q ms)) (sym may.2.first)
      (answered q m (quiet q m (refl, refl, moved_outside (snapshot_in may.2.message) (c.machine q)) refl), asking.wanted)
  events_soon (DeliverCall a) may other none =
      subst (λ (calls : List Call). AreAskingSoon (delivers_call st c a calls)) (sym may.1.first)
      (answered a (takes_call st a may.1.message (c.machine a)) (called a may.1.message may.1.behind may.1.first may), asking.wanted)
  events_soon (DeliverReport a) may other none =
      subst (λ (reports : List Report). AreAskingSoon (delivers_report c a reports)) (sym may.1.first) (report_heard a may.1.message may.1.behind may.0 may.1.first)
  events_soon (Update s) may other none = absurd (none s refl)
  events_soon (Mark s) may other none =
      let a : ℕ = s.home.0 in
      subst (λ (flight : Option ℕ). AreAskingSoon (saves st c s flight)) (sym may.1.flight)
      (answered a (makes_mark st a s may.1.vertex (c.machine a)) (quiet a (makes_mark st a s may.1.vertex (c.machine a)) (refl, refl, refl) refl), asking.wanted)
  events_soon (Section a) may other none =
      let m : Machine = c.machine a in (
        answered a (sections m)
            (λ low. told_asking st a now known logged m (sections m) (c.reports a) true (Saved m.part.known m.part.saved m.before) tt (refl, refl, section_outside m) refl (asking.asking a low)),
        asking.wanted,
      )
  events_soon Record may other none = recorded may.0
  events_soon PutBegin may other none = (asking.asking, asking.wanted)
  events_soon PutStep may other none = (asking.asking, asking.wanted)
  events_soon PutWave may other none = (asking.asking, asking.wanted)
  events_soon (Fail a) may other none = (one a (fails (c.machine a)) (quiet a (fails (c.machine a)) (refl, refl, refl) refl), asking.wanted)
  events_soon (Recover base) may other none = absurd (other base refl)
  events_soon Stop may other none = (asking.asking, asking.wanted)

  pub events_asking : (event : Event) → MayDo st c event → IsNoRecovery event → IsNoUpdate event → AreAsking st (after_event st c event) logged
  events_asking event may other none =
      let soon = events_soon event may other none in
      record { counting = events_counting st is c whole logged listed asking.counting event may other none; asking = soon.0; wanted = soon.1 }

  -- ---- an update

  pub update_asking : (s : ScopeId) (may : MayDo st c (Update s)) → st.owner may.1.vertex ≡ s.home.0 → may.1.vertex < size st.graph → AreAsking st (after_event st c (Update s)) (logged ++ update_logged st c s may.1.vertex ∷ [])
  update_asking s may owner within =
      let a : ℕ = s.home.0 in
      let v : ℕ = may.1.vertex in
      let l : Logged = update_logged st c s v in
      let more : List Logged = logged ++ l ∷ [] in
      let m : Machine = c.machine a in
      let done : Machine = works_on st a s v l.entry m in
      let asked_now : Machine = makes_update st a s v l.entry m in
      let made : Machine = prompt st a asked_now in
      let low : a < st.machines = may.0.machine in
      let counting : IsCounting a m now (call_way c a) more = kept_counting st is c whole logged listed asking.counting s v within owner a low in
      let near = sent_near st is c whole logged listed a low in
      let was = asking.asking a low in
      let its : IsAsking st a asked_now now known (c.reports a ++ asked_now.out) more =
      asks_asking st a now known more done (c.reports a)
      (outside_is a done more (made_listed st is c whole logged listed s may owner within) near.0 near.1 counting.sections counting.sent counting.unsure)
      was.told (all_truly_more st a logged l (report_way c a) was.truly) in
      record {
        counting = update_counts st is c whole logged listed asking.counting s may owner within;
        asking = subst (λ (flight : Option ℕ). (b : ℕ) → b < st.machines → IsAsking st b ((makes st c s flight).machine b) (makes st c s flight).coordinator.acknowledged (makes st c s flight).coordinator.wanted (report_way (makes st c s flight) b) more) (sym may.1.flight)
            (λ b. set_at-holds (λ (b : ℕ) (x : Machine). b < st.machines → IsAsking st b x now known (c.reports b ++ x.out) more) c.machine a made b
            (λ fits. prompted_asking st a now known more asked_now (c.reports a) its)
            (λ off fits.
            let old = asking.asking b fits in
            record { asked = old.asked; told = old.told; truly = all_truly_more st b logged l (report_way c b) old.truly }));
        wanted = subst (λ (flight : Option ℕ). (makes st c s flight).coordinator.wanted ≡ true → (b : ℕ) × (b < st.machines) × (half_window st ≤ length (entries_outside b (makes st c s flight).coordinator.acknowledged more))) (sym may.1.flight)
            (λ is_wanted. let some = asking.wanted is_wanted in (some.0, some.1, le_trans some.2 (outside_more some.0 now logged l)));
      }
