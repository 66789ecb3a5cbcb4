-- Each event but a recovery keeps the sections that are on their way, with their entries.
use Rattle.std.proofs.Common.{◌≡◌, ◌≢◌, ◌⊎◌, ℕ, suc, ◌<◌, ◌&&◌, is_some, Bool, true, false, if◌then◌else◌, None, Option, Some, List, [], ◌∷◌, ◌++◌, refl, sym, ◌∙◌, ap, subst, ⊎_elim, append_assoc, arith}
use Rattle.std.specs.List.{AllByRecursion}
use Rattle.std.proofs.lemmas.Bool.{cases_eq, cond-true, lt-ltb}
use Rattle.gl_base.specs.declared.scopes.ScopeId.{ScopeId}
use Rattle.graph_core.proofs.HalvesLaws.{each-append}
use Rattle.graph_core.specs.DataGraph.{size}
use Rattle.cluster_laws.specs.cluster_core.Actions.{MaySend}
use Rattle.cluster_laws.specs.cluster_core.Marks.{IsInPlace, MarksHold}
use Rattle.cluster_laws.specs.cluster_core.Messages as core
use Rattle.cluster_laws.specs.cluster_core.Messages.{Message}
use Rattle.cluster_laws.specs.cluster_core.Ranges.{set_at}
use Rattle.cluster_laws.specs.cluster_core.Settings.{IsSetting, Setting}
use Rattle.cluster_laws.specs.cluster_core.Worlds.{World}
use Rattle.cluster_laws.proofs.cluster_core.Basics.{set_at-holds}
use Rattle.cluster_laws.proofs.cluster_cuts.MarkSteps.{newest_above}
use Rattle.cluster_laws.specs.cluster_model.Calls.{Begin, Call, Committed, Count, Report, Saved, Step, Want, Wave, sections_in}
use Rattle.cluster_laws.specs.cluster_model.Clusters.{Cluster, report_way}
use Rattle.cluster_laws.specs.cluster_model.Events.{Event, Admit, DeliverCall, DeliverReport, Deliver, Fail, Grant, Mark, MayDo, PutBegin, PutStep, PutWave, Record, Recover, Section, Send, SendCall, SendReport, Stop, Update, after_event, delivers_call, delivers_message, delivers_report, makes, saves, sends_call, sends_message, sends_report}
use Rattle.cluster_laws.specs.cluster_model.Leading.{Come, RecordIsDue}
use Rattle.cluster_laws.specs.cluster_model.Machines.{Machine, count_of}
use Rattle.cluster_laws.specs.cluster_model.Working.{admits, asks_if, asks_more, commits, fails, grants, hands, hands_report, is_done, makes_mark, makes_update, or_zero, prompt, receives, sections, takes_call, works_on}
use Rattle.whole_laws.specs.cluster_whole.Logged.{Logged}
use Rattle.whole_laws.specs.cluster_whole.Views.{section_of, world_of}
use Rattle.whole_laws.specs.cluster_whole.Whole.{IsNoRecovery, IsWhole}
use Rattle.whole_laws.proofs.cluster_whole.Pieces.{passed, read_at}
use Rattle.whole_laws.specs.cluster_records.Listed.{AreComing, AreListed, HasItsUpdates, entries_at, is_first_in}
use Rattle.whole_laws.proofs.cluster_records.Entering.{IsNoUpdate, update_logged}
use Rattle.whole_laws.proofs.cluster_records.Filtering.{in_no, in_other, other_entry, passing-more_out}

none_some : (come : Come) → None ≡ Some come → ⊥
none_some come is = cc

some_same : (one other : Come) → Some one ≡ Some other → one ≡ other
some_same one other is = cc

nil_cons : (x : core.Section) (xs : List core.Section) → x ∷ xs ≡ [] → ⊥
nil_cons x xs is = cc

not_under : (n k : ℕ) → n ≡ k → n < k → ⊥
not_under n k is less = omega arith

-- one report more, where the test passes
one_more : (P : Report → Type 0) (test : Bool) (link out : List Report) (report : Report) → P report → AllByRecursion P (link ++ out) → AllByRecursion P (link ++ (if test then out ++ report ∷ [] else out))
one_more P true link out report its all = subst (AllByRecursion P) (append_assoc link out (report ∷ [])) (each-append P (link ++ out) (report ∷ []) all (its, tt))
one_more P false link out report its all = all

-- where no section is on the way
none_told : (a k : ℕ) (logged : List Logged) (reports : List Report) → sections_in reports ≡ [] → AllByRecursion (HasItsUpdates a k logged) reports
none_told a k logged [] none = tt
none_told a k logged (Saved number section entries ∷ reports) none = absurd (nil_cons section (sections_in reports) none)
none_told a k logged (Count wave counts ∷ reports) none = (tt, none_told a k logged reports none)
none_told a k logged (Want number ∷ reports) none = (tt, none_told a k logged reports none)

-- where the updates of the snapshot stay the same
same_report : (a k : ℕ) (logged more : List Logged) → entries_at a k more ≡ entries_at a k logged → (report : Report) → HasItsUpdates a k logged report → HasItsUpdates a k more report
same_report a k logged more same (Saved number section entries) its = (its.0, its.1 ∙ sym same)
same_report a k logged more same (Count wave counts) its = tt
same_report a k logged more same (Want number) its = tt

same_told : (a k : ℕ) (logged more : List Logged) → entries_at a k more ≡ entries_at a k logged → (reports : List Report) → AllByRecursion (HasItsUpdates a k logged) reports → AllByRecursion (HasItsUpdates a k more) reports
same_told a k logged more same [] all = tt
same_told a k logged more same (report ∷ reports) all = (same_report a k logged more same report all.0, same_told a k logged more same reports all.1)

come_none : (come : Option Come) → section_of come ≡ None → (x : Come) → come ≡ Some x → ⊥
come_none come none x is = section_none x.section (sym none ∙ ap section_of is)
  where
    section_none : (x : core.Section) → None ≡ Some x → ⊥
    section_none x is = cc

marked_number : (number mark begun : ℕ) → number ≡ suc mark → mark ≡ begun → number ≢ begun
marked_number number mark begun one two three = omega arith

module _ (st : Setting) (is : IsSetting st) (c : Cluster) (whole : IsWhole st c) (logged : List Logged) (coming : AreComing st c logged) where
  abbrev w : World
  w = world_of c

  abbrev marks : MarksHold st w
  marks = whole.consistent.marks

  abbrev Fits : ℕ → Report → Type 0
  Fits a = HasItsUpdates a w.begun logged

  -- the same sections have come, and as many snapshots were begun
  like : (new : Cluster) → new.coordinator.begun ≡ w.begun → new.coordinator.come ≡ c.coordinator.come → ((a : ℕ) → a < st.machines → AllByRecursion (Fits a) (report_way new a)) → AreComing st new logged
  like new begun come all a low =
      record {
        told = subst (λ (k : ℕ). AllByRecursion (HasItsUpdates a k logged) (report_way new a)) (sym begun) (all a low);
        come = λ x here. (coming a low).come x ((λ i. sym come i a) ∙ here) ∙ ap (λ (k : ℕ). entries_at a k logged) (sym begun);
      }

  -- one machine tells more
  told : (a : ℕ) (new : Machine) → (a < st.machines → AllByRecursion (Fits a) (c.reports a ++ new.out)) → (b : ℕ) → b < st.machines → AllByRecursion (Fits b) (c.reports b ++ (set_at c.machine a new b).out)
  told a new all b = set_at-holds (λ (b : ℕ) (m : Machine). b < st.machines → AllByRecursion (Fits b) (c.reports b ++ m.out)) c.machine a new b all (λ off low. (coming b low).told)

  answered : (a : ℕ) (new : Machine) → (a < st.machines → AllByRecursion (Fits a) (c.reports a ++ new.out)) → (b : ℕ) → b < st.machines → AllByRecursion (Fits b) (c.reports b ++ (set_at c.machine a (prompt st a new) b).out)
  answered a new all =
      told a (prompt st a new) (λ low. one_more (Fits a) (is_some new.held && is_done st.engine st a new) (c.reports a) new.out (Count (or_zero new.held) (count_of st new)) tt (all low))

  asked : (a : ℕ) (test : Bool) (new : Machine) → (a < st.machines → AllByRecursion (Fits a) (c.reports a ++ new.out)) → a < st.machines → AllByRecursion (Fits a) (c.reports a ++ (asks_if test new).out)
  asked a test new all low = one_more (Fits a) test (c.reports a) new.out (Want new.acknowledged) tt (all low)

  still : (a : ℕ) → a < st.machines → AllByRecursion (Fits a) (report_way c a)
  still a low = (coming a low).told

  called : (a : ℕ) (call : Call) → a < st.machines → AllByRecursion (Fits a) (c.reports a ++ (takes_call st a call (c.machine a)).out)
  called a (Begin k) low = still a low
  called a (Committed k) low = asked a (asks_more st (commits k (c.machine a))) (commits k (c.machine a)) (still a) low
  called a (Wave k) low = still a low
  called a (Step colour) low = still a low

  -- the first report is gone
  behind_told : (a : ℕ) (report : Report) (behind : List Report) → c.reports a ≡ report ∷ behind → (b : ℕ) → b < st.machines → AllByRecursion (Fits b) (set_at c.reports a behind b ++ (c.machine b).out)
  behind_told a report behind first b =
      set_at-holds (λ (b : ℕ) (rs : List Report). b < st.machines → AllByRecursion (Fits b) (rs ++ (c.machine b).out)) c.reports a behind b
      (λ low. (subst (λ (rs : List Report). AllByRecursion (Fits a) (rs ++ (c.machine a).out)) first (still a low)).1) (λ off. still b)

  report_comes : (a : ℕ) (report : Report) (behind : List Report) → a < st.machines → c.reports a ≡ report ∷ behind → AreComing st (delivers_report c a (report ∷ behind)) logged
  report_comes a (Saved k section entries) behind low first =
      let its : Fits a (Saved k section entries) = (subst (λ (rs : List Report). AllByRecursion (Fits a) (rs ++ (c.machine a).out)) first (still a low)).0 in
      let now : Come = record { section = section; entries = entries } in
      λ b fits. record {
        told = behind_told a (Saved k section entries) behind first b fits;
        come = set_at-holds (λ (b : ℕ) (o : Option Come). (x : Come) → o ≡ Some x → x.entries ≡ entries_at b w.begun logged) c.coordinator.come a (Some now) b
            (λ x here. ap (λ (y : Come). y.entries) (sym (some_same now x here)) ∙ its.1) (λ off. (coming b fits).come);
      }
  report_comes a (Count k counts) behind low first = like (delivers_report c a (Count k counts ∷ behind)) refl refl (behind_told a (Count k counts) behind first)
  report_comes a (Want k) behind low first = like (delivers_report c a (Want k ∷ behind)) refl refl (behind_told a (Want k) behind first)

  -- the section that a machine may send is of the snapshot under way
  pub sent_newest : (a : ℕ) → a < st.machines → MaySend st a (w.part a) → ((w.part a).known ≡ w.begun) × (w.acknowledged < w.begun)
  sent_newest a low may = newest_above (w.part a).sent (w.part a).known w.acknowledged w.begun marks.under (marks.sent_low a low).0 may.unsent (marks.known a low).1

  -- and has the updates that this snapshot is the first to have
  pub sent_entries : AreListed st c logged → (a : ℕ) → a < st.machines → MaySend st a (w.part a) → (c.machine a).before ≡ entries_at a w.begun logged
  sent_entries listed a low may =
      (listed a low).before ∙ cond-true _ (entries_at a (w.part a).known logged) [] (lt-ltb (w.part a).sent (w.part a).known may.unsent) ∙ ap (λ (k : ℕ). entries_at a k logged) (sent_newest a low may).0

  -- where none is under way none has come and none is on the way
  none_under : w.acknowledged ≡ w.begun → (a : ℕ) → IsInPlace w a → (w.reports a ≡ []) × (w.collected a ≡ None)
  none_under none a placed =
      ⊎_elim
      (λ (none : (w.reports a ≡ []) × (w.collected a ≡ None)). none)
      (λ (some : (w.acknowledged < w.begun) × ((w.part a).sent ≡ w.begun)
      × (((w.reports a ≡ (w.part a).saved ∷ []) × (w.collected a ≡ None)) ⊎ ((w.reports a ≡ []) × (w.collected a ≡ Some (w.part a).saved)))).
      absurd (not_under w.acknowledged w.begun none some.0))
      placed

  pub events_coming : AreListed st c logged → (event : Event) → MayDo st c event → IsNoRecovery event → IsNoUpdate event → AreComing st (after_event st c event) logged
  events_coming listed (Admit a v) may other none = like (after_event st c (Admit a v)) refl refl (answered a (admits st a v (c.machine a)) (still a))
  events_coming listed (Grant a x) may other none = like (after_event st c (Grant a x)) refl refl (answered a (grants st a x (c.machine a)) (still a))
  events_coming listed (Send p q) may other none =
      subst (λ (ms : List Message). AreComing st (sends_message c p q ms) logged) (sym may.2.first)
      (like (sends_message c p q (may.2.message ∷ may.2.behind)) refl refl (told p (hands q may.2.behind (c.machine p)) (still p)))
  events_coming listed (SendCall a) may other none =
      subst (λ (calls : List Call). AreComing st (sends_call c a calls) logged) (sym may.1.first) (like (sends_call c a (may.1.message ∷ may.1.behind)) refl refl still)
  events_coming listed (SendReport a) may other none =
      let less : Machine = hands_report may.1.behind (c.machine a) in
      subst (λ (reports : List Report). AreComing st (sends_report c a reports) logged) (sym may.1.first)
      (like (sends_report c a (may.1.message ∷ may.1.behind)) refl refl
      (λ b low. subst (AllByRecursion (Fits b))
      (sym (ap (λ (xs : List Report). set_at c.reports a (c.reports a ++ may.1.message ∷ []) b ++ xs) (read_at (λ (x : Machine). x.out) c.machine a less b)
      ∙ passed c.reports (λ b. (c.machine b).out) a may.1.message may.1.behind may.1.first b))
      (still b low)))
  events_coming listed (Deliver p q) may other none =
      subst (λ (ms : List Message). AreComing st (delivers_message st c p q ms) logged) (sym may.2.first)
      (like (delivers_message st c p q (may.2.message ∷ may.2.behind)) refl refl (answered q (receives st q may.2.message (c.machine q)) (still q)))
  events_coming listed (DeliverCall a) may other none =
      subst (λ (calls : List Call). AreComing st (delivers_call st c a calls) logged) (sym may.1.first)
      (like (delivers_call st c a (may.1.message ∷ may.1.behind)) refl refl (answered a (takes_call st a may.1.message (c.machine a)) (called a may.1.message)))
  events_coming listed (DeliverReport a) may other none =
      subst (λ (reports : List Report). AreComing st (delivers_report c a reports) logged) (sym may.1.first) (report_comes a may.1.message may.1.behind may.0 may.1.first)
  events_coming listed (Update s) may other none = absurd (none s refl)
  events_coming listed (Mark s) may other none =
      let a : ℕ = s.home.0 in
      subst (λ (flight : Option ℕ). AreComing st (saves st c s flight) logged) (sym may.1.flight)
      (like (saves st c s (Some may.1.vertex)) refl refl (answered a (makes_mark st a s may.1.vertex (c.machine a)) (still a)))
  events_coming listed (Section a) may other none =
      let m : Machine = c.machine a in
      let low : a < st.machines = may.0.machine in
      like (after_event st c (Section a)) refl refl
      (answered a (sections m)
      (λ fits. one_more (Fits a) true (c.reports a) m.out (Saved m.part.known m.part.saved m.before) ((sent_newest a low may.1).0, sent_entries listed a low may.1) (still a low)))
  events_coming listed Record may other none = λ a low. record { told = still a low; come = λ x here. absurd (none_some x here) }
  events_coming listed PutBegin may other none = λ a low.
      let free = none_under may.none a (marks.sections a low) in
      record { told = none_told a (suc w.begun) logged (report_way c a) free.0; come = λ x here. absurd (come_none (c.coordinator.come a) free.1 x here) }
  events_coming listed PutStep may other none = like (after_event st c PutStep) refl refl still
  events_coming listed PutWave may other none = like (after_event st c PutWave) refl refl still
  events_coming listed (Fail a) may other none = like (after_event st c (Fail a)) refl refl (told a (fails (c.machine a)) (still a))
  events_coming listed (Recover base) may other none = absurd (other base refl)
  events_coming listed Stop may other none = like (after_event st c Stop) refl refl still

  -- ---- an update

  -- machine b's sections stay what they are: the update is another machine's, or comes behind the mark of its vertex, or no section was sent
  grown : (s : ScopeId) (v b : ℕ) → b < st.machines → v < size st.graph → st.owner v ≡ s.home.0 →
      AllByRecursion (HasItsUpdates b w.begun (logged ++ update_logged st c s v ∷ [])) (report_way c b)
      × ((x : Come) → c.coordinator.come b ≡ Some x → x.entries ≡ entries_at b w.begun (logged ++ update_logged st c s v ∷ []))
  grown s v b low within owner =
      let l : Logged = update_logged st c s v in
      let more : List Logged = logged ++ l ∷ [] in
      let same : is_first_in b w.begun l ≡ false → AllByRecursion (HasItsUpdates b w.begun more) (report_way c b) × ((x : Come) → c.coordinator.come b ≡ Some x → x.entries ≡ entries_at b w.begun more) =
      λ no.
      let kept : entries_at b w.begun more ≡ entries_at b w.begun logged = passing-more_out (is_first_in b w.begun) logged l no in
      (same_told b w.begun logged more kept (report_way c b) (still b low), λ x here. (coming b low).come x here ∙ sym kept) in
      ⊎_elim
      (λ (at : b ≡ s.home.0). ⊎_elim
      (λ (free : (w.reports b ≡ []) × (w.collected b ≡ None)).
      (none_told b w.begun more (report_way c b) free.0, λ x here. absurd (come_none (c.coordinator.come b) free.1 x here)))
      (λ (some : (w.acknowledged < w.begun) × ((w.part b).sent ≡ w.begun)
      × (((w.reports b ≡ (w.part b).saved ∷ []) × (w.collected b ≡ None)) ⊎ ((w.reports b ≡ []) × (w.collected b ≡ Some (w.part b).saved)))).
      let marked : ((w.part s.home.0).datum v).mark ≡ w.begun =
      subst (λ (x : ℕ). ((w.part x).datum v).mark ≡ w.begun) owner ((marks.sent b low some.1 some.0).1 v within (owner ∙ sym at)) in
      same (in_no b w.begun l (marked_number l.number ((w.part s.home.0).datum v).mark w.begun refl marked)))
      (marks.sections b low))
      (λ (off : b ≢ s.home.0). same (in_other b w.begun l (other_entry b s.home (record { 0 = v }) c.next (λ is. off (sym is)))))
      (cases_eq b s.home.0)

  pub update_coming : (s : ScopeId) (may : MayDo st c (Update s)) → st.owner may.1.vertex ≡ s.home.0 → may.1.vertex < size st.graph → AreComing st (after_event st c (Update s)) (logged ++ update_logged st c s may.1.vertex ∷ [])
  update_coming s may owner within =
      let a : ℕ = s.home.0 in
      let v : ℕ = may.1.vertex in
      let m : Machine = c.machine a in
      let l : Logged = update_logged st c s v in
      let more : List Logged = logged ++ l ∷ [] in
      let done : Machine = works_on st a s v l.entry m in
      let asking : Machine = makes_update st a s v l.entry m in
      let its : ℕ → Report → Type 0 = λ b. HasItsUpdates b w.begun more in
      subst (λ (flight : Option ℕ). AreComing st (makes st c s flight) more) (sym may.1.flight)
      (λ b low. record {
        told = set_at-holds (λ (b : ℕ) (x : Machine). b < st.machines → AllByRecursion (its b) (c.reports b ++ x.out)) c.machine a (prompt st a asking) b
            (λ fits. one_more (its a) (is_some asking.held && is_done st.engine st a asking) (c.reports a) asking.out (Count (or_zero asking.held) (count_of st asking)) tt
            (one_more (its a) (asks_more st done) (c.reports a) m.out (Want m.acknowledged) tt (grown s v a fits within owner).0))
            (λ off fits. (grown s v b fits within owner).0) low;
        come = (grown s v b low within owner).1;
      })

  -- ---- a record

  pub come_entries : RecordIsDue st c.coordinator → (a : ℕ) → a < st.machines → (x : Come) × (c.coordinator.come a ≡ Some x) × (x.entries ≡ entries_at a w.begun logged)
  come_entries due a low = let here = due.sections a low in (here.0, here.1, (coming a low).come here.0 here.1)
