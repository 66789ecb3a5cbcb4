-- Each event keeps what machines and coordinator know of each other's snapshots.
use Rattle.std.proofs.Common.{◌≡◌, ◌≢◌, ◌⊎◌, ℕ, suc, pred, ◌+◌, ◌<◌, ◌≤◌, ◌&&◌, Bool, true, false, is_some, Option, None, List, [], ◌∷◌, ◌++◌, length, refl, sym, ◌∙◌, ap, subst, ⊎_elim, le_refl, le_trans, append_assoc, append-nil, length-append, arith}
use Rattle.std.specs.List.{AllByRecursion}
use Rattle.gl_base.specs.declared.entries.Entry.{Entry}
use Rattle.gl_base.specs.declared.entries.Entry.TheVariants.{Go}
use Rattle.graph_core.proofs.HalvesLaws.{each-append}
use Rattle.cluster_laws.specs.cluster_core.Effects.{received}
use Rattle.cluster_laws.specs.cluster_core.Marks.{MarksHold}
use Rattle.cluster_laws.specs.cluster_core.Messages.{Ask, Done, Message, Ready}
use Rattle.cluster_laws.specs.cluster_core.Messages as core
use Rattle.cluster_laws.specs.cluster_core.Parts.{Part}
use Rattle.cluster_laws.specs.cluster_core.Ranges.{set_at}
use Rattle.cluster_laws.specs.cluster_core.Settings.{Setting}
use Rattle.cluster_laws.proofs.cluster_core.Basics.{set_at-holds, set_at-other, set_at-same}
use Rattle.cluster_laws.proofs.cluster_numbers.Quiet.{admitted-quiet, goes_on-quiet, granted-quiet}
use Rattle.cluster_laws.specs.cluster_model.Calls.{Begin, Call, Committed, Count, Report, Saved, Step, Want, Wave, sections_in}
use Rattle.cluster_laws.specs.cluster_model.Clusters.{BaseView, Cluster, call_way, report_way}
use Rattle.cluster_laws.specs.cluster_model.Events.{Event, Admit, DeliverCall, DeliverReport, Deliver, Fail, Grant, Mark, MayDo, PutBegin, PutStep, PutWave, Record, Recover, Section, Send, SendCall, SendReport, Stop, Update, after_event, delivers_call, delivers_message, delivers_report, makes, saves, sends_call, sends_message, sends_report}
use Rattle.cluster_laws.specs.cluster_model.Machines.{Machine, count_of}
use Rattle.cluster_laws.specs.cluster_model.Working.{admits, answers_if, asks, asks_if, asks_more, commits, fails, grants, hands, hands_report, is_done, makes_mark, or_zero, prompt, receives, rest_of, sections, takes_call, works_on}
use Rattle.whole_laws.specs.cluster_whole.Views.{section_of, world_of}
use Rattle.whole_laws.proofs.cluster_whole.Joining.{changed}
use Rattle.whole_laws.proofs.cluster_whole.Pieces.{passed, read_at}
use Rattle.whole_laws.specs.cluster_ending.Snapshotting.{AreInformed, CountUp, IsInformed, IsReportOf, commits_in}

-- ---- numbers

zero_more : (n : ℕ) → 0 + n ≡ n
zero_more n = omega arith

suc_low : (n m : ℕ) → n ≡ suc m → m ≤ n
suc_low n m is = omega arith

pub count_up_low : (low : ℕ) (numbers : List ℕ) (high : ℕ) → CountUp low numbers high → low ≤ high
count_up_low low [] high up = subst (λ (n : ℕ). low ≤ n) up (le_refl low)
count_up_low low (k ∷ numbers) high up = le_trans (suc_low k low up.0) (count_up_low k numbers high up.1)

count_up_more : (low : ℕ) (numbers : List ℕ) (high next : ℕ) → CountUp low numbers high → next ≡ suc high → CountUp low (numbers ++ next ∷ []) next
count_up_more low [] high next up is = (is ∙ ap suc (sym up), refl)
count_up_more low (k ∷ numbers) high next up is = (up.0, count_up_more k numbers high next up.1 is)

commits-append : (xs ys : List Call) → commits_in (xs ++ ys) ≡ commits_in xs ++ commits_in ys
commits-append [] ys = refl
commits-append (Begin k ∷ xs) ys = commits-append xs ys
commits-append (Committed k ∷ xs) ys = ap (λ (ks : List ℕ). k ∷ ks) (commits-append xs ys)
commits-append (Wave k ∷ xs) ys = commits-append xs ys
commits-append (Step colour ∷ xs) ys = commits-append xs ys

commits_pushed : (xs ys : List Call) (call : Call) → commits_in (xs ++ (ys ++ call ∷ [])) ≡ commits_in (xs ++ ys) ++ commits_in (call ∷ [])
commits_pushed xs ys call = ap commits_in (sym (append_assoc xs ys (call ∷ []))) ∙ commits-append (xs ++ ys) (call ∷ [])

reports_pushed : (P : Report → Type 0) (xs ys : List Report) (report : Report) → AllByRecursion P (xs ++ ys) → P report → AllByRecursion P (xs ++ (ys ++ report ∷ []))
reports_pushed P xs ys report all one = subst (AllByRecursion P) (append_assoc xs ys (report ∷ [])) (each-append P (xs ++ ys) (report ∷ []) all (one, tt))

each_as : (P Q : Report → Type 0) (xs : List Report) → ((r : Report) → P r → Q r) → AllByRecursion P xs → AllByRecursion Q xs
each_as P Q [] gives all = tt
each_as P Q (r ∷ rs) gives all = (gives r all.0, each_as P Q rs gives all.1)

-- where no section is on the way the number of the last one doesn't matter
no_sections : (sent next acknowledged : ℕ) (xs : List Report) → sections_in xs ≡ [] → AllByRecursion (IsReportOf sent acknowledged) xs → AllByRecursion (IsReportOf next acknowledged) xs
no_sections sent next acknowledged [] none all = tt
no_sections sent next acknowledged (Saved k section entries ∷ xs) none all = absurd (no_cons section (sections_in xs) none)
  where
    no_cons : (s : core.Section) (ss : List core.Section) → s ∷ ss ≡ [] → ⊥
    no_cons s ss is = cc
no_sections sent next acknowledged (Count k counts ∷ xs) none all = (tt, no_sections sent next acknowledged xs none all.1)
no_sections sent next acknowledged (Want k ∷ xs) none all = (all.0, no_sections sent next acknowledged xs none all.1)

later_report : (sent acknowledged next : ℕ) → acknowledged ≤ next → (r : Report) → IsReportOf sent acknowledged r → IsReportOf sent next r
later_report sent acknowledged next low (Saved k section entries) is = is
later_report sent acknowledged next low (Count k counts) is = tt
later_report sent acknowledged next low (Want k) is = le_trans is low

-- ---- one machine

module _ (acknowledged : ℕ) (calls : List Call) (reports : List Report) where
  abbrev Informed : Machine → Type 0
  Informed m = IsInformed acknowledged m calls (reports ++ m.out)

  pub informed_same : (m new : Machine) → new.acknowledged ≡ m.acknowledged → new.unsure ≡ m.unsure → new.part.sent ≡ m.part.sent → new.out ≡ m.out → Informed m → Informed new
  informed_same m new known unsure sent out was =
      record {
        commits = subst (λ (n : ℕ). CountUp n (commits_in calls) acknowledged) (sym known) was.commits;
        unsure = (λ i. length (unsure i) + known i) ∙ was.unsure ∙ sym sent;
        told = subst (λ (n : ℕ). AllByRecursion (IsReportOf n acknowledged) (reports ++ new.out)) (sym sent) (subst (λ (rs : List Report). AllByRecursion (IsReportOf m.part.sent acknowledged) (reports ++ rs)) (sym out) was.told);
      }

  by_answer : (st : Setting) (test : Bool) (m : Machine) → Informed m → Informed (answers_if st test m)
  by_answer st true m was =
      record { commits = was.commits; unsure = was.unsure; told = reports_pushed (IsReportOf m.part.sent acknowledged) reports m.out (Count (or_zero m.held) (count_of st m)) was.told tt }
  by_answer st false m was = record { commits = was.commits; unsure = was.unsure; told = was.told }

  pub prompt_informed : (st : Setting) (a : ℕ) (m : Machine) → Informed m → Informed (prompt st a m)
  prompt_informed st a m was = by_answer st (is_some m.held && is_done st.engine st a m) m was

  by_asking : (test : Bool) (m : Machine) → Informed m → Informed (asks_if test m)
  by_asking true m was =
      record {
        commits = was.commits;
        unsure = was.unsure;
        told = reports_pushed (IsReportOf m.part.sent acknowledged) reports m.out (Want m.acknowledged) was.told (count_up_low m.acknowledged (commits_in calls) acknowledged was.commits);
      }
  by_asking false m was = record { commits = was.commits; unsure = was.unsure; told = was.told }

  pub asks_informed : (st : Setting) (m : Machine) → Informed m → Informed (asks st m)
  asks_informed st m was = by_asking (asks_more st m) m was

-- ---- a snapshot is acknowledged at a machine

pub some_length : (ks : List ℕ) (known sent k : ℕ) → length ks + known ≡ sent → k ≡ suc known → k ≤ sent → (oldest : ℕ) × (behind : List ℕ) × (ks ≡ oldest ∷ behind)
some_length [] known sent k is next low = absurd (omega arith)
some_length (oldest ∷ behind) known sent k is next low = (oldest, behind, refl)

one_less : (n known sent k : ℕ) → suc n + known ≡ sent → k ≡ suc known → n + k ≡ sent
one_less n known sent k is next = omega arith

one_more : (n known sent next : ℕ) → n + known ≡ sent → next ≡ suc sent → n + 1 + known ≡ next
one_more n known sent next is more = omega arith

received-sent : (st : Setting) (a : ℕ) (m : Message) (part : Part) → (received st a m part).sent ≡ part.sent
received-sent st a (Ask s v rest) part = (goes_on-quiet st a s v 0 rest part).sent
received-sent st a (Ready s) part = refl
received-sent st a (Done s news) part = refl

next_known : (known begun sent acknowledged : ℕ) → sent < known → acknowledged ≤ sent → known ≤ begun → (begun ≡ acknowledged) ⊎ (begun ≡ suc acknowledged) → known ≡ suc sent
next_known known begun sent acknowledged less low high under = ⊎_elim (λ (is : begun ≡ acknowledged). omega arith) (λ (is : begun ≡ suc acknowledged). omega arith) under

record_next : (begun acknowledged : ℕ) → acknowledged < begun → (begun ≡ acknowledged) ⊎ (begun ≡ suc acknowledged) → begun ≡ suc acknowledged
record_next begun acknowledged less under = ⊎_elim (λ (is : begun ≡ acknowledged). omega arith) (λ (is : begun ≡ suc acknowledged). is) under

not_under : (sent known begun : ℕ) → sent < known → known ≤ begun → sent ≡ begun → ⊥
not_under sent known begun less low is = omega arith

less_low : (a b : ℕ) → a < b → a ≤ b
less_low a b less = omega arith

module _ (st : Setting) (c : Cluster) (marks : MarksHold st (world_of c)) (was : AreInformed c) where
  abbrev acknowledged : ℕ
  acknowledged = c.coordinator.acknowledged

  pub may_commit : (a : ℕ) → a < st.machines → (k : ℕ) (behind : List Call) → c.calls a ≡ Committed k ∷ behind →
      (k ≡ suc (c.machine a).acknowledged) × CountUp k (commits_in (behind ++ c.coordinator.out a)) acknowledged × (k ≤ (c.machine a).part.sent)
  may_commit a low k behind first =
      let up : CountUp (c.machine a).acknowledged (k ∷ commits_in (behind ++ c.coordinator.out a)) acknowledged =
      subst (λ (cs : List Call). CountUp (c.machine a).acknowledged (commits_in (cs ++ c.coordinator.out a)) acknowledged) first (was a).commits in
      (up.0, up.1, le_trans (count_up_low k (commits_in (behind ++ c.coordinator.out a)) acknowledged up.1) (marks.sent_low a low).0)

  commits_informed : (a : ℕ) → a < st.machines → (k : ℕ) (behind : List Call) → c.calls a ≡ Committed k ∷ behind →
      IsInformed acknowledged (commits k (c.machine a)) (behind ++ c.coordinator.out a) (c.reports a ++ (c.machine a).out)
  commits_informed a low k behind first =
      let m : Machine = c.machine a in
      let may = may_commit a low k behind first in
      let some = some_length m.unsure m.acknowledged m.part.sent k (was a).unsure may.0 may.2 in
      record {
        commits = may.1;
        unsure = ap (λ (ks : List ℕ). length (rest_of ks) + k) some.2 ∙ one_less (length some.1) m.acknowledged m.part.sent k (ap (λ (ks : List ℕ). length ks + m.acknowledged) (sym some.2) ∙ (was a).unsure) may.0;
        told = (was a).told;
      }

  -- ---- what each event leaves

  -- one machine changes, and what is on its way to it
  at_machine : (a : ℕ) (m1 : Machine) (link : ℕ → ℕ → List Message) (calls : ℕ → List Call) (next left : ℕ) →
      IsInformed acknowledged m1 (calls a ++ c.coordinator.out a) (c.reports a ++ m1.out) → ((b : ℕ) → b ≢ a → calls b ≡ c.calls b) → AreInformed (changed st c a (prompt st a m1) link calls next left)
  at_machine a m1 link calls next left here others b =
      set_at-holds (λ (b : ℕ) (x : Machine). IsInformed acknowledged x (calls b ++ c.coordinator.out b) (c.reports b ++ x.out)) c.machine a (prompt st a m1) b
      (prompt_informed acknowledged (calls a ++ c.coordinator.out a) (c.reports a) st a m1 here)
      (λ off. subst (λ (cs : List Call). IsInformed acknowledged (c.machine b) (cs ++ c.coordinator.out b) (report_way c b)) (sym (others b off)) (was b))

  -- the machine tells and hears nothing of snapshots
  alone : (a : ℕ) (m1 : Machine) (link : ℕ → ℕ → List Message) (next left : ℕ) → m1.acknowledged ≡ (c.machine a).acknowledged → m1.unsure ≡ (c.machine a).unsure → m1.part.sent ≡ (c.machine a).part.sent → m1.out ≡ (c.machine a).out →
      AreInformed (changed st c a (prompt st a m1) link c.calls next left)
  alone a m1 link next left known unsure sent out =
      at_machine a m1 link c.calls next left (informed_same acknowledged (call_way c a) (c.reports a) (c.machine a) m1 known unsure sent out (was a)) (λ b off. refl)

  called_same : (a : ℕ) (call : Call) (behind : List Call) → c.calls a ≡ call ∷ behind → commits_in (call ∷ []) ≡ [] → (m1 : Machine) →
      m1.acknowledged ≡ (c.machine a).acknowledged → m1.unsure ≡ (c.machine a).unsure → m1.part.sent ≡ (c.machine a).part.sent → m1.out ≡ (c.machine a).out →
      IsInformed acknowledged m1 (set_at c.calls a behind a ++ c.coordinator.out a) (c.reports a ++ m1.out)
  called_same a call behind first none m1 known unsure sent out =
      let m : Machine = c.machine a in
      let calls : commits_in (set_at c.calls a behind a ++ c.coordinator.out a) ≡ commits_in (call_way c a) =
      ap (λ (cs : List Call). commits_in (cs ++ c.coordinator.out a)) (set_at-same c.calls a behind)
      ∙ sym (ap (λ (cs : List Call). commits_in (cs ++ c.coordinator.out a)) first ∙ commits-append (call ∷ []) (behind ++ c.coordinator.out a) ∙ ap (λ (ks : List ℕ). ks ++ commits_in (behind ++ c.coordinator.out a)) none) in
      informed_same acknowledged (set_at c.calls a behind a ++ c.coordinator.out a) (c.reports a) m m1 known unsure sent out
      (record { commits = subst (λ (ks : List ℕ). CountUp m.acknowledged ks acknowledged) (sym calls) (was a).commits; unsure = (was a).unsure; told = (was a).told })

  heard : (a : ℕ) (call : Call) (behind : List Call) → c.calls a ≡ call ∷ behind → a < st.machines → AreInformed (delivers_call st c a (call ∷ behind))
  heard a (Begin k) behind first low =
      at_machine a (takes_call st a (Begin k) (c.machine a)) c.link (set_at c.calls a behind) c.next c.left (called_same a (Begin k) behind first refl (takes_call st a (Begin k) (c.machine a)) refl refl refl refl) (λ b off. set_at-other c.calls a behind b off)
  heard a (Committed k) behind first low =
      at_machine a (takes_call st a (Committed k) (c.machine a)) c.link (set_at c.calls a behind) c.next c.left
      (subst (λ (cs : List Call). IsInformed acknowledged (takes_call st a (Committed k) (c.machine a)) (cs ++ c.coordinator.out a) (c.reports a ++ (takes_call st a (Committed k) (c.machine a)).out)) (sym (set_at-same c.calls a behind))
      (asks_informed acknowledged (behind ++ c.coordinator.out a) (c.reports a) st (commits k (c.machine a)) (commits_informed a low k behind first)))
      (λ b off. set_at-other c.calls a behind b off)
  heard a (Wave k) behind first low =
      at_machine a (takes_call st a (Wave k) (c.machine a)) c.link (set_at c.calls a behind) c.next c.left (called_same a (Wave k) behind first refl (takes_call st a (Wave k) (c.machine a)) refl refl refl refl) (λ b off. set_at-other c.calls a behind b off)
  heard a (Step colour) behind first low =
      at_machine a (takes_call st a (Step colour) (c.machine a)) c.link (set_at c.calls a behind) c.next c.left (called_same a (Step colour) behind first refl (takes_call st a (Step colour) (c.machine a)) refl refl refl refl) (λ b off. set_at-other c.calls a behind b off)

  -- no machine changes
  beside : (new : Cluster) → new.coordinator.acknowledged ≡ acknowledged → new.machine ≡ c.machine → ((a : ℕ) → commits_in (call_way new a) ≡ commits_in (call_way c a)) →
      ((a : ℕ) → AllByRecursion (IsReportOf (c.machine a).part.sent acknowledged) (report_way new a)) → AreInformed new
  beside new known machine calls reports a =
      let m_is : new.machine a ≡ c.machine a = λ i. machine i a in
      record {
        commits = subst (λ (m : Machine). CountUp m.acknowledged (commits_in (call_way new a)) new.coordinator.acknowledged) (sym m_is)
            (subst (λ (n : ℕ). CountUp (c.machine a).acknowledged (commits_in (call_way new a)) n) (sym known) (subst (λ (ks : List ℕ). CountUp (c.machine a).acknowledged ks acknowledged) (sym (calls a)) (was a).commits));
        unsure = ap (λ (m : Machine). length m.unsure + m.acknowledged) m_is ∙ (was a).unsure ∙ sym (ap (λ (m : Machine). m.part.sent) m_is);
        told = subst (λ (m : Machine). AllByRecursion (IsReportOf m.part.sent new.coordinator.acknowledged) (report_way new a)) (sym m_is)
            (subst (λ (n : ℕ). AllByRecursion (IsReportOf (c.machine a).part.sent n) (report_way new a)) (sym known) (reports a));
      }

  still_told : (a : ℕ) → AllByRecursion (IsReportOf (c.machine a).part.sent acknowledged) (report_way c a)
  still_told a = (was a).told

  came : (call : Call) → commits_in (call ∷ []) ≡ [] → (a : ℕ) → commits_in (c.calls a ++ (c.coordinator.out a ++ call ∷ [])) ≡ commits_in (call_way c a)
  came call none a = commits_pushed (c.calls a) (c.coordinator.out a) call ∙ ap (λ (ks : List ℕ). commits_in (call_way c a) ++ ks) none ∙ append-nil (commits_in (call_way c a))

  gone : (a : ℕ) (report : Report) (behind : List Report) → c.reports a ≡ report ∷ behind → (b : ℕ) → AllByRecursion (IsReportOf (c.machine b).part.sent acknowledged) (set_at c.reports a behind b ++ (c.machine b).out)
  gone a report behind first b =
      set_at-holds (λ (b : ℕ) (rs : List Report). AllByRecursion (IsReportOf (c.machine b).part.sent acknowledged) (rs ++ (c.machine b).out)) c.reports a behind b
      (subst (λ (rs : List Report). AllByRecursion (IsReportOf (c.machine a).part.sent acknowledged) (rs ++ (c.machine a).out)) first (was a).told).1
      (λ off. (was b).told)

  reported : (a : ℕ) (report : Report) (behind : List Report) → c.reports a ≡ report ∷ behind → AreInformed (delivers_report c a (report ∷ behind))
  reported a (Saved k section entries) behind first = beside (delivers_report c a (Saved k section entries ∷ behind)) refl refl (λ b. refl) (gone a (Saved k section entries) behind first)
  reported a (Count k counts) behind first = beside (delivers_report c a (Count k counts ∷ behind)) refl refl (λ b. refl) (gone a (Count k counts) behind first)
  reported a (Want k) behind first = beside (delivers_report c a (Want k ∷ behind)) refl refl (λ b. refl) (gone a (Want k) behind first)

  -- a machine sends its section: none of it is on the way
  section_told : (a : ℕ) → MayDo st c (Section a) → IsInformed acknowledged (sections (c.machine a)) (call_way c a) (c.reports a ++ (sections (c.machine a)).out)
  section_told a may =
      let m : Machine = c.machine a in
      let low = may.0.machine in
      let high = (marks.known a low).1 in
      let next : m.part.known ≡ suc m.part.sent = next_known m.part.known c.coordinator.begun m.part.sent acknowledged may.1.unsent (marks.sent_low a low).0 high marks.under in
      let none : sections_in (report_way c a) ≡ [] =
      ⊎_elim (λ (no_section : (sections_in (report_way c a) ≡ []) × (section_of (c.coordinator.come a) ≡ None)). no_section.0)
      (λ placed. absurd (not_under m.part.sent m.part.known c.coordinator.begun may.1.unsent high placed.1))
      (marks.sections a low) in
      record {
        commits = (was a).commits;
        unsure = ap (λ (n : ℕ). n + m.acknowledged) (length-append m.unsure (length m.before ∷ [])) ∙ one_more (length m.unsure) m.acknowledged m.part.sent m.part.known (was a).unsure next;
        told = reports_pushed (IsReportOf m.part.known acknowledged) (c.reports a) m.out (Saved m.part.known m.part.saved m.before)
            (no_sections m.part.sent m.part.known acknowledged (report_way c a) none (was a).told) refl;
      }

  pub event_informed : (event : Event) → MayDo st c event → ((base : BaseView) → event ≡ Recover base → ⊥) → AreInformed (after_event st c event)
  event_informed (Admit a v) may other = alone a (admits st a v (c.machine a)) c.link c.next c.left refl refl (admitted-quiet st a v (c.machine a).part).sent refl
  event_informed (Grant a x) may other = alone a (grants st a x (c.machine a)) c.link c.next c.left refl refl (granted-quiet st a x (c.machine a).part).sent refl
  event_informed (Send p q) may other =
      let less : Machine = hands q may.2.behind (c.machine p) in
      subst (λ (ms : List Message). AreInformed (sends_message c p q ms)) (sym may.2.first)
      (λ b. set_at-holds (λ (b : ℕ) (x : Machine). IsInformed acknowledged x (call_way c b) (c.reports b ++ x.out)) c.machine p less b
      (informed_same acknowledged (call_way c p) (c.reports p) (c.machine p) less refl refl refl refl (was p)) (λ off. was b))
  event_informed (SendCall a) may other =
      let first = may.1.first in
      subst (λ (calls : List Call). AreInformed (sends_call c a calls)) (sym first)
      (beside (sends_call c a (may.1.message ∷ may.1.behind)) refl refl (λ b. ap commits_in (passed c.calls c.coordinator.out a may.1.message may.1.behind first b)) still_told)
  event_informed (SendReport a) may other =
      let first = may.1.first in
      let less : Machine = hands_report may.1.behind (c.machine a) in
      let new : Cluster = sends_report c a (may.1.message ∷ may.1.behind) in
      let ways : (b : ℕ) → report_way new b ≡ report_way c b =
      λ b. ap (λ (xs : List Report). set_at c.reports a (c.reports a ++ may.1.message ∷ []) b ++ xs) (read_at (λ (x : Machine). x.out) c.machine a less b) ∙ passed c.reports (λ b. (c.machine b).out) a may.1.message may.1.behind first b in
      subst (λ (reports : List Report). AreInformed (sends_report c a reports)) (sym first)
      (λ b. subst (IsInformed acknowledged (new.machine b) (call_way c b)) (sym (ways b))
      (set_at-holds (λ (b : ℕ) (x : Machine). IsInformed acknowledged x (call_way c b) (report_way c b)) c.machine a less b
      (record { commits = (was a).commits; unsure = (was a).unsure; told = (was a).told }) (λ off. was b)))
  event_informed (Deliver p q) may other =
      subst (λ (ms : List Message). AreInformed (delivers_message st c p q ms)) (sym may.2.first)
      (alone q (receives st q may.2.message (c.machine q)) (set_at c.link p (set_at (c.link p) q may.2.behind)) c.next c.left refl refl (received-sent st q may.2.message (c.machine q).part) refl)
  event_informed (DeliverCall a) may other =
      subst (λ (calls : List Call). AreInformed (delivers_call st c a calls)) (sym may.1.first) (heard a may.1.message may.1.behind may.1.first may.0.machine)
  event_informed (DeliverReport a) may other =
      subst (λ (reports : List Report). AreInformed (delivers_report c a reports)) (sym may.1.first) (reported a may.1.message may.1.behind may.1.first)
  event_informed (Update s) may other =
      let a : ℕ = s.home.0 in
      let entry : Entry = Go s.home (record { 0 = may.1.vertex }) c.next in
      let m1 : Machine = works_on st a s may.1.vertex entry (c.machine a) in
      subst (λ (flight : Option ℕ). AreInformed (makes st c s flight)) (sym may.1.flight)
      (at_machine a (asks st m1) c.link c.calls (suc c.next) (pred c.left)
      (asks_informed acknowledged (call_way c a) (c.reports a) st m1 (informed_same acknowledged (call_way c a) (c.reports a) (c.machine a) m1 refl refl refl refl (was a))) (λ b off. refl))
  event_informed (Mark s) may other =
      subst (λ (flight : Option ℕ). AreInformed (saves st c s flight)) (sym may.1.flight)
      (alone s.home.0 (makes_mark st s.home.0 s may.1.vertex (c.machine s.home.0)) c.link c.next c.left refl refl refl refl)
  event_informed (Section a) may other = at_machine a (sections (c.machine a)) c.link c.calls c.next c.left (section_told a may) (λ b off. refl)
  event_informed Record may other =
      λ a.
      let next : c.coordinator.begun ≡ suc acknowledged = record_next c.coordinator.begun acknowledged may.0.under marks.under in
      record {
        commits = subst (λ (ks : List ℕ). CountUp (c.machine a).acknowledged ks c.coordinator.begun) (sym (commits_pushed (c.calls a) (c.coordinator.out a) (Committed c.coordinator.begun)))
            (count_up_more (c.machine a).acknowledged (commits_in (call_way c a)) acknowledged c.coordinator.begun (was a).commits next);
        unsure = (was a).unsure;
        told = each_as (IsReportOf (c.machine a).part.sent acknowledged) (IsReportOf (c.machine a).part.sent c.coordinator.begun) (report_way c a)
            (later_report (c.machine a).part.sent acknowledged c.coordinator.begun (less_low acknowledged c.coordinator.begun may.0.under)) (was a).told;
      }
  event_informed PutBegin may other = beside (after_event st c PutBegin) refl refl (came (Begin (suc c.coordinator.begun)) refl) still_told
  event_informed PutStep may other = beside (after_event st c PutStep) refl refl (came (Step _) refl) still_told
  event_informed PutWave may other = beside (after_event st c PutWave) refl refl (came (Wave _) refl) still_told
  event_informed (Fail a) may other =
      λ b. set_at-holds (λ (b : ℕ) (x : Machine). IsInformed acknowledged x (call_way c b) (c.reports b ++ x.out)) c.machine a (fails (c.machine a)) b
      (informed_same acknowledged (call_way c a) (c.reports a) (c.machine a) (fails (c.machine a)) refl refl refl refl (was a)) (λ off. was b)
  event_informed (Recover base) may other = absurd (other base refl)
  event_informed Stop may other = beside (after_event st c Stop) refl refl (λ a. refl) still_told
