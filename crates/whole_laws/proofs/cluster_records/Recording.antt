-- Each event but a recovery keeps what the acknowledged snapshots have, and a record adds one.
use Rattle.std.proofs.Common.{◌≡◌, ◌≢◌, ◌⊎◌, ℕ, suc, ◌+◌, ◌<◌, ◌≤◌, is_some, Bool, true, false, None, Option, Some, List, [], ◌∷◌, ◌++◌, drop, take-append-drop, ◌==◌, if◌then◌else◌, append_assoc, refl, sym, ◌∙◌, ap, subst, ⊎_elim, le_refl, lt_of_le_of_lt, arith}
use Rattle.std.specs.List.{AllByRecursion}
use Rattle.std.proofs.lemmas.Bool.{both_ways}
use Rattle.gl_base.specs.declared.entries.Entry.{Entry}
use Rattle.gl_base.specs.declared.entries.Entry.TheVariants.{Go, Restart}
use Rattle.graph_core.proofs.HalvesLaws.{each-append}
use Rattle.cluster_laws.specs.cluster_core.Actions.{MayRecord}
use Rattle.cluster_laws.specs.cluster_core.Cuts.{Begins, IsCut, cut_of, updates_at}
use Rattle.cluster_laws.specs.cluster_core.Messages.{Message}
use Rattle.cluster_laws.specs.cluster_core.Messages as core
use Rattle.cluster_laws.specs.cluster_core.Ranges.{first_passing}
use Rattle.cluster_laws.specs.cluster_core.Replays.{replay_of}
use Rattle.cluster_laws.specs.cluster_core.Settings.{IsSetting, Setting}
use Rattle.cluster_laws.specs.cluster_core.Worlds.{World}
use Rattle.cluster_laws.proofs.cluster_core.Basics.{first_passing-none, first_passing-some}
use Rattle.cluster_laws.specs.cluster_cuts.Goings.{HoldCut}
use Rattle.cluster_laws.proofs.cluster_cuts.CutLists.{cut_updates}
use Rattle.cluster_laws.proofs.cluster_cuts.CutsKept.{recorded, recorded_cut}
use Rattle.cluster_laws.proofs.cluster_cuts.MarkEvents.{all_known, section_come}
use Rattle.cluster_laws.specs.cluster_model.Calls.{Call, Count, Report, Saved, Want}
use Rattle.cluster_laws.specs.cluster_model.Clusters.{Cluster}
use Rattle.cluster_laws.specs.cluster_model.Events.{Event, Admit, DeliverCall, DeliverReport, Deliver, Fail, Grant, Mark, MayDo, PutBegin, PutStep, PutWave, Record, Recover, Section, Send, SendCall, SendReport, Stop, Update, after_event, delivers_call, delivers_message, delivers_report, makes, newest_of, saves, sends_call, sends_message, sends_report, snapshot_numbers}
use Rattle.cluster_laws.specs.cluster_model.Leading.{Come, RecordIsDue, Snapshot, come_or}
use Rattle.cluster_laws.specs.cluster_model.Working.{or_zero}
use Rattle.whole_laws.specs.cluster_whole.Logged.{IsLogged, Logged, all_entries, entries_to}
use Rattle.whole_laws.specs.cluster_whole.Views.{section_of, world_of}
use Rattle.whole_laws.specs.cluster_whole.Whole.{IsNoRecovery, IsWhole}
use Rattle.whole_laws.proofs.cluster_whole.Wholeness.{may_record}
use Rattle.whole_laws.specs.cluster_records.Listed.{AreComing, is_first_in}
use Rattle.whole_laws.specs.cluster_records.Recorded.{GoOnByNumber, AreGoodSnapshots, HasNewUpdates, IsGoodSnapshot, HaveSameNumbers, snapshot_due}
use Rattle.whole_laws.proofs.cluster_records.Coming.{come_entries}
use Rattle.whole_laws.proofs.cluster_records.Filtering.{all-more, in_no, later_kept, passing-more_out}
use Rattle.seq_run.specs.Orders.{IsValidFrom, all_tasks}
use Rattle.seq_run.specs.States.{GraphState}

-- ---- which events add no snapshot

abbrev pub IsNoRecord : Event → Type 0
IsNoRecord event = event ≡ Record → ⊥

-- the coordinator has the same snapshots
abbrev pub HasSame : Cluster → Cluster → Type 0
HasSame c new = (new.coordinator.snapshots ≡ c.coordinator.snapshots) × (new.coordinator.acknowledged ≡ c.coordinator.acknowledged)

report_same : (c : Cluster) (a : ℕ) (report : Report) (behind : List Report) → HasSame c (delivers_report c a (report ∷ behind))
report_same c a (Saved k section entries) behind = (refl, refl)
report_same c a (Count k counts) behind = (refl, refl)
report_same c a (Want k) behind = (refl, refl)

pub adds_none : (st : Setting) (c : Cluster) (event : Event) → MayDo st c event → IsNoRecovery event → IsNoRecord event → HasSame c (after_event st c event)
adds_none st c (Admit a v) may other none = (refl, refl)
adds_none st c (Grant a x) may other none = (refl, refl)
adds_none st c (Send p q) may other none = subst (λ (ms : List Message). HasSame c (sends_message c p q ms)) (sym may.2.first) (refl, refl)
adds_none st c (SendCall a) may other none = subst (λ (calls : List Call). HasSame c (sends_call c a calls)) (sym may.1.first) (refl, refl)
adds_none st c (SendReport a) may other none = subst (λ (reports : List Report). HasSame c (sends_report c a reports)) (sym may.1.first) (refl, refl)
adds_none st c (Deliver p q) may other none = subst (λ (ms : List Message). HasSame c (delivers_message st c p q ms)) (sym may.2.first) (refl, refl)
adds_none st c (DeliverCall a) may other none = subst (λ (calls : List Call). HasSame c (delivers_call st c a calls)) (sym may.1.first) (refl, refl)
adds_none st c (DeliverReport a) may other none = subst (λ (reports : List Report). HasSame c (delivers_report c a reports)) (sym may.1.first) (report_same c a may.1.message may.1.behind)
adds_none st c (Update s) may other none = subst (λ (flight : Option ℕ). HasSame c (makes st c s flight)) (sym may.1.flight) (refl, refl)
adds_none st c (Mark s) may other none = subst (λ (flight : Option ℕ). HasSame c (saves st c s flight)) (sym may.1.flight) (refl, refl)
adds_none st c (Section a) may other none = (refl, refl)
adds_none st c Record may other none = absurd (none refl)
adds_none st c PutBegin may other none = (refl, refl)
adds_none st c PutStep may other none = (refl, refl)
adds_none st c PutWave may other none = (refl, refl)
adds_none st c (Fail a) may other none = (refl, refl)
adds_none st c (Recover base) may other none = absurd (other base refl)
adds_none st c Stop may other none = (refl, refl)

-- ---- lists of snapshots

up_one : (low high : ℕ) → suc low ≤ high → low ≤ high
up_one low high is = omega arith

numbered_low : (low high : ℕ) (snapshots : List Snapshot) → GoOnByNumber low snapshots high → low ≤ high
numbered_low low high [] numbered = subst (λ (n : ℕ). low ≤ n) (sym numbered) (le_refl low)
numbered_low low high (snapshot ∷ snapshots) numbered = up_one low high (numbered_low (suc low) high snapshots numbered.1)

numbered_push : (low high : ℕ) (snapshots : List Snapshot) (last : Snapshot) → GoOnByNumber low snapshots high → last.number ≡ suc high → GoOnByNumber low (snapshots ++ last ∷ []) (suc high)
numbered_push low high [] last numbered number = (number ∙ ap (λ (n : ℕ). suc n) numbered, ap (λ (n : ℕ). suc n) numbered)
numbered_push low high (snapshot ∷ snapshots) last numbered number = (numbered.0, numbered_push (suc low) high snapshots last numbered.1 number)

-- an update for a later snapshot changes nothing of one that stands
other_number : (number k : ℕ) → k < number → number ≢ k
other_number number k above is = omega arith

begins_more : (front whole more : List Entry) → Begins front whole → Begins front (whole ++ more)
begins_more front whole more begins = (begins.0 ++ more, ap (λ (es : List Entry). es ++ more) begins.1 ∙ append_assoc front begins.0 more)

pub updates_at-append : (v : ℕ) (xs ys : List Entry) → updates_at v (xs ++ ys) ≡ updates_at v xs ++ updates_at v ys
updates_at-append v [] ys = refl
updates_at-append v (Restart ticket ∷ xs) ys = updates_at-append v xs ys
updates_at-append v (Go machine vertex ticket ∷ xs) ys = if_append (vertex.0 == v) (Go machine vertex ticket) (updates_at v xs) (updates_at v (xs ++ ys)) (updates_at v ys) (updates_at-append v xs ys)
  where
    if_append : (b : Bool) (e : Entry) (xs zs ys : List Entry) → zs ≡ xs ++ ys → (if b then e ∷ zs else zs) ≡ (if b then e ∷ xs else xs) ++ ys
    if_append true e xs zs ys is = ap (λ (es : List Entry). e ∷ es) is
    if_append false e xs zs ys is = is

-- a good snapshot stays good where an update of a later one is logged
one_good : (st : Setting) (logged : List Logged) (l : Logged) (snapshot : Snapshot) → snapshot.number < l.number → IsGoodSnapshot st logged snapshot → IsGoodSnapshot st (logged ++ l ∷ []) snapshot
one_good st logged l snapshot above good =
    let same : entries_to snapshot.number (logged ++ l ∷ []) ≡ entries_to snapshot.number logged = later_kept snapshot.number logged (l ∷ []) (above, tt) in
    record {
      updates = λ a fits. good.updates a fits ∙ sym (passing-more_out (is_first_in a snapshot.number) logged l (in_no a snapshot.number l (other_number l.number snapshot.number above)));
      valid = subst (IsValidFrom st.graph st.program st.start (all_tasks st.graph)) (sym same) good.valid;
      first = λ v. subst (λ (es : List Entry). Begins (updates_at v es) (updates_at v (all_entries (logged ++ l ∷ [])))) (sym same)
          (subst (λ (es : List Entry). Begins (updates_at v (entries_to snapshot.number logged)) es)
          (sym (ap (updates_at v) (all-more logged (l ∷ [])) ∙ updates_at-append v (all_entries logged) (l.entry ∷ [])))
          (begins_more (updates_at v (entries_to snapshot.number logged)) (updates_at v (all_entries logged)) (updates_at v (l.entry ∷ [])) (good.first v)));
      numbers = subst (λ (es : List Entry). HaveSameNumbers st.graph (snapshot_numbers st snapshot) (replay_of st es)) (sym same) good.numbers;
    }

still_good : (st : Setting) (logged : List Logged) (l : Logged) (low high : ℕ) (snapshots : List Snapshot) → GoOnByNumber low snapshots high → high < l.number → AllByRecursion (IsGoodSnapshot st logged) snapshots → AllByRecursion (IsGoodSnapshot st (logged ++ l ∷ [])) snapshots
still_good st logged l low high [] numbered above good = tt
still_good st logged l low high (snapshot ∷ snapshots) numbered above good = (
  one_good st logged l snapshot (lt_of_le_of_lt (subst (λ (n : ℕ). n ≤ high) (sym numbered.0) (numbered_low (suc low) high snapshots numbered.1)) above) good.0,
  still_good st logged l (suc low) high snapshots numbered.1 above good.1,
)

pub all_new : (st : Setting) (logged : List Logged) (snapshots : List Snapshot) → AllByRecursion (IsGoodSnapshot st logged) snapshots → AllByRecursion (HasNewUpdates st logged) snapshots
all_new st logged [] good = tt
all_new st logged (snapshot ∷ snapshots) good = (good.0.updates, all_new st logged snapshots good.1)

-- the numbers of the newest snapshot, or of the base where there is none
pub newest_numbers : (st : Setting) (logged : List Logged) (low high : ℕ) (snapshots : List Snapshot) (numbers : GraphState) → GoOnByNumber low snapshots high → AllByRecursion (IsGoodSnapshot st logged) snapshots →
    HaveSameNumbers st.graph numbers (replay_of st (entries_to low logged)) → HaveSameNumbers st.graph (newest_of st snapshots numbers) (replay_of st (entries_to high logged))
newest_numbers st logged low high [] numbers numbered good same = subst (λ (n : ℕ). HaveSameNumbers st.graph numbers (replay_of st (entries_to n logged))) (sym numbered) same
newest_numbers st logged low high (snapshot ∷ snapshots) numbers numbered good same =
    newest_numbers st logged (suc low) high snapshots (snapshot_numbers st snapshot) numbered.1 good.1
    (subst (λ (n : ℕ). HaveSameNumbers st.graph (snapshot_numbers st snapshot) (replay_of st (entries_to n logged))) numbered.0 good.0.numbers)

-- the newest cut is valid, or nothing is recorded
pub newest_valid : (st : Setting) (logged : List Logged) (low high : ℕ) (snapshots : List Snapshot) → GoOnByNumber low snapshots high → AllByRecursion (IsGoodSnapshot st logged) snapshots →
    IsValidFrom st.graph st.program st.start (all_tasks st.graph) (entries_to low logged) → IsValidFrom st.graph st.program st.start (all_tasks st.graph) (entries_to high logged)
newest_valid st logged low high [] numbered good valid = subst (λ (n : ℕ). IsValidFrom st.graph st.program st.start (all_tasks st.graph) (entries_to n logged)) (sym numbered) valid
newest_valid st logged low high (snapshot ∷ snapshots) numbered good valid =
    newest_valid st logged (suc low) high snapshots numbered.1 good.1 (subst (λ (n : ℕ). IsValidFrom st.graph st.program st.start (all_tasks st.graph) (entries_to n logged)) numbered.0 good.0.valid)

-- ---- what a record has

pub come_section : (come : Option Come) (section : core.Section) → section_of come ≡ Some section → (come_or come).section ≡ section
come_section None section is = absurd (none_is section is)
  where
    none_is : (section : core.Section) → None ≡ Some section → ⊥
    none_is section is = cc
come_section (Some come) section is = sections_same come.section section is
  where
    sections_same : (one other : core.Section) → Some one ≡ Some other → one ≡ other
    sections_same one other is = cc

come_has : (come : Option Come) (x : Come) → come ≡ Some x → come_or come ≡ x
come_has come x is = ap come_or is

number_of_some : (o : Option ℕ) (x : ℕ) → o ≡ Some x → or_zero o ≡ x
number_of_some o x is = ap or_zero is

some_of : (o : Option ℕ) → is_some o ≡ true → (x : ℕ) × (o ≡ Some x)
some_of None is = absurd (both_ways false refl is)
some_of (Some x) is = (x, refl)

some_test : (o : Option ℕ) (x : ℕ) → o ≡ Some x → is_some o ≡ true
some_test o x is = ap is_some is

zero_low : (n : ℕ) → 0 ≤ n
zero_low n = omega arith

plus_zero : (n k : ℕ) → n < k → n < 0 + k
plus_zero n k low = omega arith

from_plus : (n k : ℕ) → n < 0 + k → n < k
from_plus n k low = omega arith

is_next : (begun acknowledged : ℕ) → (begun ≡ acknowledged) ⊎ (begun ≡ suc acknowledged) → acknowledged < begun → begun ≡ suc acknowledged
is_next begun acknowledged is under =
    ⊎_elim (λ (none : begun ≡ acknowledged). absurd (not_same begun acknowledged none under)) (λ (one : begun ≡ suc acknowledged). one) is
  where
    not_same : (n k : ℕ) → n ≡ k → k < n → ⊥
    not_same n k same less = omega arith

-- the first machine that passes, where one does
first_found : (test : ℕ → Bool) (many a : ℕ) → a < many → test a ≡ true → (found : Option ℕ) → first_passing test 0 many ≡ found → (x : ℕ) × (x < many) × (test x ≡ true) × (or_zero found ≡ x)
first_found test many a low passes None is = absurd (both_ways (test a) (first_passing-none test 0 many is a (zero_low a) (plus_zero a many low)) passes)
first_found test many a low passes (Some x) is =
    let its = first_passing-some test 0 many x is in (x, from_plus x many its.1, its.2, refl)

module _ (st : Setting) (is : IsSetting st) (c : Cluster) (whole : IsWhole st c) where
  abbrev w : World
  w = world_of c

  abbrev due_cut : RecordIsDue st c.coordinator → IsCut st w whole.consistent.order whole.consistent.count
  due_cut due = recorded_cut st is w whole.consistent (may_record st c due)

  pub next_number : RecordIsDue st c.coordinator → c.coordinator.begun ≡ suc c.coordinator.acknowledged
  next_number due = is_next w.begun w.acknowledged whole.consistent.marks.under due.under

  -- the numbers of the snapshot that is due are the replay of its cut
  pub due_numbers : RecordIsDue st c.coordinator → HaveSameNumbers st.graph (snapshot_numbers st (snapshot_due c.coordinator)) (replay_of st (cut_of whole.consistent.count whole.consistent.order))
  due_numbers due =
      let may : MayRecord st w = may_record st c due in
      let held : HoldCut st w whole.consistent.count whole.consistent.order = recorded st is w whole.consistent may in
      let numbers : GraphState = replay_of st (cut_of whole.consistent.count whole.consistent.order) in
      let sections : ℕ → Come = λ a. come_or (c.coordinator.come a) in
      record {
        vertices = λ v within.
            let its = held.vertices v within in
            number_of_some ((sections (st.owner v)).section.vertices v) (numbers.vertex v)
            (ap (λ (s : core.Section). s.vertices v) (come_section (c.coordinator.come (st.owner v)) its.0 its.1) ∙ its.2);
        edges = λ e within.
            let its = held.edges e within in
            let test : ℕ → Bool = λ a. is_some ((sections a).section.edges e) in
            let passes : test its.0 ≡ true =
            some_test ((sections its.0).section.edges e) (numbers.edge e) (ap (λ (s : core.Section). s.edges e) (come_section (c.coordinator.come its.0) its.1 its.3) ∙ its.4) in
            let first = first_found test st.machines its.0 its.2 passes (first_passing test 0 st.machines) refl in
            let value = some_of ((sections first.0).section.edges e) first.2 in
            let saved : (sections first.0).section ≡ (w.part first.0).saved = come_section (c.coordinator.come first.0) (w.part first.0).saved (section_come st w whole.consistent.marks may first.0 first.1).2 in
            let right : numbers.edge e ≡ value.0 =
            ((due_cut due).edges_saved first.0 e value.0 first.1 within (all_known st w whole.consistent.marks may first.0 first.1) (ap (λ (s : core.Section). s.edges e) (sym saved) ∙ value.1)).0 in
            ap (λ (a : ℕ). or_zero ((sections a).section.edges e)) first.3 ∙ number_of_some ((sections first.0).section.edges e) value.0 value.1 ∙ sym right;
      }

  module _ (logged : List Logged) (records : AreGoodSnapshots st c logged) where
    pub still_recorded : (new : Cluster) → HasSame c new → AreGoodSnapshots st new logged
    still_recorded new same =
        record {
          numbered = subst (λ (high : ℕ). GoOnByNumber st.base new.coordinator.snapshots high) (sym same.1) (subst (λ (ss : List Snapshot). GoOnByNumber st.base ss c.coordinator.acknowledged) (sym same.0) records.numbered);
          good = subst (AllByRecursion (IsGoodSnapshot st logged)) (sym same.0) records.good;
        }

    pub more_recorded : (l : Logged) → c.coordinator.acknowledged < l.number → AreGoodSnapshots st c (logged ++ l ∷ [])
    more_recorded l above =
        record {
          numbered = records.numbered;
          good = still_good st logged l st.base c.coordinator.acknowledged c.coordinator.snapshots records.numbered above records.good;
        }

    -- the sections that are due have the updates that the snapshot is the first to have
    pub due_updates : AreComing st c logged → RecordIsDue st c.coordinator → HasNewUpdates st logged (snapshot_due c.coordinator)
    due_updates coming due a low =
        let here = come_entries st is c whole logged coming due a low in ap (λ (x : Come). x.entries) (come_has (c.coordinator.come a) here.0 here.1) ∙ here.2

    -- the snapshot that is due is good
    pub due_good : IsLogged st w whole.consistent logged → AreComing st c logged → RecordIsDue st c.coordinator → IsGoodSnapshot st logged (snapshot_due c.coordinator)
    due_good order coming due =
        let count : ℕ → ℕ = whole.consistent.count in
        let whole_order : List Entry = whole.consistent.order in
        let cut : cut_of count whole_order ≡ entries_to c.coordinator.begun logged = order.cut (lt_of_le_of_lt whole.consistent.marks.base due.under) in
        record {
          updates = due_updates coming due;
          valid = subst (IsValidFrom st.graph st.program st.start (all_tasks st.graph)) cut (due_cut due).valid;
          first = λ v. subst (λ (es : List Entry). Begins (updates_at v es) (updates_at v (all_entries logged))) cut
              (subst (λ (es : List Entry). Begins (updates_at v (cut_of count whole_order)) (updates_at v es)) order.order
              (drop (count v) (updates_at v whole_order), sym (ap (λ (es : List Entry). es ++ drop (count v) (updates_at v whole_order)) (cut_updates v count whole_order) ∙ take-append-drop (count v) (updates_at v whole_order))));
          numbers = subst (λ (es : List Entry). HaveSameNumbers st.graph (snapshot_numbers st (snapshot_due c.coordinator)) (replay_of st es)) cut (due_numbers due);
        }

    pub one_recorded : IsLogged st w whole.consistent logged → AreComing st c logged → RecordIsDue st c.coordinator → AreGoodSnapshots st (after_event st c Record) logged
    one_recorded order coming due =
        let last : Snapshot = snapshot_due c.coordinator in
        let next : c.coordinator.begun ≡ suc c.coordinator.acknowledged = next_number due in
        record {
          numbered = subst (λ (high : ℕ). GoOnByNumber st.base (c.coordinator.snapshots ++ last ∷ []) high) (sym next) (numbered_push st.base c.coordinator.acknowledged c.coordinator.snapshots last records.numbered next);
          good = each-append (IsGoodSnapshot st logged) c.coordinator.snapshots (last ∷ []) records.good (due_good order coming due, tt);
        }
