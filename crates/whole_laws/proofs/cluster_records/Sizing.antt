-- Each event but a recovery keeps what machines know of acknowledged snapshots and of their sections.
use Rattle.std.proofs.Common.{◌≡◌, ◌≢◌, ◌⊎◌, ℕ, zero, suc, ◌+◌, ◌<◌, ◌≤◌, nat_lt, false, Option, List, [], ◌∷◌, ◌++◌, length, refl, sym, ◌∙◌, ap, subst, ⊎_elim, append_assoc, append-nil, arith}
use Rattle.std.proofs.lemmas.Bool.{cases_eq, cases_lt, cond-true, lt-ltb}
use Rattle.gl_base.specs.declared.entries.Entry.{Entry}
use Rattle.gl_base.specs.declared.scopes.ScopeId.{ScopeId}
use Rattle.graph_core.specs.DataGraph.{size}
use Rattle.cluster_laws.specs.cluster_core.Marks.{MarksHold}
use Rattle.cluster_laws.specs.cluster_core.Messages.{Message}
use Rattle.cluster_laws.specs.cluster_core.Ranges.{set_at}
use Rattle.cluster_laws.specs.cluster_core.Settings.{IsSetting, Setting}
use Rattle.cluster_laws.specs.cluster_core.Worlds.{World}
use Rattle.cluster_laws.proofs.cluster_core.Basics.{set_at-holds, set_at-other, set_at-same}
use Rattle.cluster_laws.proofs.cluster_numbers.Quiet.{admitted-quiet, granted-quiet}
use Rattle.cluster_laws.specs.cluster_model.Calls.{Begin, Call, Committed, Count, Report, Saved, Step, Want, Wave}
use Rattle.cluster_laws.specs.cluster_model.Clusters.{Cluster, call_way}
use Rattle.cluster_laws.specs.cluster_model.Events.{Event, Admit, DeliverCall, DeliverReport, Deliver, Fail, Grant, Mark, MayDo, PutBegin, PutStep, PutWave, Record, Recover, Section, Send, SendCall, SendReport, Stop, Update, after_event, delivers_call, delivers_message, delivers_report, makes, saves, sends_call, sends_message, sends_report}
use Rattle.cluster_laws.specs.cluster_model.Machines.{Machine}
use Rattle.cluster_laws.specs.cluster_model.Rounds.{with_step}
use Rattle.cluster_laws.specs.cluster_model.Working.{admits, commits, fails, grants, hands, hands_report, makes_mark, makes_update, prompt, receives, rest_of, sections, takes_call}
use Rattle.whole_laws.specs.cluster_whole.Logged.{Logged}
use Rattle.whole_laws.specs.cluster_whole.Views.{world_of}
use Rattle.whole_laws.specs.cluster_whole.Whole.{IsNoRecovery, IsWhole}
use Rattle.whole_laws.proofs.cluster_whole.Pieces.{passed}
use Rattle.whole_laws.specs.cluster_records.Listed.{AreListed, entries_at, is_first_in}
use Rattle.whole_laws.specs.cluster_records.Wanting.{IsCounting, known_by_calls, numbers_from, sizes_from}
use Rattle.cluster_laws.proofs.cluster_cuts.MarkSteps.{newest_above}
use Rattle.whole_laws.proofs.cluster_records.Entering.{IsNoUpdate, update_logged}
use Rattle.whole_laws.proofs.cluster_records.Filtering.{in_no, in_other, other_entry}
use Rattle.whole_laws.proofs.cluster_records.Listed.{received_sent, sent_near, unmarked_unsent}
use Rattle.whole_laws.proofs.cluster_records.Outside.{sizes_kept, sizes_push}
use Rattle.whole_laws.proofs.cluster_records.Recording.{next_number}

commits-append : (xs ys : List Call) → known_by_calls (xs ++ ys) ≡ known_by_calls xs ++ known_by_calls ys
commits-append [] ys = refl
commits-append (Begin k ∷ xs) ys = commits-append xs ys
commits-append (Committed k ∷ xs) ys = ap (λ (ks : List ℕ). k ∷ ks) (commits-append xs ys)
commits-append (Wave k ∷ xs) ys = commits-append xs ys
commits-append (Step colour ∷ xs) ys = commits-append xs ys

pushed : (xs ys : List Call) (call : Call) → known_by_calls (xs ++ (ys ++ call ∷ [])) ≡ known_by_calls (xs ++ ys) ++ known_by_calls (call ∷ [])
pushed xs ys call = ap known_by_calls (sym (append_assoc xs ys (call ∷ []))) ∙ commits-append (xs ++ ys) (call ∷ [])

plus_zero : (k : ℕ) → k ≡ k + 0
plus_zero k = omega arith

plus_suc : (k n : ℕ) → suc k + n ≡ k + suc n
plus_suc k n = omega arith

numbers_push : (k many : ℕ) → numbers_from k many ++ (k + many) ∷ [] ≡ numbers_from k (suc many)
numbers_push k zero = ap (λ (n : ℕ). n ∷ []) (sym (plus_zero k))
numbers_push k (suc many) = ap (λ (ks : List ℕ). k ∷ ks) (ap (λ (n : ℕ). numbers_from (suc k) many ++ n ∷ []) (sym (plus_suc k many)) ∙ numbers_push (suc k) many)

firsts : (x y : ℕ) (xs ys : List ℕ) → x ∷ xs ≡ y ∷ ys → x ≡ y
firsts x y xs ys is = cc

rests : (x y : ℕ) (xs ys : List ℕ) → x ∷ xs ≡ y ∷ ys → xs ≡ ys
rests x y xs ys is = cc

cons_nil : (x : ℕ) (xs : List ℕ) → x ∷ xs ≡ [] → ⊥
cons_nil x xs is = cc

-- ---- one machine

-- what a machine counts by stays the same
abbrev pub CountsSame : Machine → Machine → Type 0
CountsSame old new = (new.acknowledged ≡ old.acknowledged) × (new.unsure ≡ old.unsure) × (new.part.sent ≡ old.part.sent)

module _ (a : ℕ) (m : Machine) (acknowledged : ℕ) (calls : List Call) (logged : List Logged) (was : IsCounting a m acknowledged calls logged) where
  pub same_counting : (new : Machine) (others : List Call) → CountsSame m new → known_by_calls others ≡ known_by_calls calls → IsCounting a new acknowledged others logged
  same_counting new others same commits =
      record {
        late = was.late;
        newest = was.newest ∙ ap (λ (n : ℕ). n + was.late) (sym same.0);
        commits = commits ∙ was.commits ∙ ap (λ (n : ℕ). numbers_from (suc n) was.late) (sym same.0);
        sections = was.sections;
        sent = same.2 ∙ was.sent ∙ ap (λ (n : ℕ). n + was.sections) (sym same.0);
        unsure = same.1 ∙ was.unsure ∙ ap (λ (n : ℕ). sizes_from a (suc n) was.sections logged) (sym same.0);
      }

  -- a section more is sent
  pub section_counting : (new : Machine) → new.acknowledged ≡ m.acknowledged → new.part.sent ≡ suc m.part.sent → new.unsure ≡ m.unsure ++ length (entries_at a (suc m.part.sent) logged) ∷ [] → IsCounting a new acknowledged calls logged
  section_counting new same sent unsure =
      record {
        late = was.late;
        newest = was.newest ∙ ap (λ (n : ℕ). n + was.late) (sym same);
        commits = was.commits ∙ ap (λ (n : ℕ). numbers_from (suc n) was.late) (sym same);
        sections = suc was.sections;
        sent = sent ∙ next_sent m.part.sent m.acknowledged was.sections was.sent ∙ ap (λ (n : ℕ). n + suc was.sections) (sym same);
        unsure = unsure ∙ ap (λ (ns : List ℕ). ns ++ length (entries_at a (suc m.part.sent) logged) ∷ []) was.unsure
            ∙ ap (λ (n : ℕ). sizes_from a (suc m.acknowledged) was.sections logged ++ length (entries_at a n logged) ∷ []) (next_number m.part.sent m.acknowledged was.sections was.sent)
            ∙ sym (sizes_push a (suc m.acknowledged) was.sections logged) ∙ ap (λ (n : ℕ). sizes_from a (suc n) (suc was.sections) logged) (sym same);
      }
    where
      next_sent : (sent known many : ℕ) → sent ≡ known + many → suc sent ≡ known + suc many
      next_sent sent known many is = omega arith

      next_number : (sent known many : ℕ) → sent ≡ known + many → suc sent ≡ suc known + many
      next_number sent known many is = omega arith

  -- a snapshot more is acknowledged
  pub record_counting : (begun : ℕ) (others : List Call) → begun ≡ suc acknowledged → known_by_calls others ≡ known_by_calls calls ++ begun ∷ [] → IsCounting a m begun others logged
  record_counting begun others next commits =
      record {
        late = suc was.late;
        newest = next ∙ one_more acknowledged m.acknowledged was.late was.newest;
        commits = commits ∙ ap (λ (ks : List ℕ). ks ++ begun ∷ []) was.commits ∙ ap (λ (k : ℕ). numbers_from (suc m.acknowledged) was.late ++ k ∷ []) (number begun acknowledged m.acknowledged was.late next was.newest)
            ∙ numbers_push (suc m.acknowledged) was.late;
        sections = was.sections;
        sent = was.sent;
        unsure = was.unsure;
      }
    where
      one_more : (now known late : ℕ) → now ≡ known + late → suc now ≡ known + suc late
      one_more now known late is = omega arith

      number : (begun now known late : ℕ) → begun ≡ suc now → now ≡ known + late → begun ≡ suc known + late
      number begun now known late one two = omega arith

  -- an update of a later snapshot, or of another machine
  pub update_counting : (l : Logged) → ((j : ℕ) → j ≤ m.part.sent → is_first_in a j l ≡ false) → IsCounting a m acknowledged calls (logged ++ l ∷ [])
  update_counting l none =
      record {
        late = was.late;
        newest = was.newest;
        commits = was.commits;
        sections = was.sections;
        sent = was.sent;
        unsure = was.unsure ∙ sym (sizes_kept a (suc m.acknowledged) was.sections logged l (λ j low. none j (up_to j m.part.sent m.acknowledged was.sections low was.sent)));
      }
    where
      up_to : (j sent known many : ℕ) → j < suc known + many → sent ≡ known + many → j ≤ sent
      up_to j sent known many low is = omega arith

-- the machine hears that the first snapshot that it doesn't know to be acknowledged is
commit_at : (a : ℕ) (m : Machine) (acknowledged k : ℕ) (rest : List ℕ) (others : List Call) (logged : List Logged) (late many : ℕ) → acknowledged ≡ m.acknowledged + late → k ∷ rest ≡ numbers_from (suc m.acknowledged) late → known_by_calls others ≡ rest →
    m.part.sent ≡ m.acknowledged + many → m.unsure ≡ sizes_from a (suc m.acknowledged) many logged → acknowledged ≤ m.part.sent → IsCounting a (commits k m) acknowledged others logged
commit_at a m acknowledged k rest others logged zero many newest commits now sent unsure low = absurd (cons_nil k rest commits)
commit_at a m acknowledged k rest others logged (suc late) zero newest commits now sent unsure low = absurd (none_sent acknowledged m.acknowledged late m.part.sent newest sent low)
  where
    none_sent : (now known late sent : ℕ) → now ≡ known + suc late → sent ≡ known + 0 → now ≤ sent → ⊥
    none_sent now known late sent one two three = omega arith
commit_at a m acknowledged k rest others logged (suc late) (suc many) newest commits now sent unsure low =
    let next : k ≡ suc m.acknowledged = firsts k (suc m.acknowledged) rest (numbers_from (suc (suc m.acknowledged)) late) commits in
    record {
      late = late;
      newest = newest ∙ sym (plus_suc m.acknowledged late) ∙ ap (λ (n : ℕ). n + late) (sym next);
      commits = now ∙ rests k (suc m.acknowledged) rest (numbers_from (suc (suc m.acknowledged)) late) commits ∙ ap (λ (n : ℕ). numbers_from (suc n) late) (sym next);
      sections = many;
      sent = sent ∙ sym (plus_suc m.acknowledged many) ∙ ap (λ (n : ℕ). n + many) (sym next);
      unsure = ap rest_of unsure ∙ ap (λ (n : ℕ). sizes_from a (suc n) many logged) (sym next);
    }

commit_counting : (a : ℕ) (m : Machine) (acknowledged k : ℕ) (rest : List ℕ) (calls others : List Call) (logged : List Logged) → IsCounting a m acknowledged calls logged → known_by_calls calls ≡ k ∷ rest → known_by_calls others ≡ rest → acknowledged ≤ m.part.sent → IsCounting a (commits k m) acknowledged others logged
commit_counting a m acknowledged k rest calls others logged was first now low =
    commit_at a m acknowledged k rest others logged was.late was.sections was.newest (sym first ∙ was.commits) now was.sent was.unsure low

next_of : (sent known acknowledged begun : ℕ) → acknowledged ≤ sent → sent < known → known ≡ begun → begun ≤ suc acknowledged → known ≡ suc sent
next_of sent known acknowledged begun one two three four = omega arith

up_mark : (sent known mark : ℕ) → sent ≤ known → known ≤ mark → sent ≤ mark
up_mark sent known mark one two = omega arith

below_mark : (sent known mark : ℕ) → suc mark ≡ known → sent < known → sent ≤ mark
below_mark sent known mark one two = omega arith

above_all : (j sent mark : ℕ) → j ≤ sent → sent ≤ mark → suc mark ≡ j → ⊥
above_all j sent mark one two is = omega arith

module _ (st : Setting) (is : IsSetting st) (c : Cluster) (whole : IsWhole st c) (logged : List Logged) (listed : AreListed st c logged) (counting : (a : ℕ) → a < st.machines → IsCounting a (c.machine a) c.coordinator.acknowledged (call_way c a) logged) where
  abbrev w : World
  w = world_of c

  abbrev marks : MarksHold st w
  marks = whole.consistent.marks

  abbrev AreCounting : Cluster → Type 0
  AreCounting new = (a : ℕ) → a < st.machines → IsCounting a (new.machine a) new.coordinator.acknowledged (call_way new a) logged

  -- the calls bring the same news of acknowledged snapshots, and one machine at most changes
  one : (a : ℕ) (new : Machine) (calls : ℕ → List Call) → CountsSame (c.machine a) new → ((b : ℕ) → known_by_calls (calls b) ≡ known_by_calls (call_way c b)) →
      (b : ℕ) → b < st.machines → IsCounting b (set_at c.machine a new b) w.acknowledged (calls b) logged
  one a new calls same commits b low =
      same_counting b (c.machine b) w.acknowledged (call_way c b) logged (counting b low) (set_at c.machine a new b) (calls b)
      (set_at-holds (λ (b : ℕ) (m : Machine). CountsSame (c.machine b) m) c.machine a new b same (λ off. (refl, refl, refl))) (commits b)

  still : (a : ℕ) (new : Machine) → CountsSame (c.machine a) new → (b : ℕ) → b < st.machines → IsCounting b (set_at c.machine a new b) w.acknowledged (call_way c b) logged
  still a new same = one a new (call_way c) same (λ b. refl)

  told : (call : Call) → known_by_calls (call ∷ []) ≡ [] → (b : ℕ) → b < st.machines → IsCounting b (c.machine b) w.acknowledged (c.calls b ++ (c.coordinator.out b ++ call ∷ [])) logged
  told call none b low =
      same_counting b (c.machine b) w.acknowledged (call_way c b) logged (counting b low) (c.machine b) (c.calls b ++ (c.coordinator.out b ++ call ∷ [])) (refl, refl, refl)
      (pushed (c.calls b) (c.coordinator.out b) call ∙ ap (λ (ks : List ℕ). known_by_calls (call_way c b) ++ ks) none ∙ append-nil (known_by_calls (call_way c b)))

  -- the first call is gone
  call_gone : (a : ℕ) (call : Call) (behind : List Call) → c.calls a ≡ call ∷ behind → known_by_calls (call ∷ []) ≡ [] → (b : ℕ) → known_by_calls (set_at c.calls a behind b ++ c.coordinator.out b) ≡ known_by_calls (call_way c b)
  call_gone a call behind first none b =
      set_at-holds (λ (b : ℕ) (xs : List Call). known_by_calls (xs ++ c.coordinator.out b) ≡ known_by_calls (call_way c b)) c.calls a behind b
      (sym (ap (λ (xs : List Call). known_by_calls (xs ++ c.coordinator.out a)) first ∙ commits-append (call ∷ []) (behind ++ c.coordinator.out a) ∙ ap (λ (ks : List ℕ). ks ++ known_by_calls (behind ++ c.coordinator.out a)) none))
      (λ off. refl)

  heard : (a : ℕ) (call : Call) (behind : List Call) → c.calls a ≡ call ∷ behind → AreCounting (delivers_call st c a (call ∷ behind))
  heard a (Begin k) behind first = one a (prompt st a (takes_call st a (Begin k) (c.machine a))) (λ b. set_at c.calls a behind b ++ c.coordinator.out b) (refl, refl, refl) (call_gone a (Begin k) behind first refl)
  heard a (Wave k) behind first = one a (prompt st a (takes_call st a (Wave k) (c.machine a))) (λ b. set_at c.calls a behind b ++ c.coordinator.out b) (refl, refl, refl) (call_gone a (Wave k) behind first refl)
  heard a (Step colour) behind first = one a (prompt st a (takes_call st a (Step colour) (c.machine a))) (λ b. set_at c.calls a behind b ++ c.coordinator.out b) (refl, refl, refl) (call_gone a (Step colour) behind first refl)
  heard a (Committed k) behind first = λ b.
      let m : Machine = c.machine a in
      let rest : List Call = behind ++ c.coordinator.out a in
      let others : ℕ → List Call = λ b. set_at c.calls a behind b ++ c.coordinator.out b in
      let new : Machine = prompt st a (takes_call st a (Committed k) m) in
      set_at-holds (λ (b : ℕ) (x : Machine). b < st.machines → IsCounting b x w.acknowledged (others b) logged) c.machine a new b
      (λ low.
      let here : known_by_calls (others a) ≡ known_by_calls rest = ap (λ (xs : List Call). known_by_calls (xs ++ c.coordinator.out a)) (set_at-same c.calls a behind) in
      let done : IsCounting a (commits k m) w.acknowledged (others a) logged =
      commit_counting a m w.acknowledged k (known_by_calls rest) (call_way c a) (others a) logged (counting a low) (ap (λ (xs : List Call). known_by_calls (xs ++ c.coordinator.out a)) first) here (marks.sent_low a low).0 in
      same_counting a (commits k m) w.acknowledged (others a) logged done new (others a) (refl, refl, refl) refl)
      (λ off low.
      same_counting b (c.machine b) w.acknowledged (call_way c b) logged (counting b low) (c.machine b) (others b) (refl, refl, refl)
      (ap (λ (xs : List Call). known_by_calls (xs ++ c.coordinator.out b)) (set_at-other c.calls a behind b off)))

  sectioned : (a : ℕ) → MayDo st c (Section a) → AreCounting (after_event st c (Section a))
  sectioned a may = λ b.
      let m : Machine = c.machine a in
      let new : Machine = prompt st a (sections m) in
      set_at-holds (λ (b : ℕ) (x : Machine). b < st.machines → IsCounting b x w.acknowledged (call_way c b) logged) c.machine a new b
      (λ low.
      let newest = marks.known a low in
      let next : m.part.known ≡ suc m.part.sent =
      next_of m.part.sent m.part.known w.acknowledged w.begun (marks.sent_low a low).0 may.1.unsent (known_newest a low may.1.unsent) (few_begun w.begun w.acknowledged marks.under) in
      section_counting a m w.acknowledged (call_way c a) logged (counting a low) new refl next
      (ap (λ (es : List Entry). m.unsure ++ length es ∷ [])
      ((listed a low).before ∙ cond-true (nat_lt m.part.sent m.part.known) (entries_at a m.part.known logged) [] (lt-ltb m.part.sent m.part.known may.1.unsent) ∙ ap (λ (k : ℕ). entries_at a k logged) next)))
      (λ off low. counting b low)
    where
      few_begun : (begun acknowledged : ℕ) → (begun ≡ acknowledged) ⊎ (begun ≡ suc acknowledged) → begun ≤ suc acknowledged
      few_begun begun acknowledged under = ⊎_elim (λ (none : begun ≡ acknowledged). up begun acknowledged none) (λ (one : begun ≡ suc acknowledged). at begun acknowledged one) under
        where
          up : (n k : ℕ) → n ≡ k → n ≤ suc k
          up n k is = omega arith

          at : (n k : ℕ) → n ≡ suc k → n ≤ suc k
          at n k is = omega arith

      known_newest : (a : ℕ) → a < st.machines → (w.part a).sent < (w.part a).known → (w.part a).known ≡ w.begun
      known_newest a low less = (newest_above (w.part a).sent (w.part a).known w.acknowledged w.begun marks.under (marks.sent_low a low).0 less (marks.known a low).1).0

  recorded : (begun_next : w.begun ≡ suc w.acknowledged) → AreCounting (after_event st c Record)
  recorded begun_next = λ b low.
      record_counting b (c.machine b) w.acknowledged (call_way c b) logged (counting b low) w.begun (c.calls b ++ (c.coordinator.out b ++ Committed w.begun ∷ [])) begun_next (pushed (c.calls b) (c.coordinator.out b) (Committed w.begun))

  reported : (a : ℕ) (report : Report) (behind : List Report) → AreCounting (delivers_report c a (report ∷ behind))
  reported a (Saved k section entries) behind = counting
  reported a (Count k counts) behind = counting
  reported a (Want k) behind = counting

  pub events_counting : (event : Event) → MayDo st c event → IsNoRecovery event → IsNoUpdate event → AreCounting (after_event st c event)
  events_counting (Admit a v) may other none = still a (prompt st a (admits st a v (c.machine a))) (refl, refl, (admitted-quiet st a v (w.part a)).sent)
  events_counting (Grant a x) may other none = still a (prompt st a (grants st a x (c.machine a))) (refl, refl, (granted-quiet st a x (w.part a)).sent)
  events_counting (Send p q) may other none =
      subst (λ (ms : List Message). AreCounting (sends_message c p q ms)) (sym may.2.first) (still p (hands q may.2.behind (c.machine p)) (refl, refl, refl))
  events_counting (SendCall a) may other none =
      subst (λ (calls : List Call). AreCounting (sends_call c a calls)) (sym may.1.first)
      (λ b low. same_counting b (c.machine b) w.acknowledged (call_way c b) logged (counting b low) (c.machine b)
      (call_way (sends_call c a (may.1.message ∷ may.1.behind)) b) (refl, refl, refl) (ap known_by_calls (passed c.calls c.coordinator.out a may.1.message may.1.behind may.1.first b)))
  events_counting (SendReport a) may other none =
      subst (λ (reports : List Report). AreCounting (sends_report c a reports)) (sym may.1.first) (still a (hands_report may.1.behind (c.machine a)) (refl, refl, refl))
  events_counting (Deliver p q) may other none =
      subst (λ (ms : List Message). AreCounting (delivers_message st c p q ms)) (sym may.2.first)
      (still q (prompt st q (receives st q may.2.message (c.machine q))) (refl, refl, received_sent st q may.2.message (w.part q)))
  events_counting (DeliverCall a) may other none =
      subst (λ (calls : List Call). AreCounting (delivers_call st c a calls)) (sym may.1.first) (heard a may.1.message may.1.behind may.1.first)
  events_counting (DeliverReport a) may other none =
      subst (λ (reports : List Report). AreCounting (delivers_report c a reports)) (sym may.1.first) (reported a may.1.message may.1.behind)
  events_counting (Update s) may other none = absurd (none s refl)
  events_counting (Mark s) may other none =
      subst (λ (flight : Option ℕ). AreCounting (saves st c s flight)) (sym may.1.flight) (still s.home.0 (prompt st s.home.0 (makes_mark st s.home.0 s may.1.vertex (c.machine s.home.0))) (refl, refl, refl))
  events_counting (Section a) may other none = sectioned a may
  events_counting Record may other none = recorded (next_number st is c whole may.0)
  events_counting PutBegin may other none = told (Begin (suc w.begun)) refl
  events_counting PutStep may other none = told (Step (with_step st.engine c.coordinator.rounds).colour) refl
  events_counting PutWave may other none = told (Wave c.coordinator.rounds.counting.put_out) refl
  events_counting (Fail a) may other none = still a (fails (c.machine a)) (refl, refl, refl)
  events_counting (Recover base) may other none = absurd (other base refl)
  events_counting Stop may other none = counting

  -- ---- an update

  -- machine b has sent no section of the snapshot that is the first to have it
  not_sent : (s : ScopeId) (v b : ℕ) → b < st.machines → v < size st.graph → st.owner v ≡ s.home.0 → (j : ℕ) → j ≤ (c.machine b).part.sent → is_first_in b j (update_logged st c s v) ≡ false
  not_sent s v b low within owner j up =
      let l : Logged = update_logged st c s v in
      ⊎_elim
      (λ (at : b ≡ s.home.0).
      let own : st.owner v ≡ b = owner ∙ sym at in
      let mark : ℕ = ((w.part b).datum v).mark in
      let high : (w.part b).sent ≤ mark = ⊎_elim
      (λ (less : mark < (w.part b).known). let both = unmarked_unsent st is c whole b v low within own less in below_mark (w.part b).sent (w.part b).known mark both.0 both.1)
      (λ (all : (w.part b).known ≤ mark). up_mark (w.part b).sent (w.part b).known mark (sent_near st is c whole logged listed b low).0 all)
      (cases_lt mark (w.part b).known) in
      in_no b j l (λ same. above_all j (w.part b).sent mark up high (ap (λ (x : ℕ). suc ((w.part x).datum v).mark) at ∙ same)))
      (λ (off : b ≢ s.home.0). in_other b j l (other_entry b s.home (record { 0 = v }) c.next (λ same. off (sym same))))
      (cases_eq b s.home.0)

  pub kept_counting : (s : ScopeId) (v : ℕ) → v < size st.graph → st.owner v ≡ s.home.0 → (b : ℕ) → b < st.machines → IsCounting b (c.machine b) w.acknowledged (call_way c b) (logged ++ update_logged st c s v ∷ [])
  kept_counting s v within owner b low =
      update_counting b (c.machine b) w.acknowledged (call_way c b) logged (counting b low) (update_logged st c s v) (not_sent s v b low within owner)

  pub update_counts : (s : ScopeId) (may : MayDo st c (Update s)) → st.owner may.1.vertex ≡ s.home.0 → may.1.vertex < size st.graph →
      (a : ℕ) → a < st.machines → IsCounting a ((after_event st c (Update s)).machine a) (after_event st c (Update s)).coordinator.acknowledged (call_way (after_event st c (Update s)) a) (logged ++ update_logged st c s may.1.vertex ∷ [])
  update_counts s may owner within =
      let a : ℕ = s.home.0 in
      let v : ℕ = may.1.vertex in
      let l : Logged = update_logged st c s v in
      let made : Machine = prompt st a (makes_update st a s v l.entry (c.machine a)) in
      subst (λ (flight : Option ℕ). (b : ℕ) → b < st.machines → IsCounting b ((makes st c s flight).machine b) (makes st c s flight).coordinator.acknowledged (call_way (makes st c s flight) b) (logged ++ l ∷ [])) (sym may.1.flight)
      (λ b low.
      same_counting b (c.machine b) w.acknowledged (call_way c b) (logged ++ l ∷ []) (kept_counting s v within owner b low) (set_at c.machine a made b) (call_way c b)
      (set_at-holds (λ (b : ℕ) (m : Machine). CountsSame (c.machine b) m) c.machine a made b (refl, refl, refl) (λ off. (refl, refl, refl))) refl)
