-- Each snapshot is a cut; and what a cluster begins with.
use Rattle.std.proofs.Common.{◌≡◌, ℕ, zero, suc, ◌+◌, ◌<◌, ◌≤◌, ◌^◌, ◌++◌, Bool, true, false, is_some, List, None, Option, Some, [], ◌∷◌, IsPermutation, append-nil, append_assoc, arith, ⊎_elim, if◌then◌else◌, length, refl, sym, ap, subst, ◌∙◌}
use Rattle.std.specs.List.{AllByRecursion}
use Rattle.std.specs.Prelude.{Err, IfOk, Ok, OnOk, Result, replicate, slice_index_or}
use Rattle.std.specs.declared.alloc.Global.{Global}
use Rattle.std.specs.declared.vec.Vec.{Vec}
use Rattle.std.proofs.lemmas.List.{get_or-replicate, get_or_past, length-replicate}
use Rattle.std.proofs.lemmas.Bool.{cases_lt, lt-ltb}
use Rattle.std.proofs.lemmas.List.Sorted.{IsPermutation-append_right, IsPermutation-sym, IsPermutation-trans}
use Rattle.gl_base.specs.declared.entries.Entry.{Entry}
use Rattle.gl_base.specs.declared.refusals.Refused.{Refused}
use Rattle.gl_base.specs.declared.snapshots.Record.{Record}
use Rattle.gl_base.specs.declared.snapshots.SavedPart.{SavedPart}
use Rattle.graph_core.specs.DataGraph.{size}
use Rattle.cluster_laws.specs.cluster_core.Ranges.{first_passing}
use Rattle.cluster_laws.specs.cluster_core.Recovering.{going_on}
use Rattle.cluster_laws.specs.cluster_core.Replays.{replay_of}
use Rattle.cluster_laws.proofs.cluster_core.Basics.{first_passing-some}
use Rattle.whole_laws.proofs.cluster_ending.Finding.{left_finished, no_task_left}
use Rattle.whole_laws.specs.cluster_ending.Ends.{HasFinishedOrder}
use Rattle.cluster_laws.specs.cluster_model.Events.{after_event, entries_below, entries_in_all, recovers, snapshot_numbers}
use Rattle.cluster_laws.specs.cluster_model.Leading.{RecordIsDue, Snapshot, acknowledges, first_coordinator}
use Rattle.cluster_laws.specs.cluster_model.Working.{or_zero}
use Rattle.whole_laws.proofs.cluster_records.Gathering.{all_gathered}
use Rattle.whole_laws.proofs.cluster_records.Numbering.{passing_own, replay-append, replayed_same, same_then, valid-append, valid_same}
use Rattle.whole_laws.proofs.cluster_records.Recording.{all_new, due_good, one_recorded}
use Rattle.whole_laws.specs.cluster_records.Recorded.{HaveSameNumbers, IsGoodSnapshot}
use Rattle.cluster_step.specs.clusters.Links.{link_between}
use Rattle.cluster_step.proofs.clusters.LinkLemmas.{nothing_told}
use Rattle.whole_laws.specs.cluster_whole.Logged.{entries_to, is_up_to}
use Rattle.coordinator.specs.coord_core.Coordinators.{CoordinatorView}
use Rattle.coordinator.specs.coord_core.Calls.{IsDueOf, IsFirstWith, IsRecordDueOf, IsRecordFor, MayLeadRecord}
use Rattle.coordinator.specs.declared.coord_core.leading.Due.{Due}
use Rattle.coordinator.specs.declared.coord_core.leading.Due.TheVariants as due
use Rattle.seq_run.specs.Orders.{IsValidOrder, all_tasks, replay, replay_from, tasks_after}
use Rattle.seq_run.specs.States.{GraphState, start_state}
use Rattle.coordinator.specs.snap_update.Holding.{last_of_edge}
use Rattle.cluster_step.specs.clusters.Clusters.{AreCalls, AreReports, BaseView, BeginsWith, Cluster, Engine, HaveLinks, InEachCluster, IsSavingClusterOf, IsCoordinatorOf, IsEngineOf, IsSnapSetting, Machine, Parts, Setting, StandsForSaving, StartsSaving, StoreView, messages_on}
use Rattle.cluster_step.specs.clusters.Events.{AnswersEvent}
use Rattle.cluster_step.specs.declared.clusters.events.Event.{Event}
use Rattle.cluster_step.specs.clusters.Cuts.{HasGoodBase, IsCutWith, IsSnapshotCut, RecordsCut, numbers_in, part_in, saver_of, snapshot_due}
use Rattle.coordinator.specs.machine_api.Promises.{MessageView}
use Rattle.cluster_step.proofs.clusters.Goings.{going_first}

-- ---- the first that passes one of two tests that agree

same_choice : (one other : Bool) (x y z : Option ℕ) → one ≡ other → y ≡ z → (if one then x else y) ≡ (if other then x else z)
same_choice true true x y z is same = refl
same_choice false false x y z is same = same
same_choice true false x y z is same = absurd (cc)
same_choice false true x y z is same = absurd (cc)

later : (k y : ℕ) → suc k ≤ y → k ≤ y
later k y low = omega arith

within : (k many y : ℕ) → y < suc k + many → y < k + suc many
within k many y low = omega arith

self : (k : ℕ) → k ≤ k
self k = omega arith

first : (k many : ℕ) → k < k + suc many
first k many = omega arith

first_agrees : (one other : ℕ → Bool) (k many : ℕ) → ((y : ℕ) → k ≤ y → y < k + many → one y ≡ other y) → first_passing one k many ≡ first_passing other k many
unfolding first_passing
first_agrees one other k zero agree = refl
first_agrees one other k (suc many) agree =
    same_choice (one k) (other k) (Some k) (first_passing one (suc k) many) (first_passing other (suc k) many) (agree k (self k) (first k many))
    (first_agrees one other (suc k) many (λ y low high. agree y (later k y low) (within k many y high)))

from_zero : (y many : ℕ) → y < 0 + many → y < many
from_zero y many low = omega arith

some_low : (x many : ℕ) → x < many → 0 < many
some_low x many low = omega arith

-- the first that passes is one of these, or the first of them all
found_low : (test : ℕ → Bool) (many : ℕ) → 0 < many → (found : Option ℕ) → first_passing test 0 many ≡ found → or_zero found < many
found_low test many some None is = some
found_low test many some (Some x) is = from_zero x many (first_passing-some test 0 many x is).1

-- ---- the entries of one snapshot more

entries_push : (st : Setting) (snapshots : List Snapshot) (last : Snapshot) → entries_in_all st (snapshots ++ last ∷ []) ≡ entries_in_all st snapshots ++ entries_below st.machines last
entries_push st [] last = append-nil (entries_below st.machines last)
entries_push st (snapshot ∷ snapshots) last =
    ap (λ (es : List Entry). entries_below st.machines snapshot ++ es) (entries_push st snapshots last)
    ∙ sym (append_assoc (entries_below st.machines snapshot) (entries_in_all st snapshots) (entries_below st.machines last))

-- ---- cuts

module _ {M : Type 0} (represents : Setting → ℕ → Machine → M → Type 0) (p : Parts M) (st : Setting) (c : Cluster) (setting : IsSnapSetting st) (of : IsSavingClusterOf represents st p c) where
  module _ (good : HasGoodBase st c) where
    abbrev before : GraphState
    before = replay st.graph st.program c.base.order

    first_tasks : (u : ℕ) → u < size st.graph → all_tasks st.graph u ≡ tasks_after st.graph st.program c.base.order u
    first_tasks u low = lt-ltb u (size st.graph) low ∙ sym (good.front.tasks u low)

    whole_valid : (snapshot : Snapshot) → IsGoodSnapshot st of.going.logged snapshot → IsValidOrder st.graph st.program (c.base.order ++ entries_to snapshot.number of.going.logged)
    whole_valid snapshot its =
        let cut : List Entry = entries_to snapshot.number of.going.logged in
        valid-append st.graph st.program (start_state st.graph st.program) (all_tasks st.graph) c.base.order cut good.front.valid
        (valid_same st setting.is st.start before (all_tasks st.graph) (tasks_after st.graph st.program c.base.order) cut
        (passing_own st setting.is (is_up_to snapshot.number) of.going.logged of.going.accounts.since) good.numbers first_tasks its.valid)

    whole_replayed : (snapshot : Snapshot) → IsGoodSnapshot st of.going.logged snapshot →
        HaveSameNumbers st.graph (snapshot_numbers st snapshot) (replay st.graph st.program (c.base.order ++ entries_to snapshot.number of.going.logged))
    whole_replayed snapshot its =
        let cut : List Entry = entries_to snapshot.number of.going.logged in
        subst (HaveSameNumbers st.graph (snapshot_numbers st snapshot)) (sym (replay-append st.graph st.program (start_state st.graph st.program) c.base.order cut))
        (same_then st.graph (snapshot_numbers st snapshot) (replay_of st cut) (replay_from st.graph st.program before cut) its.numbers
        (replayed_same st setting.is st.start before (is_up_to snapshot.number) of.going.logged of.going.accounts.since good.numbers))

  good_cut : (snapshot : Snapshot) → IsGoodSnapshot st of.going.logged snapshot → IsCutWith st c (entries_to snapshot.number of.going.logged) (snapshot_numbers st snapshot)
  good_cut snapshot its = record { valid = its.valid; replayed = its.numbers; whole = λ good. (whole_valid good snapshot its, whole_replayed good snapshot its) }

  all_cuts : (snapshots : List Snapshot) → AllByRecursion (IsGoodSnapshot st of.going.logged) snapshots → AllByRecursion (IsSnapshotCut st c) snapshots
  all_cuts [] good = tt
  all_cuts (snapshot ∷ snapshots) good = ((entries_to snapshot.number of.going.logged, good_cut snapshot good.0), all_cuts snapshots good.1)

  pub snapshots_are_cuts : AllByRecursion (IsSnapshotCut st c) c.coordinator.snapshots
  snapshots_are_cuts = all_cuts c.coordinator.snapshots of.going.accounts.records.good

  -- ---- a record

  module _ (snapshot : Snapshot) (made : Record) (is : IsRecordFor st snapshot made) (none : SavedPart) where
    edge_test : ℕ → ℕ → Bool
    edge_test e a = is_some ((snapshot.sections a).section.edges e)

    saver_test : ℕ → ℕ → Bool
    saver_test e a = is_some (last_of_edge (part_in none made a).edges.items e)

    same_edge : (e a : ℕ) → a < st.machines → last_of_edge (part_in none made a).edges.items e ≡ (snapshot.sections a).section.edges e
    same_edge e a low = sym ((is.parts a none low).saved.edges e)

    some_machine : (e : ℕ) → e < length st.graph.edges → 0 < st.machines
    some_machine e low =
        let fits = setting.is.graph.edges e (record { from = 0; to = 0; weight = 0 }) low in
        some_low (st.owner _) st.machines (setting.is.owner _ fits.from)

    same_saver : (e : ℕ) → saver_of st none made e ≡ or_zero (first_passing (λ a. is_some ((snapshot.sections a).section.edges e)) 0 st.machines)
    same_saver e =
        ap or_zero (first_agrees (λ a. is_some (last_of_edge (part_in none made a).edges.items e)) (λ a. is_some ((snapshot.sections a).section.edges e)) 0 st.machines
        (λ a low high. ap is_some (same_edge e a (from_zero a st.machines high))))

    pub record_numbers : HaveSameNumbers st.graph (numbers_in st none made) (snapshot_numbers st snapshot)
    record_numbers = record {
      vertices = λ v low. ap or_zero (sym ((is.parts (st.owner v) none (setting.is.owner v low)).saved.vertices v));
      edges = λ e low.
          let test : ℕ → Bool = λ a. is_some ((snapshot.sections a).section.edges e) in
          ap (λ (a : ℕ). or_zero (last_of_edge (part_in none made a).edges.items e)) (same_saver e)
          ∙ ap or_zero (same_edge e (or_zero (first_passing test 0 st.machines)) (found_low test st.machines (some_machine e low) (first_passing test 0 st.machines) refl));
    }

  cut_same : (updates : List Entry) (one other : GraphState) → HaveSameNumbers st.graph one other → IsCutWith st c updates other → IsCutWith st c updates one
  cut_same updates one other same cut = record {
    valid = cut.valid;
    replayed = same_then st.graph one other (replay_of st updates) same cut.replayed;
    whole = λ good. let its = cut.whole good in (its.0, same_then st.graph one other (replay st.graph st.program (c.base.order ++ updates)) same its.1);
  }

  pub record_cut : RecordIsDue st c.coordinator → (made : Record) → IsRecordFor st (snapshot_due c.coordinator) made → RecordsCut st c made
  record_cut due made is =
      let whole = of.going.followed.0 in
      let logged = of.going.logged in
      let account = of.going.accounts in
      let last : Snapshot = snapshot_due c.coordinator in
      let updates : List Entry = entries_to c.coordinator.begun logged in
      let earlier : List Entry = entries_in_all st c.coordinator.snapshots in
      let records = one_recorded st setting.is c whole logged account.records account.order account.sections due in
      let all : List Snapshot = (acknowledges st c.coordinator).snapshots in
      let gathered : IsPermutation (entries_in_all st all) updates =
      all_gathered st setting.is logged account.since c.coordinator.begun all records.numbered (all_new st logged all records.good)
      in
      record {
        is = is;
        updates = updates;
        brings = IsPermutation-trans (earlier ++ made.entries.items) (earlier ++ entries_below st.machines last) updates
            (IsPermutation-append_right earlier made.entries.items (entries_below st.machines last) (IsPermutation-sym (entries_below st.machines last) made.entries.items is.entries))
            (subst (λ (es : List Entry). IsPermutation es updates) (entries_push st c.coordinator.snapshots last) gathered);
        cut = λ none. cut_same updates (numbers_in st none made) (snapshot_numbers st last) (record_numbers last made is none)
            (good_cut last (due_good st setting.is c whole logged account.records account.order account.sections due));
      }

  pub finished : (answer : Due) → IsDueOf p.coordinator answer → answer ≡ due.Ended → HasFinishedOrder st c
  finished answer says ended =
      let seen = ((says.ended st c.coordinator of.coordinator).0 ended).2 in
      left_finished st setting.is c of.going.followed.0 (no_task_left st c of.going.followed.1 of.going.followed.2 seen)

-- what is recorded is a cut in each cluster
pub record_cuts : {M : Type 0} (represents : Setting → ℕ → Machine → M → Type 0) (p : Parts M) (r : Result Record Refused) → OnOk r (MayLeadRecord p.coordinator) → IfOk r (IsRecordDueOf p.coordinator) →
    IfOk r (λ made. InEachCluster represents p (λ st c. RecordsCut st c made))
record_cuts represents p (Ok made) may is = λ st c setting of. record_cut represents p st c setting of (may st c of.coordinator).0 made (is st c.coordinator of.coordinator)
record_cuts represents p (Err refused) may is = tt

-- ---- where it begins

pub all_false : (failed : Vec Bool Global) (n : ℕ) → failed.items ≡ replicate n false → (a : ℕ) → slice_index_or failed.items a false ≡ false
all_false failed n is a = ap (λ (flags : List Bool). slice_index_or flags a false) is ∙ ⊎_elim
    (λ (low : a < n). get_or-replicate n a false false low)
    (λ (high : n ≤ a). get_or_past (replicate n false) a false (subst (λ (k : ℕ). k ≤ a) (sym (length-replicate n false)) high))
    (cases_lt a n)

pub so_many : (failed : Vec Bool Global) (n : ℕ) → failed.items ≡ replicate n false → length failed.items ≡ n
so_many failed n is = ap length is ∙ length-replicate n false

pub began_setting : (st : Setting) → IsSnapSetting st → (base : BaseView) → IsSnapSetting (going_on st base.numbers base.number)
began_setting st setting base = record { is = record { graph = setting.is.graph; owner = setting.is.owner }; coloured = setting.coloured }

none_calls : (messages : List MessageView) → messages ≡ [] → AreCalls messages []
none_calls messages none = subst (λ (ms : List MessageView). AreCalls ms []) (sym none) tt

none_reports : (messages : List MessageView) → messages ≡ [] → AreReports messages []
none_reports messages none = subst (λ (ms : List MessageView). AreReports ms []) (sym none) tt

-- the coordinator that an attempt of this setting begins with
first_led : (st : Setting) (base : BaseView) (before : Cluster) (machines : ℕ) (engine : Engine) (view : CoordinatorView) (store : Option StoreView) → IsFirstWith machines engine store view → st.machines ≡ machines → IsEngineOf engine st.engine →
    BeginsWith store st base before → IsCoordinatorOf (going_on st base.numbers base.number) view (first_coordinator (going_on st base.numbers base.number) base.number (recovers st base before).coordinator.store_end)
first_led st base before machines engine view None leads many led plain = leads (going_on st base.numbers base.number) base.number (recovers st base before).coordinator.store_end many led plain
first_led st base before machines engine view (Some store) leads many led is =
    let now : Setting = going_on st base.numbers base.number in
    subst (λ (k : ℕ). IsCoordinatorOf now view (first_coordinator now k (recovers st base before).coordinator.store_end)) (sym is.newest)
    (subst (λ (n : ℕ). IsCoordinatorOf now view (first_coordinator now store.newest n)) (sym is.store_end) (leads now many led is.stored is.vertices is.edges))

module _ {M : Type 0} (represents : Setting → ℕ → Machine → M → Type 0) (p : Parts M) (engine : Engine) (store : Option StoreView) (next left : ℕ)
    (have : HaveLinks p.links (suc (length p.machines.items))) (none : (a b : ℕ) → (link_between p.links a b).messages ≡ []) (few : next + left < 2 ^ 64) (small : length p.machines.items < 65535)
    (leads : IsFirstWith (length p.machines.items) engine store p.coordinator) (awake : (a : ℕ) → slice_index_or p.failed.items a false ≡ false) (flags : length p.failed.items ≡ length p.machines.items) (next_is : p.next ≡ next) (left_is : p.left ≡ left) where
  pub begun_first : (runs : p.stopped ≡ false) (st : Setting) (base : BaseView) (before : Cluster) → StartsSaving represents p.machines.items engine store next left st base before →
      IsSavingClusterOf represents (going_on st base.numbers base.number) p (recovers st base before)
  begun_first runs st base before start =
      record {
        many = start.many;
        small = subst (λ (n : ℕ). n < 65535) start.many small;
        links = subst (λ (n : ℕ). HaveLinks p.links (suc n)) start.many have;
        machines = start.each;
        flags = flags ∙ start.many;
        runs = λ a low. sym (awake a);
        told = λ a b low_a low_b. sym (nothing_told p.links none a b);
        calls = λ a low. none_calls (messages_on p.links st.machines a) (none st.machines a);
        reports = λ a low. none_reports (messages_on p.links a st.machines) (none a st.machines);
        coordinator = first_led st base before (length p.machines.items) engine p.coordinator store leads (sym start.many) start.led start.begins;
        next = start.first ∙ sym next_is;
        left = start.tickets ∙ sym left_is;
        few = subst (λ (n : ℕ). n + p.left < 2 ^ 64) (sym next_is) (subst (λ (n : ℕ). next + n < 2 ^ 64) (sym left_is) few);
        stopped = sym runs;
        going = going_first st start.setting base before;
      }

-- ---- after an event

module _ {M : Type 0} (represents : Setting → ℕ → Machine → M → Type 0) (old : Parts M) (some : StandsForSaving represents old) (what : Event) where
  pub some_after : (r : Result (Unit {0}) Refused) (new : Parts M) → AnswersEvent represents old what r new → StandsForSaving represents new
  some_after (Ok u) new answers =
      let has = answers.made some.0 some.1 some.2 some.3 in
      (some.0, after_event some.0 some.1 has.event, some.2, has.after)
  some_after (Err e) new answers = (some.0, some.1, some.2, answers.unchanged some.0 some.1 some.2 some.3)

  pub many_after : (r : Result (Unit {0}) Refused) (new : Parts M) → AnswersEvent represents old what r new → length new.machines.items ≡ length old.machines.items
  many_after (Ok u) new answers =
      let has = answers.made some.0 some.1 some.2 some.3 in
      has.after.many ∙ sym some.3.many
  many_after (Err e) new answers =
      let same = answers.unchanged some.0 some.1 some.2 some.3 in
      same.many ∙ sym some.3.many
