-- The parts of a board that is closed stand for a later cluster of the same attempt.
use Rattle.std.proofs.Common.{List, [], ap, arith, get_or, length, map, refl, subst, suc, sym, zero, ◌++◌, ◌+◌, ◌<◌, ◌^◌, ◌∙◌, ◌∷◌, ◌≡◌, ℕ}
use Rattle.std.proofs.lemmas.List.{length-map}
use Rattle.std.specs.Prelude.{slice_index_or}
use mathlib.Core.Option.{some, some-injective, some-ne-none}
use lib.ListN.{get_elem?}
use Rattle.atomic_table.proofs.Lists.{at_map}
use Rattle.call_laws.proofs.whole_calls.Leading.{behind_since}
use Rattle.call_laws.proofs.whole_calls.WorkedPair.{trace_append, follow_append}
use Rattle.call_laws.specs.whole_calls.Following.{FollowJob}
use Rattle.call_laws.specs.whole_calls.Opened.{IsTraceOfCall}
use Rattle.cluster_laws.specs.cluster_model.Events as law
use Rattle.cluster_step.proofs.clusters.Making.{machine_here}
use Rattle.cluster_step.proofs.trace.Going.{behind_append, ends_at, setting_now}
use Rattle.cluster_step.specs.clusters.Clusters.{AreCalls, AreReports, IsCoordinatorOf, messages_on}
use Rattle.cluster_step.specs.clusters.Inner.Writing.{HaveLinks}
use Rattle.cluster_step.specs.clusters.Links.{message_read}
use Rattle.cluster_step.specs.trace.Traces.{TraceGoesOn, first_cluster, first_setting, newest_setting}
use Rattle.coordinator.specs.coord_core.Coordinators.{CoordinatorView}
use Rattle.coordinator.specs.machine_api.Promises.{MessageView}
use Rattle.link_tables.specs.Rule.{Ended}
use Rattle.whole_laws.proofs.cluster_ending.Traces.{setting_same}
use Rattle.whole_laws.specs.cluster_whole.Whole.{setting_behind}
use Rattle.wire_board.proofs.Closing.{stood_so}
use Rattle.wire_board.proofs.Goings.{done_stays, passing_others}
use Rattle.wire_board.proofs.Leads.{lead_is}
use Rattle.wire_board.specs.Closings.{AreAllGathered, ArePutTogether, TraceView, gathered}
use Rattle.wire_board.specs.Going.{ArePassing, Cluster, GoesTo, IsSavingClusterOf, IsSnapSetting, Machine, Parts, Setting}
use Rattle.wire_board.specs.Led.{HoldParts, HasBeenLed, IsMachineAt, Lead, Leading, LinkView, Node, Seated, Standing, StandsOwing, link_between, number_of}
use Rattle.wire_board.specs.Openings.{AreOpening, standing_parts}
use Rattle.wire_board.specs.Standings.{Member, at_rest}

pub in_range : {A : Type 0} (l : List A) (i : ℕ) → i < length l → (a : A) × (get_elem? l i ≡ some a)
in_range [] i h = absurd (omega arith)
in_range (x ∷ xs) zero h = (x, refl)
in_range (x ∷ xs) (suc i) h = in_range xs i (omega arith)

read_there : {A : Type 0} (l : List A) (i : ℕ) (a d : A) → get_elem? l i ≡ some a → get_or l i d ≡ a
read_there [] i a d at = absurd (some-ne-none a (sym at))
read_there (x ∷ xs) zero a d at = some-injective x a at
read_there (x ∷ xs) (suc i) a d at = read_there xs i a d at

passing_setting : (events : List law.Event) → ArePassing events → (st : Setting) → setting_behind st events ≡ st
passing_setting [] all st = refl
passing_setting (e ∷ events) all st = ap (λ (s : Setting). setting_behind s events) (setting_same st e all.0.1) ∙ passing_setting events all.1 st

-- ---- the parts stand for the cluster to which the board has been led

module _ {M : Type 0} (represents : Setting → ℕ → Machine → M → Type 0) (n : ℕ) (now : Parts (Standing M)) (parts : List (Seated M)) (links : List LinkView) (next left : ℕ) (h : HoldParts n now parts links next left)
    (lead : Leading) (members : List (Member M)) (all : AreAllGathered n lead members) (are : (i : ℕ) (x : Seated M) → get_elem? (gathered lead members) i ≡ some x → get_elem? parts (number_of x) ≡ some x)
    (q : Parts M) (to : ArePutTogether n lead members links next left q) where
  same_line : (i j : ℕ) → i < suc n → j < suc n → link_between now.links i j ≡ link_between q.links i j
  same_line i j low_i low_j = some-injective _ _ (sym (h.lines i j low_i low_j) ∙ to.lines i j low_i low_j)

  pub closes : (st : Setting) → IsSnapSetting st → (c : Cluster) → IsSavingClusterOf (StandsOwing represents) st now c → IsSavingClusterOf represents st q c
  closes st setting c of = record {
    many = ap length to.machines ∙ length-map members (λ (y : Member M). y.machine) ∙ all.many ∙ n_is;
    small = of.small;
    links = subst (λ (k : ℕ). HaveLinks q.links (suc k)) n_is to.have;
    machines = machine;
    flags = to.flags ∙ n_is;
    runs = λ a low. of.runs a low ∙ h.awake a ∙ sym (to.awake a);
    told = λ a b low_a low_b. of.told a b low_a low_b ∙ ap (λ (l : LinkView). map message_read l.messages) (same_line a b (under a (back a low_a)) (under b (back b low_b)));
    calls = λ a low.
        subst (λ (ms : List MessageView). AreCalls ms (c.calls a))
        (ap (λ (k : ℕ). messages_on now.links k a) (sym n_is) ∙ ap (λ (l : LinkView). l.messages) (same_line n a (self_under n) (under a (back a low))) ∙ ap (λ (k : ℕ). messages_on q.links k a) n_is) (of.calls a low);
    reports = λ a low.
        subst (λ (ms : List MessageView). AreReports ms (c.reports a))
        (ap (λ (k : ℕ). messages_on now.links a k) (sym n_is) ∙ ap (λ (l : LinkView). l.messages) (same_line a n (under a (back a low)) (self_under n)) ∙ ap (λ (k : ℕ). messages_on q.links a k) n_is) (of.reports a low);
    coordinator = subst (λ (k : CoordinatorView). IsCoordinatorOf st k c.coordinator) (led ∙ sym to.coordinator) of.coordinator;
    next = of.next ∙ h.next_is ∙ sym to.next_is;
    left = of.left ∙ h.left_is ∙ sym to.left_is;
    few = subst (λ (k : ℕ). k < 2 ^ 64) (λ i. (h.next_is ∙ sym to.next_is) i + (h.left_is ∙ sym to.left_is) i) of.few;
    stopped = of.stopped ∙ h.runs ∙ sym to.runs;
    going = of.going;
  }
    where
      n_is : n ≡ st.machines
      n_is = sym h.many ∙ of.many

      back : (a : ℕ) → a < st.machines → a < n
      back a low = subst (λ (k : ℕ). a < k) (sym n_is) low

      under : (a : ℕ) → a < n → a < suc n
      under a low = omega arith

      self_under : (a : ℕ) → a < suc a
      self_under a = omega arith

      led : now.coordinator ≡ lead.coordinator
      led = (lead_is n now parts links next left h lead.number lead (are 0 (Lead lead) refl)).1

      machine : (a : ℕ) (d : M) → a < st.machines → represents st a (c.machine a) (slice_index_or q.machines.items a d)
      machine a d low =
          let found = in_range members a (subst (λ (k : ℕ). a < k) (sym all.many) (back a low)) in
          let y : Member M = found.0 in
          let at_a : get_elem? parts y.number ≡ some (Node (at_rest y)) = are (suc a) (Node (at_rest y)) (at_map (λ (z : Member M). Node (at_rest z)) members a y found.1) in
          let there : get_elem? parts a ≡ some (Node (at_rest y)) = subst (λ (k : ℕ). get_elem? parts k ≡ some (Node (at_rest y))) (all.numbers a y found.1) at_a in
          let is : IsMachineAt n now a (Node (at_rest y)) = h.machines a (Node (at_rest y)) (back a low) there in
          let standing : StandsOwing represents st a (c.machine a) (at_rest y) = machine_here (StandsOwing represents) st setting now c of a low (at_rest y) is.2 in
          let here : represents st a (c.machine a) y.machine = subst (λ (m : Machine). represents st a m y.machine) (sym standing.done) standing.here in
          let read : slice_index_or q.machines.items a d ≡ y.machine =
          ap (λ (l : List M). get_or l a d) to.machines ∙ read_there (map (λ (z : Member M). z.machine) members) a y.machine d (at_map (λ (z : Member M). z.machine) members a y found.1)
          in
          subst (represents st a (c.machine a)) (sym read) here

-- What threads have done between a board that was made of a cluster and its closing is a stretch of the same attempt, in which no snapshot is
-- acknowledged.
pub threads_go : {M : Type 0} (represents : Setting → ℕ → Machine → M → Type 0) (v : TraceView M) (n : ℕ) (first : List LinkView) (lead : Leading) (members : List (Member M)) (links : List LinkView) (next left : ℕ) (q : Parts M)
    → AreOpening n v.now first → AreAllGathered n lead members → Ended number_of (HasBeenLed represents v.failures v.done (standing_parts n v.now) n) (gathered lead members) links next left
    → ArePutTogether n lead members links next left q → TraceGoesOn represents v (record v { now = q })
threads_go {M} represents v n first lead members links next left q opening all ended to st o events c is =
    let now : Setting = newest_setting st o events in
    let snaps : IsSnapSetting now = setting_now st o events is.setting in
    let stood = stood_so represents v.failures v.done n v.now first opening now c is.code in
    let goes : GoesTo (StandsOwing represents) v.failures v.done ended.led.now now c = ended.led.goes now c snaps stood in
    let later : List law.Event = events ++ goes.events in
    let still : newest_setting st o later ≡ now = behind_append events goes.events (first_setting st o) ∙ passing_setting goes.events goes.passing now in
    let machines : now.machines ≡ st.machines = ap (λ (s : Setting). s.machines) (behind_since events (first_setting st o)) in
    let follows : FollowJob now v.failures c goes.events = goes.follows (λ a low. is.done a (subst (λ (k : ℕ). a < k) machines low)) in
    let trace : IsTraceOfCall st v.failures o.kept o.resumed o.base o.first later goes.later =
    record {
      is = is.trace.is;
      coloured = is.trace.coloured;
      opened = is.trace.opened;
      trace = trace_append events goes.events (first_setting st o) (first_cluster st o) c goes.later is.trace.trace goes.trace;
      follows = follow_append v.failures events goes.events (first_setting st o) (first_cluster st o) is.trace.follows
          (subst (λ (x : Cluster). FollowJob now v.failures x goes.events) (ends_at events (first_setting st o) (first_cluster st o) c is.trace.trace) follows);
    }
    in (
      goes.events,
      goes.later,
      goes.passing,
      record {
        setting = is.setting;
        trace = trace;
        code = subst (λ (s : Setting). IsSavingClusterOf represents s q goes.later) (sym still)
            (closes represents n ended.led.now ended.parts links next left ended.led.held lead members all ended.are q to now snaps goes.later goes.code);
        done = λ a low. done_stays goes.events (passing_others goes.events goes.passing) now c goes.later goes.trace a ∙ is.done a low;
      },
    )
