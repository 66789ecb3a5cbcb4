-- What an event makes of the code stands for what it makes of the cluster of the law.
use Rattle.std.proofs.Common.{◌≡◌, ◌≢◌, ℕ, suc, pred, ◌+◌, ◌<◌, ◌^◌, ◌++◌, Bool, true, false, inl, inr, Option, None, Some, List, [], ◌∷◌, get_or, length, map, set, refl, sym, ap, arith, subst, ◌∙◌, get_or-set_other, get_or-set_same, length-set}
use Rattle.std.specs.Prelude.{slice_index_or}
use Rattle.std.specs.Vec.{with_item}
use Rattle.std.specs.declared.alloc.Global.{Global}
use Rattle.std.specs.declared.vec.Vec.{Vec}
use Rattle.std.proofs.lemmas.Bool.{cases_eq}
use Rattle.std.proofs.lemmas.List.{map-append}
use Rattle.gl_base.specs.declared.scopes.ScopeId.{ScopeId}
use Rattle.cluster_laws.specs.cluster_core.Actions.{MayMark, MayUpdate}
use Rattle.cluster_laws.specs.cluster_core.Messages as law_messages
use Rattle.cluster_laws.specs.cluster_core.Ranges.{set_at}
use Rattle.cluster_laws.proofs.cluster_core.Basics.{set_at-other, set_at-same}
use Rattle.cluster_laws.specs.cluster_model.Calls.{Call, Report}
use Rattle.cluster_laws.specs.cluster_model.Clusters.{with_calls, with_coordinator, with_machine, with_messages, with_reports}
use Rattle.cluster_laws.specs.cluster_model.Events as law
use Rattle.cluster_laws.specs.cluster_model.Leading.{Coordinator, hands_call, takes_report}
use Rattle.cluster_laws.specs.cluster_model.Working.{fails, hands, hands_report, prompt, receives, takes_call}
use Rattle.cluster_step.specs.clusters.Inner.Writing.{HasLinkBetween}
use Rattle.cluster_step.specs.clusters.Links.{LinkView, message_read}
use Rattle.cluster_step.proofs.clusters.LinkLemmas.{has_link}
use Rattle.whole_laws.specs.cluster_whole.Whole.{IsNoRecovery}
use Rattle.coordinator.specs.coord_core.Calls.{IsHandedOver}
use Rattle.coordinator.specs.coord_core.Coordinators.{CoordinatorView, IsCoordinatorOf}
use Rattle.coordinator.proofs.coord_core.LeadLemmas.{calls_push}
use Rattle.cluster_step.specs.clusters.Clusters.{AreCalls, AreReports, Cluster, HaveLinks, IsSavingClusterOf, IsGoing, IsSnapSetting, Machine, Parts, Setting, messages_on, told_on}
use Rattle.coordinator.specs.machine_api.Promises.{Admit, Deed, Grant, IsReporting, SendsItsFirst, Mark, MayBeDone, MessageView, Section, Update, does, message_view, view_of}
use Rattle.coordinator.specs.machine_api.Deeds.{marks_centre, updates_centre}
use Rattle.cluster_step.proofs.clusters.Goings.{going_after}
use Rattle.cluster_step.proofs.clusters.Lines.{ChangesLine, line_kept, reports_push, told_set, told_still}
use Rattle.wire.specs.declared.wire_msgs.messages.Message.{Message}

less_not : (x y : ℕ) → x < y → x ≢ y
less_not x y less same = omega arith

more_not : (x y : ℕ) → x < y → y ≢ x
more_not x y less same = omega arith

under : (x y : ℕ) → x < y → x < suc y
under x y less = omega arith

self_under : (x : ℕ) → x < suc x
self_under x = omega arith

-- ---- what a machine does is an event of the law

-- the event that a deed of machine a is
abbrev pub event_of : ℕ → Deed → law.Event
event_of a (Admit v) = law.Admit a v
event_of a (Grant x) = law.Grant a x
event_of a (Update s ticket) = law.Update s
event_of a (Mark s) = law.Mark s
event_of a Section = law.Section a

pub stays : (a : ℕ) (d : Deed) → IsNoRecovery (event_of a d)
stays a (Admit v) = λ base is. cc
stays a (Grant x) = λ base is. cc
stays a (Update s ticket) = λ base is. cc
stays a (Mark s) = λ base is. cc
stays a Section = λ base is. cc

marks_run : (st : Setting) (a : ℕ) (s : ScopeId) (o : Option ℕ) (m : Machine) → (prompt st a (marks_centre st a s o m)).failed ≡ m.failed
marks_run st a s None m = refl
marks_run st a s (Some v) m = refl

updates_run : (st : Setting) (a : ℕ) (s : ScopeId) (ticket : ℕ) (o : Option ℕ) (m : Machine) → (prompt st a (updates_centre st a s ticket o m)).failed ≡ m.failed
updates_run st a s ticket None m = refl
updates_run st a s ticket (Some v) m = refl

pub still_runs : (st : Setting) (a : ℕ) (d : Deed) (m : Machine) → (does st a d m).failed ≡ m.failed
still_runs st a (Admit v) m = refl
still_runs st a (Grant x) m = refl
still_runs st a (Update s ticket) m = updates_run st a s ticket (m.part.flight s) m
still_runs st a (Mark s) m = marks_run st a s (m.part.flight s) m
still_runs st a Section m = refl

-- the tickets behind a deed of this cluster
abbrev pub next_behind : Deed → ℕ → ℕ
next_behind (Admit v) n = n
next_behind (Grant x) n = n
next_behind (Update s ticket) n = suc n
next_behind (Mark s) n = n
next_behind Section n = n

abbrev pub left_behind : Deed → ℕ → ℕ
left_behind (Admit v) n = n
left_behind (Grant x) n = n
left_behind (Update s ticket) n = pred n
left_behind (Mark s) n = n
left_behind Section n = n

-- an update needs a ticket that is left, and draws the next one
abbrev pub IsInTurn : Cluster → Deed → Type 0
IsInTurn c (Update s ticket) = (0 < c.left) × (ticket ≡ c.next)
IsInTurn c (Admit v) = Unit {0}
IsInTurn c (Grant x) = Unit {0}
IsInTurn c (Mark s) = Unit {0}
IsInTurn c Section = Unit {0}

-- the scope is of this home
abbrev pub IsHomeOf : ℕ → Deed → Type 0
IsHomeOf a (Update s ticket) = s.home.0 ≡ a
IsHomeOf a (Mark s) = s.home.0 ≡ a
IsHomeOf a (Admit v) = Unit {0}
IsHomeOf a (Grant x) = Unit {0}
IsHomeOf a Section = Unit {0}

saves_is : (st : Setting) (c : Cluster) (s : ScopeId) (o : Option ℕ) (v : ℕ) → o ≡ Some v → law.saves st c s o ≡ with_machine c s.home.0 (prompt st s.home.0 (marks_centre st s.home.0 s o (c.machine s.home.0)))
saves_is st c s None v is = absurd (cc)
saves_is st c s (Some w) v is = refl

makes_is : (st : Setting) (c : Cluster) (s : ScopeId) (o : Option ℕ) (v : ℕ) → o ≡ Some v →
    law.makes st c s o ≡ law.draws_ticket (with_machine c s.home.0 (prompt st s.home.0 (updates_centre st s.home.0 s c.next o (c.machine s.home.0))))
makes_is st c s None v is = absurd (cc)
makes_is st c s (Some w) v is = refl

module _ (st : Setting) (c : Cluster) (a : ℕ) (awake : law.IsAwake st c a) where
  pub law_may : (d : Deed) → IsInTurn c d → MayBeDone st a (c.machine a) d → law.MayDo st c (event_of a d)
  law_may (Admit v) turn may = (awake, may)
  law_may (Grant x) turn may = (awake, may)
  law_may (Update s ticket) turn may =
      let home : a ≡ s.home.0 = sym may.0 in
      subst (λ (k : ℕ). law.IsAwake st c k × MayUpdate s (c.machine k).part c.left) home
      (awake, record { vertex = may.1.vertex; flight = may.1.flight; ready = may.1.ready; not_pending = may.1.not_pending; task = may.1.task; ticket = turn.0 })
  law_may (Mark s) turn may = subst (λ (k : ℕ). law.IsAwake st c k × MayMark s (c.machine k).part) (sym may.0) (awake, may.1)
  law_may Section turn may = (awake, may)

  -- and the other way, where the scope is of this home

  one_ticket : 0 < 1
  one_ticket = omega arith

  pub own_may : (d : Deed) → IsHomeOf a d → law.MayDo st c (event_of a d) → MayBeDone st a (c.machine a) d
  own_may (Admit v) home may = may.1
  own_may (Grant x) home may = may.1
  own_may (Update s ticket) home may =
      let here : MayUpdate s (c.machine a).part c.left = subst (λ (k : ℕ). MayUpdate s (c.machine k).part c.left) home may.1 in
      (home, record { vertex = here.vertex; flight = here.flight; ready = here.ready; not_pending = here.not_pending; task = here.task; ticket = one_ticket })
  own_may (Mark s) home may = (home, subst (λ (k : ℕ). MayMark s (c.machine k).part) home may.1)
  own_may Section home may = may.1

  pub does_so : (d : Deed) → IsInTurn c d → MayBeDone st a (c.machine a) d →
      law.after_event st c (event_of a d) ≡ record (with_machine c a (does st a d (c.machine a))) { next = next_behind d c.next; left = left_behind d c.left }
  does_so (Admit v) turn may = refl
  does_so (Grant x) turn may = refl
  does_so (Update s ticket) turn may =
      let flight : (c.machine s.home.0).part.flight s ≡ Some may.1.vertex = subst (λ (k : ℕ). (c.machine k).part.flight s ≡ Some may.1.vertex) (sym may.0) may.1.flight in
      let at_home : law.after_event st c (law.Update s) ≡ law.draws_ticket (with_machine c s.home.0 (prompt st s.home.0 (updates_centre st s.home.0 s c.next ((c.machine s.home.0).part.flight s) (c.machine s.home.0)))) =
      makes_is st c s ((c.machine s.home.0).part.flight s) may.1.vertex flight
      in
      at_home
      ∙ ap (λ (k : ℕ). law.draws_ticket (with_machine c k (prompt st k (updates_centre st k s c.next ((c.machine k).part.flight s) (c.machine k))))) may.0
      ∙ ap (λ (n : ℕ). law.draws_ticket (with_machine c a (prompt st a (updates_centre st a s n ((c.machine a).part.flight s) (c.machine a))))) (sym turn.1)
  does_so (Mark s) turn may =
      let flight : (c.machine s.home.0).part.flight s ≡ Some may.1.vertex = subst (λ (k : ℕ). (c.machine k).part.flight s ≡ Some may.1.vertex) (sym may.0) may.1.flight in
      saves_is st c s ((c.machine s.home.0).part.flight s) may.1.vertex flight
      ∙ ap (λ (k : ℕ). with_machine c k (prompt st k (marks_centre st k s ((c.machine k).part.flight s) (c.machine k)))) may.0
  does_so Section turn may = refl

-- ---- the code

module _ {M : Type 0} (represents : Setting → ℕ → Machine → M → Type 0) (st : Setting) (setting : IsSnapSetting st) (old : Parts M) (c : Cluster) (of : IsSavingClusterOf represents st old c) where
  pub is_awake : (a : ℕ) → a < st.machines → slice_index_or old.failed.items a false ≡ false → law.IsAwake st c a
  is_awake a low awake = record { machine = low; runs = of.runs a low ∙ awake }

  pub machine_here : (a : ℕ) → a < st.machines → (x : M) → x ≡ get_or old.machines.items a x → represents st a (c.machine a) x
  machine_here a low x is = subst (represents st a (c.machine a)) (sym is) (of.machines a x low)

  inside : (a : ℕ) → a < st.machines → a < length old.machines.items
  inside a low = subst (λ (n : ℕ). a < n) (sym of.many) low

  pub link_is : (p q : ℕ) → p < suc st.machines → q < suc st.machines → HasLinkBetween old.links p q
  link_is p q low_p low_q = has_link old.links (suc st.machines) p q of.links low_p low_q

  kept : (event : law.Event) → law.MayOccur st c event → IsNoRecovery event → IsGoing st (law.after_event st c event)
  kept event may other = going_after st setting c of.going event may other

  -- machine a is another, and stands for another
  module _ (a : ℕ) (low : a < st.machines) (y : M) (m : Machine) (here : represents st a m y) (runs : m.failed ≡ (c.machine a).failed) where
    pub many_set : length (with_item old.machines a y).items ≡ st.machines
    many_set = length-set old.machines.items a y ∙ of.many

    pub machines_set : (b : ℕ) (d : M) → b < st.machines → represents st b (set_at c.machine a m b) (slice_index_or (with_item old.machines a y).items b d)
    machines_set b d low_b = elim (cases_eq b a) [
      | inl same ↦
          subst (λ (k : ℕ). represents st k (set_at c.machine a m k) (slice_index_or (set old.machines.items a y) k d)) (sym same)
          (subst (represents st a (set_at c.machine a m a)) (sym (get_or-set_same old.machines.items a y d (inside a low)))
          (subst (λ (n : Machine). represents st a n y) (sym (set_at-same c.machine a m)) here))
      | inr other ↦
          subst (represents st b (set_at c.machine a m b)) (sym (get_or-set_other old.machines.items a b y d other))
          (subst (λ (n : Machine). represents st b n (slice_index_or old.machines.items b d)) (sym (set_at-other c.machine a m b other)) (of.machines b d low_b))
    ]

    pub runs_set : (b : ℕ) → b < st.machines → (set_at c.machine a m b).failed ≡ slice_index_or old.failed.items b false
    runs_set b low_b = elim (cases_eq b a) [
      | inl same ↦
          subst (λ (k : ℕ). (set_at c.machine a m k).failed ≡ slice_index_or old.failed.items k false) (sym same)
          (ap (λ (n : Machine). n.failed) (set_at-same c.machine a m) ∙ runs ∙ of.runs a low)
      | inr other ↦ ap (λ (n : Machine). n.failed) (set_at-other c.machine a m b other) ∙ of.runs b low_b
    ]

    -- it did something by itself
    pub deed_made : (event : law.Event) → law.MayOccur st c event → IsNoRecovery event → (next left n k : ℕ) → n ≡ next → k ≡ left → next + left < 2 ^ 64 →
        law.after_event st c event ≡ record (with_machine c a m) { next = n; left = k } →
        IsSavingClusterOf represents st (record old { machines = with_item old.machines a y; next = next; left = left }) (law.after_event st c event)
    deed_made event may other next left n k next_is left_is few does_it =
        subst (IsSavingClusterOf represents st (record old { machines = with_item old.machines a y; next = next; left = left })) (sym does_it) (record {
          many = many_set;
          small = of.small;
          links = of.links;
          machines = machines_set;
          flags = of.flags;
          runs = runs_set;
          told = of.told;
          calls = of.calls;
          reports = of.reports;
          coordinator = of.coordinator;
          next = next_is;
          left = left_is;
          few = few;
          stopped = of.stopped;
          going = subst (IsGoing st) does_it (kept event may other);
        })

  -- ---- nothing has happened

  pub same_made : (a : ℕ) (low : a < st.machines) (y : M) → represents st a (c.machine a) y → (links : List (List LinkView)) → HaveLinks links (suc st.machines) →
      ((i j : ℕ) → messages_on links i j ≡ messages_on old.links i j) → IsSavingClusterOf represents st (record old { machines = with_item old.machines a y; links = links }) c
  same_made a low y here links have same = record {
    many = many_set a low y (c.machine a) here refl;
    small = of.small;
    links = have;
    machines = λ b d low_b. elim (cases_eq b a) [
      | inl is ↦
          subst (λ (k : ℕ). represents st k (c.machine k) (slice_index_or (set old.machines.items a y) k d)) (sym is)
          (subst (represents st a (c.machine a)) (sym (get_or-set_same old.machines.items a y d (inside a low))) here)
      | inr other ↦ subst (represents st b (c.machine b)) (sym (get_or-set_other old.machines.items a b y d other)) (of.machines b d low_b)
    ];
    flags = of.flags;
    runs = of.runs;
    told = λ i j low_i low_j. of.told i j low_i low_j ∙ ap (map message_read) (sym (same i j));
    calls = λ b low_b. subst (λ (messages : List MessageView). AreCalls messages (c.calls b)) (sym (same st.machines b)) (of.calls b low_b);
    reports = λ b low_b. subst (λ (messages : List MessageView). AreReports messages (c.reports b)) (sym (same b st.machines)) (of.reports b low_b);
    coordinator = of.coordinator;
    next = of.next;
    left = of.left;
    few = of.few;
    stopped = of.stopped;
    going = of.going;
  }

  pub same_lines : (links : List (List LinkView)) → HaveLinks links (suc st.machines) → ((i j : ℕ) → messages_on links i j ≡ messages_on old.links i j) →
      (coordinator : CoordinatorView) → IsCoordinatorOf st coordinator c.coordinator → IsSavingClusterOf represents st (record old { links = links; coordinator = coordinator }) c
  same_lines links have same coordinator leads = record {
    many = of.many;
    small = of.small;
    links = have;
    machines = of.machines;
    flags = of.flags;
    runs = of.runs;
    told = λ i j low_i low_j. of.told i j low_i low_j ∙ ap (map message_read) (sym (same i j));
    calls = λ b low_b. subst (λ (messages : List MessageView). AreCalls messages (c.calls b)) (sym (same st.machines b)) (of.calls b low_b);
    reports = λ b low_b. subst (λ (messages : List MessageView). AreReports messages (c.reports b)) (sym (same b st.machines)) (of.reports b low_b);
    coordinator = leads;
    next = of.next;
    left = of.left;
    few = of.few;
    stopped = of.stopped;
    going = of.going;
  }

  -- ---- the coordinator

  pub led_made : (event : law.Event) → law.MayOccur st c event → IsNoRecovery event → (coordinator : CoordinatorView) (leading : Coordinator) → IsCoordinatorOf st coordinator leading →
      law.after_event st c event ≡ with_coordinator c leading → IsSavingClusterOf represents st (record old { coordinator = coordinator }) (law.after_event st c event)
  led_made event may other coordinator leading leads does_it =
      subst (IsSavingClusterOf represents st (record old { coordinator = coordinator })) (sym does_it) (record {
        many = of.many;
        small = of.small;
        links = of.links;
        machines = of.machines;
        flags = of.flags;
        runs = of.runs;
        told = of.told;
        calls = of.calls;
        reports = of.reports;
        coordinator = leads;
        next = of.next;
        left = of.left;
        few = of.few;
        stopped = of.stopped;
        going = subst (IsGoing st) does_it (kept event may other);
      })

  -- a machine fails
  pub fail_made : (a : ℕ) (low : a < st.machines) → law.MayOccur st c (law.Fail a) → (y : M) → represents st a (fails (c.machine a)) y → (flags : Vec Bool Global) → flags.items ≡ set old.failed.items a true →
      IsSavingClusterOf represents st (record old { machines = with_item old.machines a y; failed = flags }) (law.after_event st c (law.Fail a))
  fail_made a low may y here flags are = record {
    many = length-set old.machines.items a y ∙ of.many;
    small = of.small;
    links = of.links;
    machines = λ b d low_b. elim (cases_eq b a) [
      | inl same ↦
          subst (λ (k : ℕ). represents st k (set_at c.machine a (fails (c.machine a)) k) (slice_index_or (set old.machines.items a y) k d)) (sym same)
          (subst (represents st a (set_at c.machine a (fails (c.machine a)) a)) (sym (get_or-set_same old.machines.items a y d (inside a low)))
          (subst (λ (n : Machine). represents st a n y) (sym (set_at-same c.machine a (fails (c.machine a)))) here))
      | inr other ↦
          subst (represents st b (set_at c.machine a (fails (c.machine a)) b)) (sym (get_or-set_other old.machines.items a b y d other))
          (subst (λ (n : Machine). represents st b n (slice_index_or old.machines.items b d)) (sym (set_at-other c.machine a (fails (c.machine a)) b other)) (of.machines b d low_b))
    ];
    flags = ap length are ∙ length-set old.failed.items a true ∙ of.flags;
    runs = λ b low_b. elim (cases_eq b a) [
      | inl same ↦
          subst (λ (k : ℕ). (set_at c.machine a (fails (c.machine a)) k).failed ≡ slice_index_or flags.items k false) (sym same)
          (ap (λ (n : Machine). n.failed) (set_at-same c.machine a (fails (c.machine a)))
          ∙ sym (ap (λ (f : List Bool). get_or f a false) are ∙ get_or-set_same old.failed.items a true false (subst (λ (n : ℕ). a < n) (sym of.flags) low)))
      | inr other ↦
          ap (λ (n : Machine). n.failed) (set_at-other c.machine a (fails (c.machine a)) b other) ∙ of.runs b low_b
          ∙ sym (ap (λ (f : List Bool). get_or f b false) are ∙ get_or-set_other old.failed.items a b true false other)
    ];
    told = of.told;
    calls = of.calls;
    reports = of.reports;
    coordinator = of.coordinator;
    next = of.next;
    left = of.left;
    few = of.few;
    stopped = of.stopped;
    going = kept (law.Fail a) may (λ base is. cc);
  }

  pub stop_made : law.MayOccur st c law.Stop → IsSavingClusterOf represents st (record old { stopped = true }) (law.after_event st c law.Stop)
  stop_made may = record {
    many = of.many;
    small = of.small;
    links = of.links;
    machines = of.machines;
    flags = of.flags;
    runs = of.runs;
    told = of.told;
    calls = of.calls;
    reports = of.reports;
    coordinator = of.coordinator;
    next = of.next;
    left = of.left;
    few = of.few;
    stopped = refl;
    going = kept law.Stop may (λ base is. cc);
  }

  -- ---- between machines

  module _ (p q : ℕ) (low_p : p < st.machines) (low_q : q < st.machines) (links : List (List LinkView)) (have : HaveLinks links (suc st.machines)) where
    other_calls : {messages : List MessageView} → ChangesLine old.links links p q messages → (b : ℕ) → b < st.machines → AreCalls (messages_on links st.machines b) (c.calls b)
    other_calls changes b low_b =
        subst (λ (messages : List MessageView). AreCalls messages (c.calls b)) (sym (line_kept changes st.machines b (inl (more_not p st.machines low_p)))) (of.calls b low_b)

    other_reports : {messages : List MessageView} → ChangesLine old.links links p q messages → (b : ℕ) → b < st.machines → AreReports (messages_on links b st.machines) (c.reports b)
    other_reports changes b low_b =
        subst (λ (messages : List MessageView). AreReports messages (c.reports b)) (sym (line_kept changes b st.machines (inr (more_not q st.machines low_q)))) (of.reports b low_b)

    -- a message goes from machine p onto the link to machine q
    pub send_made : law.MayOccur st c (law.Send p q) → (x : M) (message : Message) (sending : SendsItsFirst represents q message x st p (c.machine p)) →
        ChangesLine old.links links p q (messages_on old.links p q ++ message_view message ∷ []) →
        IsSavingClusterOf represents st (record old { machines = with_item old.machines p x; links = links }) (law.after_event st c (law.Send p q))
    send_made may x message sending changes =
        let m : Machine = hands q sending.behind (c.machine p) in
        let told : law_messages.Message = view_of message in
        let after : Cluster = with_messages (with_machine c p m) p q (c.link p q ++ told ∷ []) in
        let does_it : law.after_event st c (law.Send p q) ≡ after = ap (law.sends_message c p q) sending.first in
        let read : map message_read (messages_on old.links p q ++ message_view message ∷ []) ≡ c.link p q ++ told ∷ [] =
        map-append message_read (messages_on old.links p q) (message_view message ∷ []) ∙ ap (λ (ms : List law_messages.Message). ms ++ told ∷ []) (sym (of.told p q low_p low_q))
        in
        subst (IsSavingClusterOf represents st (record old { machines = with_item old.machines p x; links = links })) (sym does_it) (record {
          many = many_set p low_p x m sending.after refl;
          small = of.small;
          links = have;
          machines = machines_set p low_p x m sending.after refl;
          flags = of.flags;
          runs = runs_set p low_p x m sending.after refl;
          told = told_set changes c.link (c.link p q ++ told ∷ []) st.machines read of.told;
          calls = other_calls changes;
          reports = other_reports changes;
          coordinator = of.coordinator;
          next = of.next;
          left = of.left;
          few = of.few;
          stopped = of.stopped;
          going = subst (IsGoing st) does_it (kept (law.Send p q) may (λ base is. cc));
        })

    -- the first message on the link from machine p comes to machine q
    pub deliver_made : law.MayOccur st c (law.Deliver p q) → (x : M) (told : law_messages.Message) (behind : List law_messages.Message) → c.link p q ≡ told ∷ behind →
        represents st q (prompt st q (receives st q told (c.machine q))) x → (messages : List MessageView) → map message_read messages ≡ behind → ChangesLine old.links links p q messages →
        IsSavingClusterOf represents st (record old { machines = with_item old.machines q x; links = links }) (law.after_event st c (law.Deliver p q))
    deliver_made may x told behind first here messages read changes =
        let m : Machine = prompt st q (receives st q told (c.machine q)) in
        let after : Cluster = with_messages (with_machine c q m) p q behind in
        let does_it : law.after_event st c (law.Deliver p q) ≡ after = ap (law.delivers_message st c p q) first in
        subst (IsSavingClusterOf represents st (record old { machines = with_item old.machines q x; links = links })) (sym does_it) (record {
          many = many_set q low_q x m here refl;
          small = of.small;
          links = have;
          machines = machines_set q low_q x m here refl;
          flags = of.flags;
          runs = runs_set q low_q x m here refl;
          told = told_set changes c.link behind st.machines read of.told;
          calls = other_calls changes;
          reports = other_reports changes;
          coordinator = of.coordinator;
          next = of.next;
          left = of.left;
          few = of.few;
          stopped = of.stopped;
          going = subst (IsGoing st) does_it (kept (law.Deliver p q) may (λ base is. cc));
        })

  -- ---- between the coordinator and machine a

  module _ (a : ℕ) (low : a < st.machines) (links : List (List LinkView)) (have : HaveLinks links (suc st.machines)) where
    call_told : {messages : List MessageView} → ChangesLine old.links links st.machines a messages → (i j : ℕ) → i < st.machines → j < st.machines → c.link i j ≡ told_on links i j
    call_told changes = told_still changes c.link st.machines (λ i j low_i low_j. inl (less_not i st.machines low_i)) of.told

    call_reports : {messages : List MessageView} → ChangesLine old.links links st.machines a messages → (b : ℕ) → b < st.machines → AreReports (messages_on links b st.machines) (c.reports b)
    call_reports changes b low_b =
        subst (λ (messages : List MessageView). AreReports messages (c.reports b)) (sym (line_kept changes b st.machines (inl (less_not b st.machines low_b)))) (of.reports b low_b)

    call_calls : {messages : List MessageView} → ChangesLine old.links links st.machines a messages → (calls : List Call) → AreCalls messages calls →
        (b : ℕ) → b < st.machines → AreCalls (messages_on links st.machines b) (set_at c.calls a calls b)
    call_calls {messages} changes calls are b low_b = elim (cases_eq b a) [
      | inl same ↦
          subst (λ (k : ℕ). AreCalls (messages_on links st.machines k) (set_at c.calls a calls k)) (sym same)
          (subst (λ (ms : List MessageView). AreCalls ms (set_at c.calls a calls a)) (sym changes.here) (subst (AreCalls messages) (sym (set_at-same c.calls a calls)) are))
      | inr other ↦
          subst (λ (messages : List MessageView). AreCalls messages (set_at c.calls a calls b)) (sym (changes.column b other))
          (subst (AreCalls (messages_on old.links st.machines b)) (sym (set_at-other c.calls a calls b other)) (of.calls b low_b))
    ]

    report_told : {messages : List MessageView} → ChangesLine old.links links a st.machines messages → (i j : ℕ) → i < st.machines → j < st.machines → c.link i j ≡ told_on links i j
    report_told changes = told_still changes c.link st.machines (λ i j low_i low_j. inr (less_not j st.machines low_j)) of.told

    report_calls : {messages : List MessageView} → ChangesLine old.links links a st.machines messages → (b : ℕ) → b < st.machines → AreCalls (messages_on links st.machines b) (c.calls b)
    report_calls changes b low_b =
        subst (λ (messages : List MessageView). AreCalls messages (c.calls b)) (sym (line_kept changes st.machines b (inl (more_not a st.machines low)))) (of.calls b low_b)

    report_reports : {messages : List MessageView} → ChangesLine old.links links a st.machines messages → (reports : List Report) → AreReports messages reports →
        (b : ℕ) → b < st.machines → AreReports (messages_on links b st.machines) (set_at c.reports a reports b)
    report_reports {messages} changes reports are b low_b = elim (cases_eq b a) [
      | inl same ↦
          subst (λ (k : ℕ). AreReports (messages_on links k st.machines) (set_at c.reports a reports k)) (sym same)
          (subst (λ (ms : List MessageView). AreReports ms (set_at c.reports a reports a)) (sym changes.here) (subst (AreReports messages) (sym (set_at-same c.reports a reports)) are))
      | inr other ↦
          subst (λ (messages : List MessageView). AreReports messages (set_at c.reports a reports b)) (sym (changes.row b st.machines other))
          (subst (AreReports (messages_on old.links b st.machines)) (sym (set_at-other c.reports a reports b other)) (of.reports b low_b))
    ]

    -- a call goes onto the link
    pub send_call_made : law.MayOccur st c (law.SendCall a) → (coordinator : CoordinatorView) (message : MessageView) → IsHandedOver st coordinator c.coordinator a message →
        ChangesLine old.links links st.machines a (messages_on old.links st.machines a ++ message ∷ []) →
        IsSavingClusterOf represents st (record old { links = links; coordinator = coordinator }) (law.after_event st c (law.SendCall a))
    send_call_made may coordinator message over changes =
        let after : Cluster = with_calls (with_coordinator c (hands_call a over.behind c.coordinator)) a (c.calls a ++ over.call ∷ []) in
        let does_it : law.after_event st c (law.SendCall a) ≡ after = ap (law.sends_call c a) over.first in
        subst (IsSavingClusterOf represents st (record old { links = links; coordinator = coordinator })) (sym does_it) (record {
          many = of.many;
          small = of.small;
          links = have;
          machines = of.machines;
          flags = of.flags;
          runs = of.runs;
          told = call_told changes;
          calls = call_calls changes (c.calls a ++ over.call ∷ []) (calls_push (messages_on old.links st.machines a) (c.calls a) message over.call (of.calls a low) over.told);
          reports = call_reports changes;
          coordinator = over.rest;
          next = of.next;
          left = of.left;
          few = of.few;
          stopped = of.stopped;
          going = subst (IsGoing st) does_it (kept (law.SendCall a) may (λ base is. cc));
        })

    -- a call comes
    pub deliver_call_made : law.MayOccur st c (law.DeliverCall a) → (x : M) (call : Call) (behind : List Call) → c.calls a ≡ call ∷ behind →
        represents st a (prompt st a (takes_call st a call (c.machine a))) x → (messages : List MessageView) → AreCalls messages behind → ChangesLine old.links links st.machines a messages →
        (prompt st a (takes_call st a call (c.machine a))).failed ≡ (c.machine a).failed →
        IsSavingClusterOf represents st (record old { machines = with_item old.machines a x; links = links }) (law.after_event st c (law.DeliverCall a))
    deliver_call_made may x call behind first here messages are changes runs =
        let m : Machine = prompt st a (takes_call st a call (c.machine a)) in
        let after : Cluster = with_calls (with_machine c a m) a behind in
        let does_it : law.after_event st c (law.DeliverCall a) ≡ after = ap (law.delivers_call st c a) first in
        subst (IsSavingClusterOf represents st (record old { machines = with_item old.machines a x; links = links })) (sym does_it) (record {
          many = many_set a low x m here runs;
          small = of.small;
          links = have;
          machines = machines_set a low x m here runs;
          flags = of.flags;
          runs = runs_set a low x m here runs;
          told = call_told changes;
          calls = call_calls changes behind are;
          reports = call_reports changes;
          coordinator = of.coordinator;
          next = of.next;
          left = of.left;
          few = of.few;
          stopped = of.stopped;
          going = subst (IsGoing st) does_it (kept (law.DeliverCall a) may (λ base is. cc));
        })

    -- a report goes onto the link
    pub send_report_made : law.MayOccur st c (law.SendReport a) → (x : M) (message : Message) (reporting : IsReporting represents message x st a (c.machine a)) →
        ChangesLine old.links links a st.machines (messages_on old.links a st.machines ++ message_view message ∷ []) →
        IsSavingClusterOf represents st (record old { machines = with_item old.machines a x; links = links }) (law.after_event st c (law.SendReport a))
    send_report_made may x message reporting changes =
        let m : Machine = hands_report reporting.behind (c.machine a) in
        let after : Cluster = with_reports (with_machine c a m) a (c.reports a ++ reporting.report ∷ []) in
        let does_it : law.after_event st c (law.SendReport a) ≡ after = ap (law.sends_report c a) reporting.first in
        subst (IsSavingClusterOf represents st (record old { machines = with_item old.machines a x; links = links })) (sym does_it) (record {
          many = many_set a low x m reporting.after refl;
          small = of.small;
          links = have;
          machines = machines_set a low x m reporting.after refl;
          flags = of.flags;
          runs = runs_set a low x m reporting.after refl;
          told = report_told changes;
          calls = report_calls changes;
          reports = report_reports changes (c.reports a ++ reporting.report ∷ [])
              (reports_push (messages_on old.links a st.machines) (c.reports a) (message_view message) reporting.report (of.reports a low) reporting.told);
          coordinator = of.coordinator;
          next = of.next;
          left = of.left;
          few = of.few;
          stopped = of.stopped;
          going = subst (IsGoing st) does_it (kept (law.SendReport a) may (λ base is. cc));
        })

    -- a report comes
    pub deliver_report_made : law.MayOccur st c (law.DeliverReport a) → (coordinator : CoordinatorView) (report : Report) (behind : List Report) → c.reports a ≡ report ∷ behind →
        IsCoordinatorOf st coordinator (takes_report a report c.coordinator) →
        (messages : List MessageView) → AreReports messages behind → ChangesLine old.links links a st.machines messages →
        IsSavingClusterOf represents st (record old { links = links; coordinator = coordinator }) (law.after_event st c (law.DeliverReport a))
    deliver_report_made may coordinator report behind first leads messages are changes =
        let after : Cluster = with_reports (with_coordinator c (takes_report a report c.coordinator)) a behind in
        let does_it : law.after_event st c (law.DeliverReport a) ≡ after = ap (law.delivers_report c a) first in
        subst (IsSavingClusterOf represents st (record old { links = links; coordinator = coordinator })) (sym does_it) (record {
          many = of.many;
          small = of.small;
          links = have;
          machines = of.machines;
          flags = of.flags;
          runs = of.runs;
          told = report_told changes;
          calls = report_calls changes;
          reports = report_reports changes behind are;
          coordinator = leads;
          next = of.next;
          left = of.left;
          few = of.few;
          stopped = of.stopped;
          going = subst (IsGoing st) does_it (kept (law.DeliverReport a) may (λ base is. cc));
        })
