-- What goes between a machine and the coordinator, and what the coordinator does by itself: one event at a time.
use Rattle.std.proofs.Common.{List, [], ap, arith, false, length, refl, subst, suc, sym, ◌++◌, ◌<◌, ◌∙◌, ◌∷◌, ◌≡◌, ℕ}
use Rattle.std.specs.Prelude.{Some, slice_index_or}
use Rattle.std.specs.Vec.{with_item}
use Rattle.cluster_laws.specs.cluster_model.Calls.{Begin, Call, Committed, Step, Wave}
use Rattle.cluster_laws.specs.cluster_model.Clusters.{with_coordinator}
use Rattle.cluster_laws.specs.cluster_model.Events as law
use Rattle.cluster_laws.specs.cluster_model.Leading.{Coordinator}
use Rattle.cluster_laws.specs.cluster_model.Working.{prompt, takes_call}
use Rattle.coordinator.proofs.coord_core.LeadLemmas.{FirstCall, first_call}
use Rattle.coordinator.specs.coord_core.Calls.{HasHandedOver, HasTakenReport, IsHandedOver, MayLead, StaysCoordinator}
use Rattle.coordinator.specs.coord_core.Coordinators.{CoordinatorView, IsCoordinatorOf}
use Rattle.cluster_step.proofs.clusters.LinkLemmas.{has_link}
use Rattle.cluster_step.proofs.clusters.Lines.{ChangesLine, FirstReport, first_report, line_same}
use Rattle.cluster_step.proofs.clusters.Making.{deliver_call_made, deliver_report_made, led_made, machine_here, same_lines, same_made, send_call_made, send_report_made}
use Rattle.cluster_step.specs.clusters.Clusters.{AreCalls, AreReports, messages_on}
use Rattle.cluster_step.specs.clusters.Inner.Writing.{with_link_between}
use Rattle.cluster_step.specs.clusters.Links.{LinkView, link_between}
use Rattle.cluster_step.specs.trace.Traces.{IsPassing}
use Rattle.coordinator.specs.machine_api.Promises.{HasHeard, IsReporting, MessageView, OfEach, StandsStill, message_view}
use Rattle.call_laws.specs.whole_calls.Following.{FollowsJob}
use Rattle.wire_board.proofs.Putting.{have_put, line_put}
use Rattle.wire_board.specs.Freeing.{IsFree}
use Rattle.wire_board.specs.Going.{Cluster, CountsAre, FailureAt, GoesOn, GoesTo, IsSavingClusterOf, IsSnapSetting, Machine, Parts, Setting}
use Rattle.wire_board.specs.Standings.{Member, Standing, StandsOwing, at_rest}
use Rattle.wire.specs.declared.wire_msgs.messages.Message.{Message}

under : (x n : ℕ) → x < n → x < suc n
under x n less = omega arith

self_under : (x : ℕ) → x < suc x
self_under x = omega arith

-- In this cluster an event may happen that follows the job, and it leads to one for which the new parts stand.
pub record Happens {X : Type 0} (represents : Setting → ℕ → Machine → X → Type 0) (failures : List FailureAt) (done : List ℕ) (new : Parts X) (st : Setting) (c : Cluster) : Type 0 where
  pub event : law.Event
  pub may : law.MayOccur st c event
  pub passes : IsPassing event
  pub follows : CountsAre done st c → FollowsJob st failures c event
  pub after : IsSavingClusterOf represents st new (law.after_event st c event)

pub happens : {X : Type 0} (represents : Setting → ℕ → Machine → X → Type 0) (failures : List FailureAt) (done : List ℕ) (new : Parts X) (st : Setting) (c : Cluster)
    → Happens represents failures done new st c → GoesTo represents failures done new st c
happens represents failures done new st c has =
    record { events = has.event ∷ []; passing = (has.passes, tt); later = law.after_event st c has.event; trace = (has.may, refl); follows = λ counts. (has.follows counts, tt); code = has.after }

heard_runs : (st : Setting) (a : ℕ) (call : Call) (m : Machine) → (prompt st a (takes_call st a call m)).failed ≡ m.failed
heard_runs st a (Begin k) m = refl
heard_runs st a (Committed k) m = refl
heard_runs st a (Wave k) m = refl
heard_runs st a (Step colour) m = refl

-- ---- a machine and the coordinator, whose links are the last ones

module _ {M : Type 0} (represents : Setting → ℕ → Machine → M → Type 0) (failures : List FailureAt) (done : List ℕ) (v : Parts (Standing M)) (n : ℕ) (many : length v.machines.items ≡ n)
    (a : ℕ) (low : a < n) (awake : slice_index_or v.failed.items a false ≡ false) (going_on : v.stopped ≡ false) (y z : Member M) (read : at_rest y ≡ slice_index_or v.machines.items a (at_rest y)) where
  module _ (st : Setting) (c : Cluster) (setting : IsSnapSetting st) (of : IsSavingClusterOf (StandsOwing represents) st v c) where
    n_is : n ≡ st.machines
    n_is = sym many ∙ of.many

    low_now : a < st.machines
    low_now = subst (λ (k : ℕ). a < k) n_is low

    runs : c.stopped ≡ false
    runs = of.stopped ∙ going_on

    awake_now : law.IsAwake st c a
    awake_now = record { machine = low_now; runs = of.runs a low_now ∙ awake }

    here : represents st a (c.machine a) y.machine
    here =
        let standing : StandsOwing represents st a (c.machine a) (at_rest y) = machine_here (StandsOwing represents) st setting v c of a low_now (at_rest y) read in
        subst (λ (m : Machine). represents st a m y.machine) (sym standing.done) standing.here

  -- nothing has happened, but that there is other room on a link
  pub still_goes : (i j : ℕ) → i < suc n → j < suc n → (l : LinkView) → l.messages ≡ (link_between v.links i j).messages → StandsStill represents y.machine z.machine
      → GoesOn (StandsOwing represents) failures done v (record v { machines = with_item v.machines a (at_rest z); links = with_link_between v.links i j l })
  still_goes i j low_i low_j l same still st c setting of =
      let low_i_now : i < suc st.machines = subst (λ (k : ℕ). i < suc k) (n_is st c setting of) low_i in
      let low_j_now : j < suc st.machines = subst (λ (k : ℕ). j < suc k) (n_is st c setting of) low_j in
      let link = has_link v.links (suc st.machines) i j of.links low_i_now low_j_now in
      record {
        events = [];
        passing = tt;
        later = c;
        trace = refl;
        follows = λ counts. tt;
        code = same_made (StandsOwing represents) st setting v c of a (low_now st c setting of) (at_rest z)
            (record { before = c.machine a; here = still st a (c.machine a) setting (here st c setting of); done = refl })
            (with_link_between v.links i j l) (have_put v.links i j link l (suc st.machines) of.links) (line_same (line_put v.links i j link l) same);
      }

  -- it hears the first call
  pub call_heard_goes : (message : Message) (l : LinkView) → (link_between v.links n a).messages ≡ message_view message ∷ l.messages → HasHeard represents y.machine message z.machine → IsFree represents failures done y.machine a
      → GoesOn (StandsOwing represents) failures done v (record v { machines = with_item v.machines a (at_rest z); links = with_link_between v.links n a l })
  call_heard_goes message l were has free st c setting of =
      let is : n ≡ st.machines = n_is st c setting of in
      let low_st : a < st.machines = low_now st c setting of in
      let messages : messages_on v.links st.machines a ≡ message_view message ∷ l.messages = ap (λ (k : ℕ). messages_on v.links k a) (sym is) ∙ were in
      let first : FirstCall (message_view message) l.messages (c.calls a) =
      first_call (message_view message) l.messages (c.calls a) (subst (λ (ms : List MessageView). AreCalls ms (c.calls a)) messages (of.calls a low_st))
      in
      let may : law.MayOccur st c (law.DeliverCall a) = (runs st c setting of, (awake_now st c setting of, record { message = first.call; behind = first.behind; first = first.first })) in
      let m : Machine = prompt st a (takes_call st a first.call (c.machine a)) in
      let heard : represents st a m z.machine =
      has st c a first.call (record { setting = setting; going = of.going; machine = low_st; here = here st c setting of; told = first.told; behind = first.behind; first = first.first })
      in
      let link = has_link v.links (suc st.machines) st.machines a of.links (self_under st.machines) (under a st.machines low_st) in
      happens (StandsOwing represents) failures done _ st c (record {
        event = law.DeliverCall a;
        may = may;
        passes = (λ is. cc, λ base is. cc);
        follows = λ counts. free st (c.machine a) setting (here st c setting of) (counts a low_st);
        after = subst (λ (k : ℕ). IsSavingClusterOf (StandsOwing represents) st (record v { machines = with_item v.machines a (at_rest z); links = with_link_between v.links k a l }) (law.after_event st c (law.DeliverCall a))) (sym is)
            (deliver_call_made (StandsOwing represents) st setting v c of a low_st (with_link_between v.links st.machines a l) (have_put v.links st.machines a link l (suc st.machines) of.links) may (at_rest z) first.call
            first.behind first.first (record { before = m; here = heard; done = refl }) l.messages first.rest (line_put v.links st.machines a link l) (heard_runs st a first.call (c.machine a)));
      })

  -- it tells its first report
  pub report_told_goes : (message : Message) (l : LinkView) → l.messages ≡ (link_between v.links a n).messages ++ message_view message ∷ [] → OfEach represents y.machine (IsReporting represents message z.machine)
      → GoesOn (StandsOwing represents) failures done v (record v { machines = with_item v.machines a (at_rest z); links = with_link_between v.links a n l })
  report_told_goes message l are has st c setting of =
      let is : n ≡ st.machines = n_is st c setting of in
      let low_st : a < st.machines = low_now st c setting of in
      let one : IsReporting represents message z.machine st a (c.machine a) = has st a (c.machine a) setting (here st c setting of) in
      let reporting : IsReporting (StandsOwing represents) message (at_rest z) st a (c.machine a) =
      record { report = one.report; behind = one.behind; first = one.first; told = one.told; after = record { before = _; here = one.after; done = refl } }
      in
      let may : law.MayOccur st c (law.SendReport a) = (runs st c setting of, (awake_now st c setting of, record { message = one.report; behind = one.behind; first = one.first })) in
      let link = has_link v.links (suc st.machines) a st.machines of.links (under a st.machines low_st) (self_under st.machines) in
      let messages : l.messages ≡ messages_on v.links a st.machines ++ message_view message ∷ [] = are ∙ ap (λ (k : ℕ). messages_on v.links a k ++ message_view message ∷ []) is in
      happens (StandsOwing represents) failures done _ st c (record {
        event = law.SendReport a;
        may = may;
        passes = (λ is. cc, λ base is. cc);
        follows = λ counts. tt;
        after = subst (λ (k : ℕ). IsSavingClusterOf (StandsOwing represents) st (record v { machines = with_item v.machines a (at_rest z); links = with_link_between v.links a k l }) (law.after_event st c (law.SendReport a))) (sym is)
            (send_report_made (StandsOwing represents) st setting v c of a low_st (with_link_between v.links a st.machines l) (have_put v.links a st.machines link l (suc st.machines) of.links) may (at_rest z) message reporting
            (subst (ChangesLine v.links (with_link_between v.links a st.machines l) a st.machines) messages (line_put v.links a st.machines link l)));
      })

-- ---- the coordinator

module _ {M : Type 0} (represents : Setting → ℕ → Machine → M → Type 0) (failures : List FailureAt) (done : List ℕ) (v : Parts (Standing M)) (going_on : v.stopped ≡ false) (next : CoordinatorView) where
  -- it does something by itself
  module _ (e : law.Event) (passes : IsPassing e) (follows : (st : Setting) (c : Cluster) → FollowsJob st failures c e) (leads : Setting → Coordinator → Coordinator)
      (effect : (st : Setting) (c : Cluster) → law.after_event st c e ≡ with_coordinator c (leads st c.coordinator)) where
    pub led_goes : MayLead e v.coordinator → ((st : Setting) (k : Coordinator) → IsCoordinatorOf st v.coordinator k → IsCoordinatorOf st next (leads st k))
        → GoesOn (StandsOwing represents) failures done v (record v { coordinator = next })
    led_goes may has st c setting of =
        let may_now : law.MayOccur st c e = (of.stopped ∙ going_on, may st c of.coordinator) in
        happens (StandsOwing represents) failures done (record v { coordinator = next }) st c (record {
          event = e;
          may = may_now;
          passes = passes;
          follows = λ counts. follows st c;
          after = led_made (StandsOwing represents) st setting v c of e may_now passes.1 next (leads st c.coordinator) (has st c.coordinator of.coordinator) (effect st c);
        })

  -- it is what it was, with other room on a link
  pub stays_led_goes : (n : ℕ) → length v.machines.items ≡ n → (i j : ℕ) → i < suc n → j < suc n → (l : LinkView) → l.messages ≡ (link_between v.links i j).messages → StaysCoordinator v.coordinator next
      → GoesOn (StandsOwing represents) failures done v (record v { links = with_link_between v.links i j l; coordinator = next })
  stays_led_goes n many i j low_i low_j l same stays st c setting of =
      let is : n ≡ st.machines = sym many ∙ of.many in
      let link = has_link v.links (suc st.machines) i j of.links (subst (λ (k : ℕ). i < suc k) is low_i) (subst (λ (k : ℕ). j < suc k) is low_j) in
      record {
        events = [];
        passing = tt;
        later = c;
        trace = refl;
        follows = λ counts. tt;
        code = same_lines (StandsOwing represents) st setting v c of (with_link_between v.links i j l) (have_put v.links i j link l (suc st.machines) of.links) (line_same (line_put v.links i j link l) same) next
            (stays st c.coordinator of.coordinator);
      }

  pub stays_goes : StaysCoordinator v.coordinator next → GoesOn (StandsOwing represents) failures done v (record v { coordinator = next })
  stays_goes stays st c setting of = record {
    events = [];
    passing = tt;
    later = c;
    trace = refl;
    follows = λ counts. tt;
    code = same_lines (StandsOwing represents) st setting v c of v.links of.links (λ i j. refl) next (stays st c.coordinator of.coordinator);
  }

  module _ (n : ℕ) (many : length v.machines.items ≡ n) (a : ℕ) (low : a < n) (l : LinkView) where
    -- it tells machine a its first call
    pub call_told_goes : (message : Message) → l.messages ≡ (link_between v.links n a).messages ++ message_view message ∷ [] → HasHandedOver v.coordinator next a (Some message)
        → GoesOn (StandsOwing represents) failures done v (record v { links = with_link_between v.links n a l; coordinator = next })
    call_told_goes message are handed st c setting of =
        let is : n ≡ st.machines = sym many ∙ of.many in
        let low_st : a < st.machines = subst (λ (k : ℕ). a < k) is low in
        let over : IsHandedOver st next c.coordinator a (message_view message) = handed st c.coordinator of.coordinator in
        let may : law.MayOccur st c (law.SendCall a) = (of.stopped ∙ going_on, (low_st, record { message = over.call; behind = over.behind; first = over.first })) in
        let link = has_link v.links (suc st.machines) st.machines a of.links (self_under st.machines) (under a st.machines low_st) in
        let messages : l.messages ≡ messages_on v.links st.machines a ++ message_view message ∷ [] = are ∙ ap (λ (k : ℕ). messages_on v.links k a ++ message_view message ∷ []) is in
        happens (StandsOwing represents) failures done _ st c (record {
          event = law.SendCall a;
          may = may;
          passes = (λ is. cc, λ base is. cc);
          follows = λ counts. tt;
          after = subst (λ (k : ℕ). IsSavingClusterOf (StandsOwing represents) st (record v { links = with_link_between v.links k a l; coordinator = next }) (law.after_event st c (law.SendCall a))) (sym is)
              (send_call_made (StandsOwing represents) st setting v c of a low_st (with_link_between v.links st.machines a l) (have_put v.links st.machines a link l (suc st.machines) of.links) may next (message_view message) over
              (subst (ChangesLine v.links (with_link_between v.links st.machines a l) st.machines a) messages (line_put v.links st.machines a link l)));
        })

    -- it takes the first report of machine a
    pub report_heard_goes : (message : Message) → (link_between v.links a n).messages ≡ message_view message ∷ l.messages → HasTakenReport v.coordinator next a (message_view message)
        → GoesOn (StandsOwing represents) failures done v (record v { links = with_link_between v.links a n l; coordinator = next })
    report_heard_goes message were taken st c setting of =
        let is : n ≡ st.machines = sym many ∙ of.many in
        let low_st : a < st.machines = subst (λ (k : ℕ). a < k) is low in
        let messages : messages_on v.links a st.machines ≡ message_view message ∷ l.messages = ap (λ (k : ℕ). messages_on v.links a k) (sym is) ∙ were in
        let first : FirstReport (message_view message) l.messages (c.reports a) =
        first_report (message_view message) l.messages (c.reports a) (subst (λ (ms : List MessageView). AreReports ms (c.reports a)) messages (of.reports a low_st))
        in
        let may : law.MayOccur st c (law.DeliverReport a) = (of.stopped ∙ going_on, (low_st, record { message = first.report; behind = first.behind; first = first.first })) in
        let link = has_link v.links (suc st.machines) a st.machines of.links (under a st.machines low_st) (self_under st.machines) in
        happens (StandsOwing represents) failures done _ st c (record {
          event = law.DeliverReport a;
          may = may;
          passes = (λ is. cc, λ base is. cc);
          follows = λ counts. tt;
          after = subst (λ (k : ℕ). IsSavingClusterOf (StandsOwing represents) st (record v { links = with_link_between v.links a k l; coordinator = next }) (law.after_event st c (law.DeliverReport a))) (sym is)
              (deliver_report_made (StandsOwing represents) st setting v c of a low_st (with_link_between v.links a st.machines l) (have_put v.links a st.machines link l (suc st.machines) of.links) may next first.report first.behind
              first.first (taken st c.coordinator first.report first.told.0 of.coordinator) l.messages first.rest (line_put v.links a st.machines link l));
        })
