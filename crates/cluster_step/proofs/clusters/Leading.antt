-- What each call of the coordinator answers, and what goes between it and the machines.
use Rattle.std.proofs.Common.{◌≡◌, ℕ, suc, ◌<◌, ◌++◌, true, false, Bool, None, Some, List, [], ◌∷◌, get_or, length, refl, sym, ap, arith, subst, ◌∙◌}
use Rattle.std.specs.Prelude.{Err, Ok, OnErr, OnOk, Result, nat_lt, slice_get, slice_index_or}
use Rattle.std.specs.Vec.{with_item}
use Rattle.std.proofs.lemmas.Bool.{lt-ltb}
use Rattle.gl_base.specs.declared.numbers.MachineNo.{MachineNo}
use Rattle.gl_base.specs.declared.refusals.Refused.{Refused}
use Rattle.gl_base.specs.declared.refusals.Refused.TheVariants.{NoMemory, NotNow}
use Rattle.gl_base.specs.declared.scopes.Counted.{Counted}
use Rattle.whole_laws.proofs.cluster_ending.Coming.{may_be_counted}
use Rattle.cluster_laws.specs.cluster_model.Calls.{Begin, Call, Committed, Count, Report, Step, Wave}
use Rattle.cluster_laws.specs.cluster_model.Clusters.{with_coordinator}
use Rattle.cluster_laws.specs.cluster_model.Counting.{Counting, MayBeCounted}
use Rattle.cluster_laws.specs.cluster_model.Events as law
use Rattle.cluster_laws.specs.cluster_model.Leading.{Coordinator}
use Rattle.cluster_laws.specs.cluster_model.Working.{prompt, takes_call}
use Rattle.cluster_step.specs.clusters.Inner.Writing.{behind_first}
use Rattle.cluster_step.specs.clusters.Links.{LinkView}
use Rattle.whole_laws.specs.cluster_whole.Whole.{IsNoRecovery}
use Rattle.coordinator.specs.coord_core.Calls.{HasHandedOver, HasTakenReport, IsHandedOver, MayLead, MayNotLead, MayReport, StaysCoordinator}
use Rattle.coordinator.specs.coord_core.Coordinators.{CoordinatorView, no_outbox}
use Rattle.coordinator.proofs.coord_core.LeadLemmas.{FirstCall, first_call}
use Rattle.wire.specs.outboxes.Outboxes.{has_waiting}
use Rattle.cluster_step.specs.clusters.Clusters.{AreCalls, AreReports, Cluster, HaveLinks, IsSavingClusterOf, IsCoordinatorOf, IsSnapSetting, Machine, Parts, Setting, StandsForSaving, StandsForSameSaving, messages_on}
use Rattle.cluster_step.specs.clusters.Events.{AnswersEvent, IsNamedEvent}
use Rattle.coordinator.specs.machine_api.Promises.{MayHearCall, HasHeard, HasNext, IsFirstCall, IsReporting, MessageView, OfEach, TellsReport, message_view}
use Rattle.cluster_step.specs.declared.clusters.events.Event.{Event}
use Rattle.cluster_step.specs.declared.clusters.events.Event.TheVariants as event
use Rattle.cluster_step.specs.declared.clusters.events.Lead.TheVariants as lead
use Rattle.cluster_step.specs.declared.clusters.events.Passage.TheVariants as passage
use Rattle.cluster_step.proofs.clusters.Answering.{going, never, no_memory_answers, not_now_answers, ok_answers}
use Rattle.cluster_step.proofs.clusters.Lines.{ChangesLine, FirstReport, first_is, first_report, no_call, no_report}
use Rattle.cluster_step.proofs.clusters.Making.{deliver_call_made, deliver_report_made, is_awake, led_made, machine_here, same_lines, send_call_made, send_report_made, stop_made}
use Rattle.wire.specs.wire_msgs.Views as wire
use Rattle.wire.specs.declared.wire_msgs.messages.Message.{Message}

heard_runs : (st : Setting) (a : ℕ) (call : Call) (m : Machine) → (prompt st a (takes_call st a call m)).failed ≡ m.failed
heard_runs st a (Begin k) m = refl
heard_runs st a (Committed k) m = refl
heard_runs st a (Wave k) m = refl
heard_runs st a (Step colour) m = refl

none_waits : (messages : List MessageView) → nat_lt 0 (length messages) ≡ false → messages ≡ []
none_waits [] is = refl
none_waits (m ∷ messages) is = let yes : nat_lt 0 (length (m ∷ messages)) ≡ true = lt-ltb 0 (length (m ∷ messages)) (omega arith) in absurd (cc)

record HasMessage (messages : List MessageView) : Type 0 where
  message : MessageView
  behind : List MessageView
  first : messages ≡ message ∷ behind

one_waits : (messages : List MessageView) → nat_lt 0 (length messages) ≡ true → HasMessage messages
one_waits [] is = absurd (cc)
one_waits (m ∷ messages) is = record { message = m; behind = messages; first = refl }

empty_next : {X : Type 0} (xs : List X) → xs ≡ [] → law.HasNext xs → ⊥
empty_next xs none next = let first = next.first in cc

module _ {M : Type 0} (represents : Setting → ℕ → Machine → M → Type 0) (old : Parts M) (runs : old.stopped ≡ false) where
  -- ---- the coordinator alone

  pub stays_led : (next : CoordinatorView) → StaysCoordinator old.coordinator next → StandsForSameSaving represents old (record old { coordinator = next })
  stays_led next stays st c setting of = same_lines represents st setting old c of old.links of.links (λ i j. refl) next (stays st c.coordinator of.coordinator)

  -- only room on links has changed, and the coordinator is what it was
  pub still_led_lines : (next : CoordinatorView) → next ≡ old.coordinator → (links : List (List LinkView)) → ((n : ℕ) → HaveLinks old.links n → HaveLinks links n) →
      ((i j : ℕ) → messages_on links i j ≡ messages_on old.links i j) → StandsForSameSaving represents old (record old { links = links; coordinator = next })
  still_led_lines next is links have same st c setting of =
      same_lines represents st setting old c of links (have (suc st.machines) of.links) same next (subst (λ (view : CoordinatorView). IsCoordinatorOf st view c.coordinator) (sym is) of.coordinator)

  module _ (what : Event) (e : law.Event) (is : IsNamedEvent what e) (one : (f : law.Event) → IsNamedEvent what f → f ≡ e) (other : IsNoRecovery e)
      (leads : Setting → Coordinator → Coordinator) (effect : (st : Setting) (c : Cluster) → law.after_event st c e ≡ with_coordinator c (leads st c.coordinator)) where
    pub led_answers : (r : Result (Unit {0}) Refused) (next : CoordinatorView) →
        OnOk r (MayLead e old.coordinator × ((st : Setting) (k : Coordinator) → IsCoordinatorOf st old.coordinator k → IsCoordinatorOf st next (leads st k))) →
        (r ≡ Err NotNow → MayNotLead e old.coordinator) → (r ≡ Err NoMemory → MayLead e old.coordinator) → OnErr r (StaysCoordinator old.coordinator next) →
        AnswersEvent represents old what r (record old { coordinator = next })
    led_answers (Ok u) next has cannot can stays =
        ok_answers represents old what (record old { coordinator = next })
        (λ st c setting of.
        let may : law.MayOccur st c e = (going represents old runs st c of, has.0 st c of.coordinator) in
        record {
          event = e;
          is = is;
          may = may;
          after = led_made represents st setting old c of e may other next (leads st c.coordinator) (has.1 st c.coordinator of.coordinator) (effect st c);
        })
    led_answers (Err NotNow) next has cannot can stays =
        not_now_answers represents old what (record old { coordinator = next })
        (never represents old runs what (λ st c setting of f is_f may. cannot refl st c of.coordinator (subst (law.MayDo st c) (one f is_f) may)))
        (stays_led next stays)
    led_answers (Err NoMemory) next has cannot can stays =
        no_memory_answers represents old what (record old { coordinator = next })
        (λ st c setting of. (e, is, (going represents old runs st c of, can refl st c of.coordinator)))
        (stays_led next stays)

    pub led_refused : (refused : Refused) (next : CoordinatorView) → (refused ≡ NotNow → MayNotLead e old.coordinator) → (refused ≡ NoMemory → MayLead e old.coordinator) → StaysCoordinator old.coordinator next →
        AnswersEvent represents old what (Err refused) (record old { coordinator = next })
    led_refused NotNow next cannot can stays = led_answers (Err NotNow) next tt (λ is. cannot refl) (λ is. absurd (cc)) stays
    led_refused NoMemory next cannot can stays = led_answers (Err NoMemory) next tt (λ is. absurd (cc)) (λ is. can refl) stays

  -- ---- the end

  pub stop_answers : AnswersEvent represents old (event.Lead lead.Stop) (Ok tt) (record old { stopped = true })
  stop_answers =
      ok_answers represents old (event.Lead lead.Stop) (record old { stopped = true })
      (λ st c setting of.
      let may : law.MayOccur st c law.Stop = (going represents old runs st c of, tt) in
      record { event = law.Stop; is = refl; may = may; after = stop_made represents st setting old c of may })

  -- ---- between the coordinator and machine a, where the coordinator's links are the last ones

  module _ (at : MachineNo) (inside : at.0 < length old.machines.items) where
    low : (st : Setting) (c : Cluster) → IsSavingClusterOf represents st old c → at.0 < st.machines
    low st c of = subst (λ (n : ℕ). at.0 < n) of.many inside

    -- a call that waits
    module _ (waits : Bool) (is : waits ≡ has_waiting (slice_index_or old.coordinator.out.machines at.0 no_outbox)) where
      pub call_none : waits ≡ false → (new : Parts M) → StandsForSameSaving represents old new → AnswersEvent represents old (event.Passage (passage.SendCall at)) (Err NotNow) new
      call_none none new same =
          not_now_answers represents old (event.Passage (passage.SendCall at)) new
          (never represents old runs (event.Passage (passage.SendCall at)) (λ st c setting of f is_f may.
          let there : law.MayDo st c (law.SendCall at.0) = subst (law.MayDo st c) is_f may in
          let empty = none_waits (slice_index_or old.coordinator.out.machines at.0 no_outbox).messages (sym is ∙ none) in
          empty_next (c.coordinator.out at.0)
          (no_call (c.coordinator.out at.0) (subst (λ (ms : List MessageView). AreCalls ms (c.coordinator.out at.0)) empty (of.coordinator.out at.0 (low st c of)))) there.1))
          same

      call_may : waits ≡ true → (st : Setting) (c : Cluster) (of : IsSavingClusterOf represents st old c) → law.MayOccur st c (law.SendCall at.0)
      call_may some st c of =
          let has : HasMessage (slice_index_or old.coordinator.out.machines at.0 no_outbox).messages = one_waits (slice_index_or old.coordinator.out.machines at.0 no_outbox).messages (sym is ∙ some) in
          let first : FirstCall has.message has.behind (c.coordinator.out at.0) =
          first_call has.message has.behind (c.coordinator.out at.0) (subst (λ (ms : List MessageView). AreCalls ms (c.coordinator.out at.0)) has.first (of.coordinator.out at.0 (low st c of)))
          in
          (going represents old runs st c of, (low st c of, record { message = first.call; behind = first.behind; first = first.first }))

      pub call_full : waits ≡ true → (new : Parts M) → StandsForSameSaving represents old new → AnswersEvent represents old (event.Passage (passage.SendCall at)) (Err NoMemory) new
      call_full some new same = no_memory_answers represents old (event.Passage (passage.SendCall at)) new (λ st c setting of. (law.SendCall at.0, refl, call_may some st c of)) same

    pub call_taken_none : (next : CoordinatorView) → HasHandedOver old.coordinator next at.0 None → (new : Parts M) → StandsForSameSaving represents old new → AnswersEvent represents old (event.Passage (passage.SendCall at)) (Err NotNow) new
    call_taken_none next handed new same =
        not_now_answers represents old (event.Passage (passage.SendCall at)) new
        (never represents old runs (event.Passage (passage.SendCall at)) (λ st c setting of f is_f may.
        let there : law.MayDo st c (law.SendCall at.0) = subst (law.MayDo st c) is_f may in
        empty_next (c.coordinator.out at.0) (handed.1 st c.coordinator of.coordinator (low st c of)) there.1))
        same

    module _ (lead_no : MachineNo) (lead_is : lead_no.0 ≡ length old.machines.items) where
      lead_here : (st : Setting) (c : Cluster) → IsSavingClusterOf represents st old c → lead_no.0 ≡ st.machines
      lead_here st c of = lead_is ∙ of.many

      pub call_answers : (next : CoordinatorView) (message : Message) → HasHandedOver old.coordinator next at.0 (Some message) → (links : List (List LinkView)) → ((n : ℕ) → HaveLinks old.links n → HaveLinks links n) →
          ChangesLine old.links links lead_no.0 at.0 (messages_on old.links lead_no.0 at.0 ++ message_view message ∷ []) →
          AnswersEvent represents old (event.Passage (passage.SendCall at)) (Ok tt) (record old { links = links; coordinator = next })
      call_answers next message handed links have changes =
          ok_answers represents old (event.Passage (passage.SendCall at)) (record old { links = links; coordinator = next })
          (λ st c setting of.
          let over : IsHandedOver st next c.coordinator at.0 (message_view message) = handed st c.coordinator of.coordinator in
          let may : law.MayOccur st c (law.SendCall at.0) = (going represents old runs st c of, (low st c of, record { message = over.call; behind = over.behind; first = over.first })) in
          record {
            event = law.SendCall at.0;
            is = refl;
            may = may;
            after = send_call_made represents st setting old c of at.0 (low st c of) links (have (suc st.machines) of.links) may next (message_view message) over
                (subst (λ (n : ℕ). ChangesLine old.links links n at.0 (messages_on old.links n at.0 ++ message_view message ∷ [])) (lead_here st c of) changes);
          })

      -- ---- a call comes

      pub hear_none : messages_on old.links lead_no.0 at.0 ≡ [] → (new : Parts M) → StandsForSameSaving represents old new → AnswersEvent represents old (event.Passage (passage.DeliverCall at)) (Err NotNow) new
      hear_none none new same =
          not_now_answers represents old (event.Passage (passage.DeliverCall at)) new
          (never represents old runs (event.Passage (passage.DeliverCall at)) (λ st c setting of f is_f may.
          let there : law.MayDo st c (law.DeliverCall at.0) = subst (law.MayDo st c) is_f may in
          let empty : messages_on old.links st.machines at.0 ≡ [] = ap (λ (n : ℕ). messages_on old.links n at.0) (sym (lead_here st c of)) ∙ none in
          empty_next (c.calls at.0) (no_call (c.calls at.0) (subst (λ (ms : List MessageView). AreCalls ms (c.calls at.0)) empty (of.calls at.0 (low st c of)))) there.1))
          same

      module _ (message : Message) (is : Some (message_view message) ≡ slice_get (messages_on old.links lead_no.0 at.0) 0) (awake : slice_index_or old.failed.items at.0 false ≡ false) where
        first_heard : (st : Setting) (c : Cluster) (of : IsSavingClusterOf represents st old c) → FirstCall (message_view message) (behind_first (messages_on old.links lead_no.0 at.0)) (c.calls at.0)
        first_heard st c of =
            let line : messages_on old.links st.machines at.0 ≡ message_view message ∷ behind_first (messages_on old.links lead_no.0 at.0) =
            ap (λ (n : ℕ). messages_on old.links n at.0) (sym (lead_here st c of)) ∙ first_is (messages_on old.links lead_no.0 at.0) (message_view message) is
            in
            first_call (message_view message) (behind_first (messages_on old.links lead_no.0 at.0)) (c.calls at.0)
            (subst (λ (ms : List MessageView). AreCalls ms (c.calls at.0)) line (of.calls at.0 (low st c of)))

        hear_may : (st : Setting) (c : Cluster) (setting : IsSnapSetting st) (of : IsSavingClusterOf represents st old c) → law.MayOccur st c (law.DeliverCall at.0)
        hear_may st c setting of =
            let first = first_heard st c of in
            (going represents old runs st c of, (is_awake represents st setting old c of at.0 (low st c of) awake, record { message = first.call; behind = first.behind; first = first.first }))

        module _ (x : M) (read : x ≡ get_or old.machines.items at.0 x) where
          is_first : (st : Setting) (c : Cluster) (setting : IsSnapSetting st) (of : IsSavingClusterOf represents st old c) → IsFirstCall represents x message st c at.0 (first_heard st c of).call
          is_first st c setting of =
              let first = first_heard st c of in
              record {
                setting = setting;
                going = of.going;
                machine = low st c of;
                here = machine_here represents st setting old c of at.0 (low st c of) x read;
                told = first.told;
                behind = first.behind;
                first = first.first;
              }

          pub can_hear : StandsForSaving represents old → MayHearCall represents x message
          can_hear some = (some.0, some.1, at.0, (first_heard some.0 some.1 some.3).call, is_first some.0 some.1 some.2 some.3)

          pub hear_full : (new : Parts M) → StandsForSameSaving represents old new → AnswersEvent represents old (event.Passage (passage.DeliverCall at)) (Err NoMemory) new
          hear_full new same = no_memory_answers represents old (event.Passage (passage.DeliverCall at)) new (λ st c setting of. (law.DeliverCall at.0, refl, hear_may st c setting of)) same

          pub hear_answers : (y : M) (links : List (List LinkView)) → ((n : ℕ) → HaveLinks old.links n → HaveLinks links n) → HasHeard represents x message y →
              ChangesLine old.links links lead_no.0 at.0 (behind_first (messages_on old.links lead_no.0 at.0)) →
              AnswersEvent represents old (event.Passage (passage.DeliverCall at)) (Ok tt) (record old { machines = with_item old.machines at.0 y; links = links })
          hear_answers y links have has changes =
              ok_answers represents old (event.Passage (passage.DeliverCall at)) (record old { machines = with_item old.machines at.0 y; links = links })
              (λ st c setting of.
              let first = first_heard st c of in
              record {
                event = law.DeliverCall at.0;
                is = refl;
                may = hear_may st c setting of;
                after = deliver_call_made represents st setting old c of at.0 (low st c of) links (have (suc st.machines) of.links) (hear_may st c setting of) y first.call first.behind first.first
                    (has st c at.0 first.call (is_first st c setting of)) (behind_first (messages_on old.links lead_no.0 at.0)) first.rest
                    (subst (λ (n : ℕ). ChangesLine old.links links n at.0 (behind_first (messages_on old.links lead_no.0 at.0))) (lead_here st c of) changes)
                    (heard_runs st at.0 first.call (c.machine at.0));
              })

      -- ---- a report goes

      module _ (awake : slice_index_or old.failed.items at.0 false ≡ false) (x : M) (read : x ≡ get_or old.machines.items at.0 x) where
        teller : (st : Setting) (c : Cluster) (setting : IsSnapSetting st) (of : IsSavingClusterOf represents st old c) → represents st at.0 (c.machine at.0) x
        teller st c setting of = machine_here represents st setting old c of at.0 (low st c of) x read

        pub report_none : (new : Parts M) → OfEach represents x (λ st a m. HasNext m.out → ⊥) → StandsForSameSaving represents old new → AnswersEvent represents old (event.Passage (passage.SendReport at)) (Err NotNow) new
        report_none new none same =
            not_now_answers represents old (event.Passage (passage.SendReport at)) new
            (never represents old runs (event.Passage (passage.SendReport at)) (λ st c setting of f is_f may.
            let there : law.MayDo st c (law.SendReport at.0) = subst (law.MayDo st c) is_f may in
            none st at.0 (c.machine at.0) setting (teller st c setting of) there.1))
            same

        report_may : (st : Setting) (c : Cluster) (setting : IsSnapSetting st) (of : IsSavingClusterOf represents st old c) → HasNext (c.machine at.0).out → law.MayOccur st c (law.SendReport at.0)
        report_may st c setting of next = (going represents old runs st c of, (is_awake represents st setting old c of at.0 (low st c of) awake, next))

        pub report_full : (new : Parts M) → OfEach represents x (λ st a m. HasNext m.out) → StandsForSameSaving represents old new → AnswersEvent represents old (event.Passage (passage.SendReport at)) (Err NoMemory) new
        report_full new some same =
            no_memory_answers represents old (event.Passage (passage.SendReport at)) new
            (λ st c setting of. (law.SendReport at.0, refl, report_may st c setting of (some st at.0 (c.machine at.0) setting (teller st c setting of)))) same

        pub report_answers : (y : M) (message : Message) (links : List (List LinkView)) → ((n : ℕ) → HaveLinks old.links n → HaveLinks links n) → OfEach represents x (IsReporting represents message y) →
            ChangesLine old.links links at.0 lead_no.0 (messages_on old.links at.0 lead_no.0 ++ message_view message ∷ []) →
            AnswersEvent represents old (event.Passage (passage.SendReport at)) (Ok tt) (record old { machines = with_item old.machines at.0 y; links = links })
        report_answers y message links have reports changes =
            ok_answers represents old (event.Passage (passage.SendReport at)) (record old { machines = with_item old.machines at.0 y; links = links })
            (λ st c setting of.
            let reporting = reports st at.0 (c.machine at.0) setting (teller st c setting of) in
            let may : law.MayOccur st c (law.SendReport at.0) = report_may st c setting of (record { message = reporting.report; behind = reporting.behind; first = reporting.first }) in
            record {
              event = law.SendReport at.0;
              is = refl;
              may = may;
              after = send_report_made represents st setting old c of at.0 (low st c of) links (have (suc st.machines) of.links) may y message reporting
                  (subst (λ (n : ℕ). ChangesLine old.links links at.0 n (messages_on old.links at.0 n ++ message_view message ∷ [])) (lead_here st c of) changes);
            })

      -- ---- a report comes

      pub hear_no_report : messages_on old.links at.0 lead_no.0 ≡ [] → (new : Parts M) → StandsForSameSaving represents old new → AnswersEvent represents old (event.Passage (passage.DeliverReport at)) (Err NotNow) new
      hear_no_report none new same =
          not_now_answers represents old (event.Passage (passage.DeliverReport at)) new
          (never represents old runs (event.Passage (passage.DeliverReport at)) (λ st c setting of f is_f may.
          let there : law.MayDo st c (law.DeliverReport at.0) = subst (law.MayDo st c) is_f may in
          let empty : messages_on old.links at.0 st.machines ≡ [] = ap (messages_on old.links at.0) (sym (lead_here st c of)) ∙ none in
          empty_next (c.reports at.0) (no_report (c.reports at.0) (subst (λ (ms : List MessageView). AreReports ms (c.reports at.0)) empty (of.reports at.0 (low st c of)))) there.1))
          same

      counts_come : (st : Setting) (c : Cluster) (of : IsSavingClusterOf represents st old c) (k : ℕ) (counted : Counted) (behind : List Report) → c.reports at.0 ≡ Count k counted ∷ behind →
          MayBeCounted old.coordinator.counting at.0 k
      counts_come st c of k counted behind first =
          let watch = of.going.followed.1 in
          subst (λ (counting : Counting). MayBeCounted counting at.0 k) of.coordinator.counting
          (may_be_counted st c.coordinator.begun c watch.turn watch.begun_before watch.begun_newest of.going.followed.2 at.0 (low st c of) k counted behind first)

      report_comes : (st : Setting) (c : Cluster) (of : IsSavingClusterOf represents st old c) (m : MessageView) (report : Report) (behind : List Report) → c.reports at.0 ≡ report ∷ behind → TellsReport m report →
          MayReport old.coordinator at.0 m
      report_comes st c of (wire.Count k counted) report behind first told = counts_come st c of k counted behind (first ∙ ap (λ (r : Report). r ∷ behind) told.0)
      report_comes st c of (wire.Section section) report behind first told = (subst (λ (n : ℕ). at.0 < n) (sym of.coordinator.machines) (low st c of), told.1)
      report_comes st c of (wire.Want k) report behind first told = tt
      report_comes st c of (wire.Ask scope centre rest) report behind first told = absurd told.0
      report_comes st c of (wire.Ready scope) report behind first told = absurd told.0
      report_comes st c of (wire.Done d) report behind first told = absurd told.0
      report_comes st c of (wire.Begin k) report behind first told = absurd told.0
      report_comes st c of (wire.Committed k) report behind first told = absurd told.0
      report_comes st c of (wire.Wave k) report behind first told = absurd told.0
      report_comes st c of (wire.Step colour) report behind first told = absurd told.0

      module _ (message : Message) (is : Some (message_view message) ≡ slice_get (messages_on old.links at.0 lead_no.0) 0) where
        first_told : (st : Setting) (c : Cluster) (of : IsSavingClusterOf represents st old c) → FirstReport (message_view message) (behind_first (messages_on old.links at.0 lead_no.0)) (c.reports at.0)
        first_told st c of =
            let line : messages_on old.links at.0 st.machines ≡ message_view message ∷ behind_first (messages_on old.links at.0 lead_no.0) =
            ap (messages_on old.links at.0) (sym (lead_here st c of)) ∙ first_is (messages_on old.links at.0 lead_no.0) (message_view message) is
            in
            first_report (message_view message) (behind_first (messages_on old.links at.0 lead_no.0)) (c.reports at.0)
            (subst (λ (ms : List MessageView). AreReports ms (c.reports at.0)) line (of.reports at.0 (low st c of)))

        pub may_report : StandsForSaving represents old → MayReport old.coordinator at.0 (message_view message)
        may_report some =
            let first = first_told some.0 some.1 some.3 in
            report_comes some.0 some.1 some.3 (message_view message) first.report first.behind first.first first.told

        pub report_taken : (next : CoordinatorView) (links : List (List LinkView)) → ((n : ℕ) → HaveLinks old.links n → HaveLinks links n) → HasTakenReport old.coordinator next at.0 (message_view message) →
            ChangesLine old.links links at.0 lead_no.0 (behind_first (messages_on old.links at.0 lead_no.0)) →
            AnswersEvent represents old (event.Passage (passage.DeliverReport at)) (Ok tt) (record old { links = links; coordinator = next })
        report_taken next links have taken changes =
            ok_answers represents old (event.Passage (passage.DeliverReport at)) (record old { links = links; coordinator = next })
            (λ st c setting of.
            let first = first_told st c of in
            let may : law.MayOccur st c (law.DeliverReport at.0) = (going represents old runs st c of, (low st c of, record { message = first.report; behind = first.behind; first = first.first })) in
            record {
              event = law.DeliverReport at.0;
              is = refl;
              may = may;
              after = deliver_report_made represents st setting old c of at.0 (low st c of) links (have (suc st.machines) of.links) may next first.report first.behind first.first
                  (taken st c.coordinator first.report first.told.0 of.coordinator) (behind_first (messages_on old.links at.0 lead_no.0)) first.rest
                  (subst (λ (n : ℕ). ChangesLine old.links links at.0 n (behind_first (messages_on old.links at.0 lead_no.0))) (lead_here st c of) changes);
            })
