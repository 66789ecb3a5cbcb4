-- A course in which no snapshots are taken ends with nothing left.
use Rattle.std.proofs.Common.{◌≡◌, ◌≤◌, ℕ, false, true, List, [], ◌∷◌, ap, le_antisymm, le_trans, refl, subst, sym, true≢false, ◌∙◌}
use Rattle.call_laws.proofs.whole_calls.Leading.{behind_since}
use Rattle.cluster_laws.specs.cluster_model.Events.{Admit, Deliver, DeliverCall, DeliverReport, Event, Fail, Grant, IsTrace, Mark, MayDo, PutBegin, PutStep, PutWave, Record, Recover, Section, Send, SendCall, SendReport, Stop, Update, after_event, setting_after}
use Rattle.cluster_laws.specs.cluster_model.Leading.{HasSeenTheEnd}
use Rattle.cluster_step.specs.trace.Traces.{CallOpening, Cluster, IsTraceNow, Machine, Setting, TraceView, first_cluster, first_setting, newest_setting}
use Rattle.coordinator.specs.coord_core.Calls.{IsDueOf}
use Rattle.coordinator.specs.declared.coord_core.leading.Due.{Due}
use Rattle.coordinator.specs.declared.coord_core.leading.Due.TheVariants as what
use Rattle.whole_laws.proofs.cluster_ending.Finding.{at_rest, rest_ends}
use Rattle.whole_laws.proofs.cluster_ending.Traces.{numbers_after, start_followed}
use Rattle.whole_laws.specs.cluster_ending.Ends.{HasEnded}
use Rattle.whole_laws.specs.cluster_whole.Whole.{setting_behind}

-- no snapshot was begun in this attempt
abbrev BeganNone : Setting → Cluster → Type 0
BeganNone st c = c.coordinator.begun ≡ st.base

began_none_after : (st : Setting) (c : Cluster) (event : Event) → st.stored ≡ false → MayDo st c event → BeganNone st c → BeganNone (setting_after st event) (after_event st c event)
began_none_after st c (Admit a v) takes may none = none
began_none_after st c (Grant a x) takes may none = none
began_none_after st c (Send p q) takes may none = (numbers_after st c (Send p q) (λ base is. cc) (λ is. cc)).1 ∙ none
began_none_after st c (SendCall a) takes may none = (numbers_after st c (SendCall a) (λ base is. cc) (λ is. cc)).1 ∙ none
began_none_after st c (SendReport a) takes may none = (numbers_after st c (SendReport a) (λ base is. cc) (λ is. cc)).1 ∙ none
began_none_after st c (Deliver p q) takes may none = (numbers_after st c (Deliver p q) (λ base is. cc) (λ is. cc)).1 ∙ none
began_none_after st c (DeliverCall a) takes may none = (numbers_after st c (DeliverCall a) (λ base is. cc) (λ is. cc)).1 ∙ none
began_none_after st c (DeliverReport a) takes may none = (numbers_after st c (DeliverReport a) (λ base is. cc) (λ is. cc)).1 ∙ none
began_none_after st c (Update s) takes may none = (numbers_after st c (Update s) (λ base is. cc) (λ is. cc)).1 ∙ none
began_none_after st c (Mark s) takes may none = (numbers_after st c (Mark s) (λ base is. cc) (λ is. cc)).1 ∙ none
began_none_after st c (Section a) takes may none = none
began_none_after st c Record takes may none = none
began_none_after st c PutBegin takes may none = absurd (true≢false (sym may.stored ∙ takes))
began_none_after st c PutStep takes may none = none
began_none_after st c PutWave takes may none = none
began_none_after st c (Fail a) takes may none = none
began_none_after st c (Recover base) takes may none = refl
began_none_after st c Stop takes may none = none

-- and so behind these events
began_none : (st : Setting) (events : List Event) (old new : Cluster) → st.stored ≡ false → BeganNone st old → IsTrace st old events new → BeganNone (setting_behind st events) new
began_none st [] old new takes none trace = subst (BeganNone st) (sym trace) none
began_none st (event ∷ events) old new takes none trace =
    began_none (setting_after st event) events (after_event st old event) new (ap (λ (s : Setting). s.stored) (behind_since (event ∷ []) st) ∙ takes) (began_none_after st old event takes trace.0.1 none) trace.1

module _ {M : Type 0} (represents : Setting → ℕ → Machine → M → Type 0) (v : TraceView M) (st : Setting) (o : CallOpening) (events : List Event) (c : Cluster) (is : IsTraceNow represents v st o events c) where
  -- where the waves have shown the end
  pub ended_all : HasSeenTheEnd c.coordinator → st.stored ≡ false → HasEnded (newest_setting st o events) c
  ended_all seen takes =
      let last = newest_setting st o events in
      let kept = start_followed st is.trace.is is.trace.coloured o.base o.first events c is.trace.trace in
      let watch = kept.followed.1 in
      let was = kept.followed.2 in
      let none : c.coordinator.begun ≡ last.base = began_none (first_setting st o) events (first_cluster st o) c takes refl is.trace.trace in
      rest_ends last c kept.followed.0
      (at_rest last c watch was seen (le_antisymm (le_trans was.numbers.1 was.numbers.2) (subst (λ (n : ℕ). n ≤ watch.begun_before) (sym none) was.numbers.0)))

  -- and so where the end is due
  pub ended_due : (answer : Due) → IsDueOf v.now.coordinator answer → answer ≡ what.Ended → st.stored ≡ false → HasEnded (newest_setting st o events) c
  ended_due answer due ended = ended_all ((due.ended (newest_setting st o events) c.coordinator is.code.coordinator).0 ended).2
