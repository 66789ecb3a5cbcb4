-- What may happen next, as a machine tells it, may take place in the cluster.
use Rattle.std.proofs.Common.{◌≡◌, ℕ, ◌<◌, true, false, inl, inr, Bool, None, Option, Some, List, [], ◌∷◌, arith, get_or, length, map, refl, sym, ap, subst, ◌∙◌}
use Rattle.std.specs.Prelude.{IfNone, IfSome, IsTrue, nat_lt, slice_index_or, ◌↔◌, ◌⊎◌}
use Rattle.std.proofs.lemmas.Bool.{lt-ltb}
use Rattle.gl_base.specs.declared.numbers.MachineNo.{MachineNo}
use Rattle.gl_base.specs.declared.numbers.Vertex.{Vertex}
use Rattle.gl_base.specs.declared.scopes.ScopeId.{ScopeId}
use Rattle.cluster_laws.specs.cluster_core.Actions.{HasFirst}
use Rattle.cluster_laws.specs.cluster_model.Calls.{Call, Report}
use Rattle.cluster_laws.specs.cluster_model.Events as law
use Rattle.cluster_step.specs.clusters.Links.{message_read}
use Rattle.coordinator.specs.coord_core.Coordinators.{no_outbox}
use Rattle.wire.specs.outboxes.Outboxes.{has_waiting}
use Rattle.cluster_step.specs.clusters.Clusters.{AreCalls, AreReports, Cluster, InEachCluster, IsSavingClusterOf, IsSnapSetting, Machine, Parts, Setting, StandsForSaving, messages_on, told_on}
use Rattle.cluster_step.specs.clusters.Events.{CanNotTakePlace, CanTakePlace, acting, is_resting}
use Rattle.cluster_step.specs.declared.clusters.events.Event.{Event}
use Rattle.cluster_step.specs.declared.clusters.events.Event.TheVariants as event
use Rattle.cluster_step.specs.declared.clusters.events.Local.TheVariants as local
use Rattle.coordinator.specs.machine_api.Promises.{CanDo, CanGrantNone, CanMarkNone, CanNotDo, CanUpdate, CanUpdateNone, Grant, Mark, MayBeDone, MessageView, OfEach, Section, Update}
use Rattle.cluster_step.proofs.clusters.Answering.{deed_can, deed_cannot, going, never, rest_cannot, stopped_cannot}
use Rattle.cluster_step.proofs.clusters.Making.{is_awake, law_may, machine_here, own_may}

pub some_then : {X : Type 0} {P Q : X → Type 0} (o : Option X) → ((x : X) → P x → Q x) → IfSome o P → IfSome o Q
some_then None then is = tt
some_then (Some x) then is = then x is

pub none_then : {X : Type 0} {P Q : Type 0} (o : Option X) → (P → Q) → IfNone o P → IfNone o Q
none_then None then is = then is
none_then (Some x) then is = tt

same_machine : (one other : MachineNo) → one.0 ≡ other.0 → one ≡ other
same_machine one other is = λ i. record { 0 = is i }

-- nothing takes place after the end, nor at a machine that has failed
pub still_cannot : {M : Type 0} (represents : Setting → ℕ → Machine → M → Type 0) (old : Parts M) (what : Event) → (old.stopped ≡ true) ⊎ (is_resting old.failed.items (acting what) ≡ true) → CanNotTakePlace represents old what
still_cannot represents old what (inl stopped) = stopped_cannot represents old what stopped
still_cannot represents old what (inr rests) = rest_cannot represents old what rests

-- ---- what a machine may do

module _ {M : Type 0} (represents : Setting → ℕ → Machine → M → Type 0) (old : Parts M) (runs : old.stopped ≡ false)
    (at : MachineNo) (inside : at.0 < length old.machines.items) (awake : slice_index_or old.failed.items at.0 false ≡ false) (x : M) (read : x ≡ get_or old.machines.items at.0 x) where
  low : (st : Setting) (c : Cluster) → IsSavingClusterOf represents st old c → at.0 < st.machines
  low st c of = subst (λ (n : ℕ). at.0 < n) of.many inside

  here : (st : Setting) (c : Cluster) (setting : IsSnapSetting st) (of : IsSavingClusterOf represents st old c) → represents st at.0 (c.machine at.0) x
  here st c setting of = machine_here represents st setting old c of at.0 (low st c of) x read

  awake_now : (st : Setting) (c : Cluster) (setting : IsSnapSetting st) (of : IsSavingClusterOf represents st old c) → law.IsAwake st c at.0
  awake_now st c setting of = is_awake represents st setting old c of at.0 (low st c of) awake

  pub grant_can : (v : Vertex) → CanDo represents x (Grant v.0) → CanTakePlace represents old (event.Local (local.Grant at v))
  grant_can v can = deed_can represents old runs at.0 inside awake x read (event.Local (local.Grant at v)) (Grant v.0) refl (λ e is. is) tt (λ k. tt) (λ k. (refl, refl)) can

  pub grant_cannot : CanGrantNone represents x → (v : Vertex) → CanNotTakePlace represents old (event.Local (local.Grant at v))
  grant_cannot none v = deed_cannot represents old runs at.0 inside awake x read (event.Local (local.Grant at v)) (Grant v.0) refl (λ e is. is) tt (λ k. tt) (λ k. (refl, refl)) (none v.0)

  pub section_can : OfEach represents x (λ st a m. MayBeDone st a m Section) → CanTakePlace represents old (event.Local (local.Section at))
  section_can can = deed_can represents old runs at.0 inside awake x read (event.Local (local.Section at)) Section refl (λ e is. is) tt (λ k. tt) (λ k. (refl, refl)) can

  pub section_cannot : CanNotDo represents x Section → CanNotTakePlace represents old (event.Local (local.Section at))
  section_cannot cannot = deed_cannot represents old runs at.0 inside awake x read (event.Local (local.Section at)) Section refl (λ e is. is) tt (λ k. tt) (λ k. (refl, refl)) cannot

  -- a scope of which it may make something is of this home
  pub mark_home : StandsForSaving represents old → (s : ScopeId) → CanDo represents x (Mark s) → s.home ≡ at
  mark_home some s can = same_machine s.home at (can some.0 at.0 (some.1.machine at.0) some.2 (here some.0 some.1 some.2 some.3)).0

  pub update_home : StandsForSaving represents old → (s : ScopeId) → CanUpdate represents x s → s.home ≡ at
  update_home some s can = same_machine s.home at (can 0 some.0 at.0 (some.1.machine at.0) some.2 (here some.0 some.1 some.2 some.3)).0

  pub mark_can : (s : ScopeId) → CanDo represents x (Mark s) → CanTakePlace represents old (event.Local (local.Mark s))
  mark_can s can st c setting of =
      (law.Mark s, refl, (going represents old runs st c of, law_may st c at.0 (awake_now st c setting of) (Mark s) tt (can st at.0 (c.machine at.0) setting (here st c setting of))))

  pub mark_cannot : CanMarkNone represents x → (s : ScopeId) → s.home ≡ at → CanNotTakePlace represents old (event.Local (local.Mark s))
  mark_cannot none s home =
      never represents old runs (event.Local (local.Mark s)) (λ st c setting of e is may.
      none s st at.0 (c.machine at.0) setting (here st c setting of)
      (own_may st c at.0 (awake_now st c setting of) (Mark s) (ap (λ (m : MachineNo). m.0) home) (subst (law.MayDo st c) is may)))

  pub update_can : 0 < old.left → (s : ScopeId) → CanUpdate represents x s → CanTakePlace represents old (event.Local (local.Update s))
  update_can left s can st c setting of = (
    law.Update s,
    refl,
    (
      going represents old runs st c of,
      law_may st c at.0 (awake_now st c setting of) (Update s old.next) (subst (λ (n : ℕ). 0 < n) (sym of.left) left, sym of.next) (can old.next st at.0 (c.machine at.0) setting (here st c setting of)),
    ),
  )

  pub update_cannot : CanUpdateNone represents x → (s : ScopeId) → s.home ≡ at → CanNotTakePlace represents old (event.Local (local.Update s))
  update_cannot none s home =
      never represents old runs (event.Local (local.Update s)) (λ st c setting of e is may.
      none s old.next st at.0 (c.machine at.0) setting (here st c setting of)
      (own_may st c at.0 (awake_now st c setting of) (Update s old.next) (ap (λ (m : MachineNo). m.0) home) (subst (law.MayDo st c) is may)))

-- ---- what waits on a link

call_on : (messages : List MessageView) (calls : List Call) → AreCalls messages calls → HasFirst (map message_read messages) ↔ law.HasNext calls
call_on [] [] are = (λ first. let is = first.first in absurd (cc), λ next. let is = next.first in absurd (cc))
call_on [] (call ∷ calls) are = absurd are
call_on (m ∷ messages) [] are = absurd are
call_on (m ∷ messages) (call ∷ calls) are =
    (λ first. record { message = call; behind = calls; first = refl }, λ next. record { message = message_read m; behind = map message_read messages; first = refl })

report_on : (messages : List MessageView) (reports : List Report) → AreReports messages reports → HasFirst (map message_read messages) ↔ law.HasNext reports
report_on [] [] are = (λ first. let is = first.first in absurd (cc), λ next. let is = next.first in absurd (cc))
report_on [] (report ∷ reports) are = absurd are
report_on (m ∷ messages) [] are = absurd are
report_on (m ∷ messages) (report ∷ reports) are =
    (λ first. record { message = report; behind = reports; first = refl }, λ next. record { message = message_read m; behind = map message_read messages; first = refl })

waiting_call : (messages : List MessageView) (calls : List Call) → AreCalls messages calls → (waits : Bool) → waits ≡ nat_lt 0 (length messages) → IsTrue waits ↔ law.HasNext calls
waiting_call [] [] are waits is = (λ yes. absurd (cc), λ next. let none = next.first in absurd (cc))
waiting_call [] (call ∷ calls) are waits is = absurd are
waiting_call (m ∷ messages) [] are waits is = absurd are
waiting_call (m ∷ messages) (call ∷ calls) are waits is =
    (λ yes. record { message = call; behind = calls; first = refl }, λ next. is ∙ lt-ltb 0 (length (m ∷ messages)) (omega arith))

module _ {M : Type 0} (represents : Setting → ℕ → Machine → M → Type 0) (p : Parts M) (lead : ℕ) (lead_is : lead ≡ length p.machines.items) (a : ℕ) (inside : a < length p.machines.items) (waits : Bool) where
  pub on_call : IsTrue waits ↔ HasFirst (told_on p.links lead a) → InEachCluster represents p (λ st c. IsTrue waits ↔ law.HasNext (c.calls a))
  on_call says st c setting of =
      let low : a < st.machines = subst (λ (n : ℕ). a < n) of.many inside in
      let on = call_on (messages_on p.links lead a) (c.calls a) (subst (λ (n : ℕ). AreCalls (messages_on p.links n a) (c.calls a)) (sym (lead_is ∙ of.many)) (of.calls a low)) in
      (λ yes. on.0 (says.0 yes), λ next. says.1 (on.1 next))

  pub on_report : IsTrue waits ↔ HasFirst (told_on p.links a lead) → InEachCluster represents p (λ st c. IsTrue waits ↔ law.HasNext (c.reports a))
  on_report says st c setting of =
      let low : a < st.machines = subst (λ (n : ℕ). a < n) of.many inside in
      let on = report_on (messages_on p.links a lead) (c.reports a) (subst (λ (n : ℕ). AreReports (messages_on p.links a n) (c.reports a)) (sym (lead_is ∙ of.many)) (of.reports a low)) in
      (λ yes. on.0 (says.0 yes), λ next. says.1 (on.1 next))

module _ {M : Type 0} (represents : Setting → ℕ → Machine → M → Type 0) (p : Parts M) (a : ℕ) (inside : a < length p.machines.items) (waits : Bool) where
  pub at_coordinator : waits ≡ has_waiting (slice_index_or p.coordinator.out.machines a no_outbox) → InEachCluster represents p (λ st c. IsTrue waits ↔ law.HasNext (c.coordinator.out a))
  at_coordinator is st c setting of =
      let low : a < st.machines = subst (λ (n : ℕ). a < n) of.many inside in
      waiting_call (slice_index_or p.coordinator.out.machines a no_outbox).messages (c.coordinator.out a) (of.coordinator.out a low) waits is
