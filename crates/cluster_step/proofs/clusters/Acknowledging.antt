-- A snapshot is acknowledged for which there is room.
use Rattle.std.proofs.Common.{◌∙◌, ◌≡◌, ℕ, false, refl}
use Rattle.std.specs.Prelude.{Err, IfOk, Ok, OnOk, Result}
use Rattle.gl_base.specs.declared.refusals.Refused.{Refused}
use Rattle.gl_base.specs.declared.snapshots.Record.{Record}
use Rattle.cluster_laws.specs.cluster_model.Events as law
use Rattle.cluster_laws.specs.cluster_model.Leading.{acknowledges}
use Rattle.coordinator.specs.coord_core.Calls.{HasRecorded, IsReadyToRecord, MayLeadRecord}
use Rattle.coordinator.specs.coord_core.Coordinators.{CoordinatorView, IsSavingOf}
use Rattle.coordinator.proofs.coord_core.SavingLemmas.{law_due, law_room}
use Rattle.cluster_step.specs.clusters.Clusters.{Cluster, IsCoordinatorOf, Machine, Parts, Setting, StandsForSaving}
use Rattle.cluster_step.specs.clusters.Events.{CanTakePlace, IsReadyToAcknowledge, TakesPlace}
use Rattle.cluster_step.specs.declared.clusters.events.Event.TheVariants as event
use Rattle.cluster_step.specs.declared.clusters.events.Lead.TheVariants as lead
use Rattle.cluster_step.proofs.clusters.Answering.{going}
use Rattle.cluster_step.proofs.clusters.Making.{led_made}

may_record_now : (st : Setting) (view : CoordinatorView) (k : ℕ) (c : Cluster) → IsCoordinatorOf st view c.coordinator → IsReadyToRecord view k → law.MayDo st c law.Record
may_record_now st view k c of ready =
    let knows : IsSavingOf st view.saving c.coordinator = of.saving (of.stored ∙ ready.due.stored) in
    (law_due st view.saving c.coordinator knows ready.due, law_room st view.saving c.coordinator knows ready.room)

pub ready_so : {M : Type 0} (p : Parts M) (r : Result Record Refused) → p.stopped ≡ false → IfOk r (λ made. IsReadyToRecord p.coordinator made.number) → IfOk r (λ made. IsReadyToAcknowledge p made.number)
ready_so p (Ok made) runs ready = record { runs = runs; ready = ready }
ready_so p (Err refused) runs ready = tt

-- it might be acknowledged
module _ {M : Type 0} (represents : Setting → ℕ → Machine → M → Type 0) (old : Parts M) (runs : old.stopped ≡ false) where
  pub may_be_recorded : MayLeadRecord old.coordinator → CanTakePlace represents old (event.Lead lead.Record)
  may_be_recorded may st c setting of = (law.Record, refl, (going represents old runs st c of, may st c of.coordinator))

  pub recorded_can : (r : Result Record Refused) → OnOk r (MayLeadRecord old.coordinator) → OnOk r (CanTakePlace represents old (event.Lead lead.Record))
  recorded_can (Ok made) may = may_be_recorded may
  recorded_can (Err refused) may = tt

module _ {M : Type 0} (represents : Setting → ℕ → Machine → M → Type 0) (old : Parts M) (k : ℕ) (ready : IsReadyToAcknowledge old k) (next : CoordinatorView) (has : HasRecorded old.coordinator next) where
  pub acknowledged_so : TakesPlace represents old (event.Lead lead.Record) (record old { coordinator = next })
  acknowledged_so st c setting of =
      let may : law.MayOccur st c law.Record = (going represents old ready.runs st c of, may_record_now st old.coordinator k c of.coordinator ready.ready) in
      record {
        event = law.Record;
        is = refl;
        may = may;
        after = led_made represents st setting old c of law.Record may (λ base is. cc) next (acknowledges st c.coordinator) (has st c.coordinator of.coordinator) refl;
      }

-- some cluster stands behind it
pub some_behind : {M : Type 0} (represents : Setting → ℕ → Machine → M → Type 0) (old new : Parts M) → StandsForSaving represents old → TakesPlace represents old (event.Lead lead.Record) new → StandsForSaving represents new
some_behind represents old new some made =
    let has = made some.0 some.1 some.2 some.3 in
    (some.0, law.after_event some.0 some.1 has.event, some.2, has.after)
