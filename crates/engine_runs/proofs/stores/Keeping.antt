-- A store keeps up with the course of a call.
use Rattle.std.proofs.Common.{◌≡◌, ◌∙◌, ◌+◌, ◌*◌, ap, ℕ, ◌<◌, Bool, List, [], ◌∷◌, ◌++◌, length, refl, sym, subst}
use Rattle.gl_base.specs.declared.entries.Entry.{Entry}
use Rattle.gl_base.specs.declared.jobs.FailureAt.{FailureAt}
use Rattle.gl_base.specs.declared.snapshots.Record.{Record}
use Rattle.cluster_step.specs.trace.Events.{HappensInCall}
use Rattle.cluster_step.proofs.trace.Calling.{due_first}
use Rattle.cluster_step.proofs.trace.Passing.{pass_fronts, pass_lost, pass_records, record_fronts, record_lost, record_records, recover_fronts, recover_lost, recover_records}
use Rattle.cluster_laws.specs.cluster_core.Recovering.{going_on}
use Rattle.cluster_laws.specs.cluster_model.Clusters.{BaseView}
use Rattle.cluster_laws.specs.cluster_model.Events as law
use Rattle.cluster_laws.specs.cluster_model.Leading.{RecordIsDue, Snapshot}
use Rattle.whole_laws.specs.cluster_records.Recorded.{snapshot_due}
use Rattle.cluster_laws.specs.cluster_runs.Recorded.{shared_of}
use Rattle.recovery.specs.Journals.{NumbersFit, RecordFits, body_bytes}
use Rattle.cluster_step.specs.clusters.Clusters.{IsSavingClusterOf}
use Rattle.cluster_step.specs.declared.clusters.events.Event.TheVariants as event
use Rattle.cluster_step.specs.declared.clusters.events.Lead.TheVariants as lead
use Rattle.cluster_step.specs.declared.clusters.parts.Parts.{Parts}
use Rattle.std.specs.Prelude.{Option, slice_index_or}
use Rattle.engine_runs.specs.stores.Stores.{CallOpening, Cluster, TraceGoesOn, TraceView, Header, IsTraceNow, IsGoodStore, IsKnownTrace, IsRecordBehind, IsRememberedAt, IsStoredTrace, KeepsUp, Machine, Setting, as_since, first_cluster, first_setting, fronts_in, recorded_in, stored_order}
use Rattle.cluster_step.specs.trace.Traces.{Engine, GoesBackWith, HasGoneBack, StoreView, newest_setting}
use Rattle.call_laws.specs.whole_calls.Lost.{TakesAway}
use Rattle.call_laws.specs.whole_calls.Opened.{IsTraceOfCall}
use Rattle.engine_runs.proofs.stores.Staying.{IsStill, trace_behind, still_trace}

-- what the laws of stores say
abbrev pub OpensUp : Type 0
OpensUp = (st : Setting) (failures : List FailureAt) (header : Header) (bodies : List (List ℕ)) → IsGoodStore (shared_of st failures) header bodies → KeepsUp st failures header bodies [] [] bodies

abbrev pub GrowsUp : Type 0
GrowsUp =
    (st : Setting) (failures : List FailureAt) (kept : List Entry) (resumed : Bool) (base : BaseView) (first : Cluster) (events : List law.Event) (c : Cluster)
    (header : Header) (start bodies : List (List ℕ)) (made : Record) → IsTraceOfCall st failures kept resumed base first events c → kept ≡ stored_order start →
    KeepsUp st failures header start (fronts_in (going_on st base.numbers base.number) (law.recovers st base first) events) (recorded_in (going_on st base.numbers base.number) (law.recovers st base first) events) bodies →
    RecordIsDue st c.coordinator → IsRecordBehind st (stored_order bodies) c.base.order (snapshot_due c.coordinator) made →
    RecordFits made → NumbersFit made → length made.sections.items ≡ header.machines →
    KeepsUp st failures header start (fronts_in (going_on st base.numbers base.number) (law.recovers st base first) events ++ c.base.order ∷ [])
    (recorded_in (going_on st base.numbers base.number) (law.recovers st base first) events ++ snapshot_due c.coordinator ∷ []) (bodies ++ body_bytes made ∷ [])

module _ {M : Type 0} (represents : Setting → ℕ → Machine → M → Type 0) where
  pub opens : OpensUp → (v : TraceView M) (header : Header) (start : List (List ℕ)) (st : Setting) (o : CallOpening) →
      IsTraceNow represents v st o [] (first_cluster st o) → IsGoodStore (shared_of st v.failures) header start → IsStoredTrace represents v header start start [] st o
  opens opens_up v header start st o begun good = record { events = []; cluster = first_cluster st o; now = begun; keeps = opens_up st v.failures header start good; taken = refl }

  module _ (old new : TraceView M) (header : Header) (start bodies : List (List ℕ)) (lost : List Entry) (st : Setting) (o : CallOpening)
      (at : IsRememberedAt old new) (goes : TraceGoesOn represents (as_since new) new) (before : IsStoredTrace represents old header start bodies lost st o) where
    pub remembered : IsTraceNow represents (as_since new) st o before.events before.cluster
    remembered = record {
      setting = before.now.setting;
      trace = subst (λ (fs : List FailureAt). IsTraceOfCall st fs o.kept o.resumed o.base o.first before.events before.cluster) (sym at.failures) before.now.trace;
      code = subst (λ (p : Parts M). IsSavingClusterOf represents (newest_setting st o before.events) p before.cluster) (sym at.since) before.now.code;
      done = subst (λ (ds : List ℕ). (a : ℕ) → a < st.machines → (before.cluster.machine a).done ≡ slice_index_or ds a 0) (sym at.done) before.now.done;
    }

    unfoldable pub passes : IsStoredTrace represents new header start bodies lost st o
    passes =
        let later = goes st o before.events before.cluster remembered in
        record {
          events = before.events ++ later.0;
          cluster = later.1;
          now = later.3;
          keeps = subst (λ (fs : List FailureAt). KeepsUp st fs header start (fronts_in (first_setting st o) (first_cluster st o) (before.events ++ later.0)) (recorded_in (first_setting st o) (first_cluster st o) (before.events ++ later.0)) bodies) (sym at.failures)
              (subst (λ (fronts : List (List Entry)). KeepsUp st old.failures header start fronts (recorded_in (first_setting st o) (first_cluster st o) (before.events ++ later.0)) bodies) (sym (pass_fronts st o before.events later.0 later.2))
              (subst (λ (taken : List Snapshot). KeepsUp st old.failures header start (fronts_in (first_setting st o) (first_cluster st o) before.events) taken bodies) (sym (pass_records st o before.events later.0 later.2)) before.keeps));
          taken = pass_lost st o before.events later.0 later.2 lost before.taken;
        }

    -- the attempt, and what the coordinator knows of the store, are the same
    pub passed_still : IsStill before.cluster passes.cluster
    unfolding passes
    passed_still =
        let later = goes st o before.events before.cluster remembered in
        still_trace later.0 (newest_setting st o before.events) before.cluster later.1 later.2
        (trace_behind before.events later.0 (first_setting st o) (first_cluster st o) before.cluster later.1 before.now.trace.trace later.3.trace.trace)

  module _ (old new : TraceView M) (failures_are : new.failures ≡ old.failures) (header : Header) (start bodies : List (List ℕ)) (lost : List Entry) (st : Setting) (o : CallOpening) where
    module _ (made : Record) (happens : HappensInCall represents old (event.Lead lead.Record) new) (before : IsStoredTrace represents old header start bodies lost st o) (kept : o.kept ≡ stored_order start)
        (behind : IsRecordBehind st (stored_order bodies) before.cluster.base.order (snapshot_due before.cluster.coordinator) made) where
      pub may_record : law.MayOccur (newest_setting st o before.events) before.cluster law.Record
      may_record =
          let has = happens st o before.events before.cluster before.now in
          subst (law.MayOccur (newest_setting st o before.events) before.cluster) has.may.is has.may.may

      unfoldable pub grows : GrowsUp → RecordFits made → NumbersFit made → length made.sections.items ≡ header.machines → IsStoredTrace represents new header start (bodies ++ body_bytes made ∷ []) lost st o
      grows grows_up small fits machines =
          let has = happens st o before.events before.cluster before.now in
          let c : Cluster = before.cluster in
          let due : RecordIsDue st c.coordinator = due_first represents old st o before.events c before.now may_record.1.0 in
          let later : List law.Event = before.events ++ law.Record ∷ [] in
          let more : KeepsUp st old.failures header start (fronts_in (first_setting st o) (first_cluster st o) before.events ++ c.base.order ∷ []) (recorded_in (first_setting st o) (first_cluster st o) before.events ++ snapshot_due c.coordinator ∷ []) (bodies ++ body_bytes made ∷ []) =
          grows_up st old.failures o.kept o.resumed o.base o.first before.events c header start bodies made before.now.trace kept before.keeps due behind small fits machines
          in
          record {
            events = later;
            cluster = law.after_event (newest_setting st o before.events) c law.Record;
            now = subst (λ (e : law.Event). IsTraceNow represents new st o (before.events ++ e ∷ []) (law.after_event (newest_setting st o before.events) c e)) has.may.is has.now;
            keeps = subst (λ (fs : List FailureAt). KeepsUp st fs header start (fronts_in (first_setting st o) (first_cluster st o) later) (recorded_in (first_setting st o) (first_cluster st o) later) (bodies ++ body_bytes made ∷ [])) (sym failures_are)
                (subst (λ (fronts : List (List Entry)). KeepsUp st old.failures header start fronts (recorded_in (first_setting st o) (first_cluster st o) later) (bodies ++ body_bytes made ∷ [])) (sym (record_fronts st o before.events c before.now.trace.trace))
                (subst (λ (taken : List Snapshot). KeepsUp st old.failures header start (fronts_in (first_setting st o) (first_cluster st o) before.events ++ c.base.order ∷ []) taken (bodies ++ body_bytes made ∷ [])) (sym (record_records st o before.events c before.now.trace.trace)) more));
            taken = record_lost st o before.events c before.now.trace.trace lost before.taken;
          }

    module _ (gone : List Entry) (machines : List M) (engine : Engine) (store : Option StoreView) (base : BaseView) (gone_back : HasGoneBack represents old machines engine store new) (before : IsStoredTrace represents old header start bodies lost st o)
        (goes : GoesBackWith represents old machines engine store st o before.events before.cluster base) (takes : TakesAway (newest_setting st o before.events) before.cluster base gone) where
      unfoldable pub returns : IsStoredTrace represents new header start bodies (lost ++ gone) st o
      returns =
          let c : Cluster = before.cluster in
          let later : List law.Event = before.events ++ law.Recover base ∷ [] in
          record {
            events = later;
            cluster = law.recovers (newest_setting st o before.events) base c;
            now = gone_back st o before.events c base goes;
            keeps = subst (λ (fs : List FailureAt). KeepsUp st fs header start (fronts_in (first_setting st o) (first_cluster st o) later) (recorded_in (first_setting st o) (first_cluster st o) later) bodies) (sym failures_are)
                (subst (λ (fronts : List (List Entry)). KeepsUp st old.failures header start fronts (recorded_in (first_setting st o) (first_cluster st o) later) bodies) (sym (recover_fronts st o before.events c before.now.trace.trace base))
                (subst (λ (taken : List Snapshot). KeepsUp st old.failures header start (fronts_in (first_setting st o) (first_cluster st o) before.events) taken bodies) (sym (recover_records st o before.events c before.now.trace.trace base)) before.keeps));
            taken = recover_lost st o before.events c before.now.trace.trace base lost gone before.taken takes;
          }

  -- what is known of it
  pub passes_known : (old new : TraceView M) (header : Header) (start bodies : List (List ℕ)) (lost stored front order : List Entry) (st : Setting) (o : CallOpening) →
      IsRememberedAt old new → TraceGoesOn represents (as_since new) new → IsKnownTrace represents old header start bodies lost stored front order st o → IsKnownTrace represents new header start bodies lost stored front order st o
  passes_known old new header start bodies lost stored front order st o at goes known =
      let still = passed_still old new header start bodies lost st o at goes known.was in
      record {
        kept = known.kept;
        was = passes old new header start bodies lost st o at goes known.was;
        fits = known.fits;
        stored_are = known.stored_are;
        base = still.order ∙ known.base;
        front_are = known.front_are;
        count = still.acknowledged ∙ known.count;
        place = ap (λ (n : ℕ). n + 16 * length stored) still.store_end ∙ known.place;
      }
