-- What is due, as the law has it.
use Rattle.std.proofs.Common.{◌≡◌, ℕ, suc, ◌+◌, ◌<◌, true, false, inl, inr, refl, sym, ap, add-one, arith, subst, ◌∙◌}
use Rattle.std.specs.Prelude.{◌⊎◌}
use Rattle.cluster_laws.specs.cluster_core.Settings as law
use Rattle.cluster_laws.specs.cluster_model.Events.{MayDo, PutBegin, PutStep, PutWave, Record}
use Rattle.cluster_laws.specs.cluster_model.Leading.{IsWaveTime, RecordIsDue, SnapshotIsDue}
use Rattle.cluster_laws.specs.cluster_model.Rounds.{StepIsDue, with_step}
use Rattle.coordinator.specs.declared.coord_core.leading.Due.TheVariants as due
use Rattle.coordinator.specs.declared.coord_core.steps.Engine.{Engine}
use Rattle.coordinator.specs.declared.coord_core.steps.Engine.TheVariants.{Chromatic, Locking}
use Rattle.coordinator.specs.coord_core.Calls.{EndIsDue, IsDueOf}
use Rattle.coordinator.specs.coord_core.Coordinators.{Cluster, Coordinator, Counting, CoordinatorView, IsCoordinatorOf, IsEngineOf, SavingView, Setting}
use Rattle.coordinator.specs.coord_core.Inner.Kept.{IsSavingKept}
use Rattle.coordinator.specs.coord_core.Inner.Seen.{SeesEnd, IsWaveTurn, WantsSnapshot, WantsStep}
use Rattle.coordinator.specs.coord_core.Saving.{HasRoomForRecord, IsRecordDue}
use Rattle.coordinator.specs.coord_core.Steps.{colour_in_turn}
use Rattle.coordinator.proofs.coord_core.SavingLemmas.{law_seen, may_record, own_may_record, own_record_due, own_seen, own_settled, own_snapshot_due, record_due, settled, snapshot_due, stored_where_due}
use Rattle.coordinator.proofs.coord_core.StepLemmas.{IsNext, colour_of, law_next, own_next}

less_not : (x y : ℕ) → x < y → x ≡ y → ⊥
less_not x y less same = omega arith

-- ---- whose turn it is

law_time : (engine : Engine) (is : law.Engine) (s : SavingView) (c : Coordinator) → IsEngineOf engine is → (s.acknowledged ≡ s.begun → c.acknowledged ≡ c.begun) →
    IsWaveTurn engine s → IsWaveTime is c
law_time Locking is s c same settles time = subst (λ (e : law.Engine). IsWaveTime e c) (sym same) (settles time)
law_time (Chromatic colours) is s c same settles time = subst (λ (e : law.Engine). IsWaveTime e c) (sym same.1) tt

own_time : (engine : Engine) (is : law.Engine) (s : SavingView) (c : Coordinator) → IsEngineOf engine is → (c.acknowledged ≡ c.begun → s.acknowledged ≡ s.begun) →
    IsWaveTime is c → IsWaveTurn engine s
own_time Locking is s c same settles time = settles (subst (λ (e : law.Engine). IsWaveTime e c) same time)
own_time (Chromatic colours) is s c same settles time = tt

module _ (view : CoordinatorView) (kept : IsSavingKept view.saving) where
  whole_is : (st : Setting) (c : Coordinator) → IsCoordinatorOf st view c → c.rounds.counting.waiting ≡ view.counting.waiting
  whole_is st c of = ap (λ (counting : Counting). counting.waiting) of.counting

  -- ---- the end

  law_end : (st : Setting) (c : Coordinator) → IsCoordinatorOf st view c → (WantsSnapshot view → ⊥) → SeesEnd view → EndIsDue st c
  law_end st c of unwanted sees = (
    (λ due. unwanted (own_snapshot_due view kept st c of due)),
    settled view kept st c of sees.none,
    law_seen view kept st c of sees.seen,
  )

  own_end : (st : Setting) (c : Coordinator) → IsCoordinatorOf st view c → EndIsDue st c → SeesEnd view
  own_end st c of due = record { none = own_settled view kept st c of due.1; seen = own_seen view kept st c of due.2 }

  -- ---- a step

  step_due : (st : Setting) (c : Coordinator) → IsCoordinatorOf st view c → WantsStep view → StepIsDue st.engine c.rounds
  step_due st c of wants =
      law_next view.steps.engine st.engine view.steps c.rounds view.counting of.engine of.steps of.counting
      (record { some = wants.some; whole = wants.whole; over = wants.over })

  own_step_due : (st : Setting) (c : Coordinator) → IsCoordinatorOf st view c → StepIsDue st.engine c.rounds → WantsStep view
  own_step_due st c of due =
      let next : IsNext view.steps.engine view.steps view.counting =
      own_next view.steps.engine st.engine view.steps c.rounds view.counting of.engine of.steps of.counting due
      in
      record { some = next.some; whole = next.whole; over = next.over }

  -- a step may be put out where the next one is to begin and no snapshot is due
  pub may_step : WantsStep view → (WantsSnapshot view → ⊥) → (st : Setting) (c : Cluster) → IsCoordinatorOf st view c.coordinator → MayDo st c PutStep
  may_step wants unwanted st c of = ((λ due. unwanted (own_snapshot_due view kept st c.coordinator of due)), step_due st c.coordinator of wants)

  -- and elsewhere none
  pub may_not_step : WantsSnapshot view ⊎ (WantsStep view → ⊥) → (st : Setting) (c : Cluster) → IsCoordinatorOf st view c.coordinator → MayDo st c PutStep → ⊥
  may_not_step why st c of may = elim why [
    | inl wanted ↦ may.0 (snapshot_due view kept st c.coordinator of wanted)
    | inr undue ↦ undue (own_step_due st c.coordinator of may.1)
  ]

  -- ---- a wave

  -- a wave may be put out where no answers are missing, it is its turn, and neither a snapshot nor a step is due
  pub may_put : view.counting.waiting ≡ false → IsWaveTurn view.steps.engine view.saving → (WantsSnapshot view → ⊥) → (WantsStep view → ⊥) →
      (st : Setting) (c : Cluster) → IsCoordinatorOf st view c.coordinator → MayDo st c PutWave
  may_put whole turn unwanted undue st c of = (
    (λ due. unwanted (own_snapshot_due view kept st c.coordinator of due)),
    (λ due. undue (own_step_due st c.coordinator of due)),
    record {
      time = law_time view.steps.engine st.engine view.saving c.coordinator of.engine (settled view kept st c.coordinator of) turn;
      whole = whole_is st c.coordinator of ∙ whole;
    },
  )

  -- answers are missing, or it is a snapshot's turn
  no_wave : (view.counting.waiting ≡ true) ⊎ (IsWaveTurn view.steps.engine view.saving → ⊥) →
      (st : Setting) (c : Cluster) → IsCoordinatorOf st view c.coordinator → MayDo st c PutWave → ⊥
  no_wave why st c of may = elim why [
    | inl missing ↦
        let whole : false ≡ true = sym may.2.whole ∙ whole_is st c.coordinator of ∙ missing in
        absurd (cc)
    | inr early ↦ early (own_time view.steps.engine st.engine view.saving c.coordinator of.engine (own_settled view kept st c.coordinator of) may.2.time)
  ]

  -- and elsewhere none
  pub may_not_put : ((view.counting.waiting ≡ true) ⊎ (IsWaveTurn view.steps.engine view.saving → ⊥)) ⊎ (WantsSnapshot view ⊎ WantsStep view) →
      (st : Setting) (c : Cluster) → IsCoordinatorOf st view c.coordinator → MayDo st c PutWave → ⊥
  may_not_put why st c of may = elim why [
    | inl early ↦ no_wave early st c of may
    | inr other ↦ elim other [
      | inl wanted ↦ may.0 (snapshot_due view kept st c.coordinator of wanted)
      | inr due ↦ may.1 (step_due st c.coordinator of due)
    ]
  ]

  -- ---- a record

  pub may_record_it : IsRecordDue view.saving → HasRoomForRecord view.saving → (st : Setting) (c : Cluster) → IsCoordinatorOf st view c.coordinator → MayDo st c Record
  may_record_it is room st c of = (record_due view kept st c.coordinator of is, may_record view kept st c.coordinator of is room)

  pub may_not_record : (IsRecordDue view.saving → ⊥) ⊎ (HasRoomForRecord view.saving → ⊥) → (st : Setting) (c : Cluster) → IsCoordinatorOf st view c.coordinator → MayDo st c Record → ⊥
  may_not_record why st c of may = elim why [
    | inl undue ↦ undue (own_record_due view kept st c.coordinator of may.0)
    | inr full ↦ full (own_may_record view kept st c.coordinator of may.0 may.1)
  ]

  pub may_begin : WantsSnapshot view → (st : Setting) (c : Cluster) → IsCoordinatorOf st view c.coordinator → MayDo st c PutBegin
  may_begin wants st c of = snapshot_due view kept st c.coordinator of wants

  -- ---- what is due

  begun_is : IsRecordDue view.saving → (st : Setting) (c : Coordinator) → IsCoordinatorOf st view c → view.saving.begun ≡ c.begun
  begun_is is st c of = sym (of.saving (stored_where_due view kept st c of is)).begun

  next_is : WantsSnapshot view → (st : Setting) (c : Coordinator) → IsCoordinatorOf st view c → view.saving.begun + 1 ≡ suc c.begun
  next_is wants st c of = add-one view.saving.begun ∙ ap suc (sym (of.saving (of.stored ∙ wants.stored)).begun)

  colour_is : WantsStep view → (st : Setting) (c : Coordinator) → IsCoordinatorOf st view c → colour_in_turn view.steps.engine view.steps.colour ≡ (with_step st.engine c.rounds).colour
  colour_is wants st c of = sym (colour_of view.steps.engine st.engine view.steps c.rounds of.engine wants.some of.steps)

  pub due_record : IsRecordDue view.saving → IsDueOf view (due.Record view.saving.begun)
  due_record is = record {
    saved = λ st c k of.
        let law_is : RecordIsDue st c = record_due view kept st c of is in (
          (λ same. (law_is, (let e : k ≡ view.saving.begun = cc in e) ∙ begun_is is st c of)),
          (λ has. ap due.Record (begun_is is st c of ∙ sym has.1)),
        );
    snapshot = λ st c k of. (
      (λ same. absurd (cc)),
      (λ has. absurd (less_not c.acknowledged c.begun (record_due view kept st c of is).under has.0.none)),
    );
    ended = λ st c of. (
      (λ same. absurd (cc)),
      (λ has. absurd (less_not c.acknowledged c.begun (record_due view kept st c of is).under has.1)),
    );
    step = λ st c k of. ((λ same. absurd (cc)), (λ has. absurd (has.0 (record_due view kept st c.coordinator of is))));
    wave = λ st c of. ((λ same. absurd (cc)), (λ has. absurd (has.0 (record_due view kept st c.coordinator of is))));
  }

  module _ (unsaved : IsRecordDue view.saving → ⊥) where
    no_record : (st : Setting) (c : Coordinator) → IsCoordinatorOf st view c → RecordIsDue st c → ⊥
    no_record st c of is = unsaved (own_record_due view kept st c of is)

    pub due_snapshot : WantsSnapshot view → IsDueOf view (due.Snapshot (view.saving.begun + 1))
    due_snapshot wants = record {
      saved = λ st c k of. ((λ same. absurd (cc)), (λ has. absurd (no_record st c of has.0)));
      snapshot = λ st c k of. (
        (λ same. (snapshot_due view kept st c of wants, (let e : k ≡ view.saving.begun + 1 = cc in e) ∙ next_is wants st c of)),
        (λ has. ap due.Snapshot (next_is wants st c of ∙ sym has.1)),
      );
      ended = λ st c of. ((λ same. absurd (cc)), (λ has. absurd (has.0 (snapshot_due view kept st c of wants))));
      step = λ st c k of. ((λ same. absurd (cc)), (λ has. absurd (has.2.0 (snapshot_due view kept st c.coordinator of wants))));
      wave = λ st c of. ((λ same. absurd (cc)), (λ has. absurd (has.2.0 (snapshot_due view kept st c.coordinator of wants))));
    }

    module _ (unwanted : WantsSnapshot view → ⊥) where
      no_snapshot : (st : Setting) (c : Coordinator) → IsCoordinatorOf st view c → SnapshotIsDue st c → ⊥
      no_snapshot st c of is = unwanted (own_snapshot_due view kept st c of is)

      pub due_ended : SeesEnd view → IsDueOf view due.Ended
      due_ended sees = record {
        saved = λ st c k of. ((λ same. absurd (cc)), (λ has. absurd (no_record st c of has.0)));
        snapshot = λ st c k of. ((λ same. absurd (cc)), (λ has. absurd (no_snapshot st c of has.0)));
        ended = λ st c of. ((λ same. law_end st c of unwanted sees), (λ has. refl));
        step = λ st c k of. ((λ same. absurd (cc)), (λ has. absurd (has.1 (law_end st c.coordinator of unwanted sees))));
        wave = λ st c of. ((λ same. absurd (cc)), (λ has. absurd (has.1 (law_end st c.coordinator of unwanted sees))));
      }

      module _ (endless : SeesEnd view → ⊥) where
        no_end : (st : Setting) (c : Coordinator) → IsCoordinatorOf st view c → EndIsDue st c → ⊥
        no_end st c of has = endless (own_end st c of has)

        pub due_step : WantsStep view → IsDueOf view (due.Step (colour_in_turn view.steps.engine view.steps.colour))
        due_step wants = record {
          saved = λ st c k of. ((λ same. absurd (cc)), (λ has. absurd (no_record st c of has.0)));
          snapshot = λ st c k of. ((λ same. absurd (cc)), (λ has. absurd (no_snapshot st c of has.0)));
          ended = λ st c of. ((λ same. absurd (cc)), (λ has. absurd (no_end st c of has)));
          step = λ st c k of. (
            (λ same. (
              no_record st c.coordinator of,
              no_end st c.coordinator of,
              may_step wants unwanted st c of,
              (let e : k ≡ colour_in_turn view.steps.engine view.steps.colour = cc in e) ∙ colour_is wants st c.coordinator of,
            )),
            (λ has. ap due.Step (colour_is wants st c.coordinator of ∙ sym has.3)),
          );
          wave = λ st c of. ((λ same. absurd (cc)), (λ has. absurd (has.2.1 (step_due st c.coordinator of wants))));
        }

        module _ (undue : WantsStep view → ⊥) where
          no_step : (st : Setting) (c : Cluster) → IsCoordinatorOf st view c.coordinator → MayDo st c PutStep → ⊥
          no_step st c of may = undue (own_step_due st c.coordinator of may.1)

          pub due_wave : view.counting.waiting ≡ false → IsWaveTurn view.steps.engine view.saving → IsDueOf view due.Wave
          due_wave whole turn = record {
            saved = λ st c k of. ((λ same. absurd (cc)), (λ has. absurd (no_record st c of has.0)));
            snapshot = λ st c k of. ((λ same. absurd (cc)), (λ has. absurd (no_snapshot st c of has.0)));
            ended = λ st c of. ((λ same. absurd (cc)), (λ has. absurd (no_end st c of has)));
            step = λ st c k of. ((λ same. absurd (cc)), (λ has. absurd (no_step st c of has.2)));
            wave = λ st c of. (
              (λ same. (no_record st c.coordinator of, no_end st c.coordinator of, may_put whole turn unwanted undue st c of)),
              (λ has. refl),
            );
          }

          pub due_nothing : (view.counting.waiting ≡ true) ⊎ (IsWaveTurn view.steps.engine view.saving → ⊥) → IsDueOf view due.Nothing
          due_nothing early = record {
            saved = λ st c k of. ((λ same. absurd (cc)), (λ has. absurd (no_record st c of has.0)));
            snapshot = λ st c k of. ((λ same. absurd (cc)), (λ has. absurd (no_snapshot st c of has.0)));
            ended = λ st c of. ((λ same. absurd (cc)), (λ has. absurd (no_end st c of has)));
            step = λ st c k of. ((λ same. absurd (cc)), (λ has. absurd (no_step st c of has.2)));
            wave = λ st c of. ((λ same. absurd (cc)), (λ has. absurd (no_wave early st c of has.2)));
          }
