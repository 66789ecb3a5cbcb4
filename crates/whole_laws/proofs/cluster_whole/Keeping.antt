-- A move keeps copies, numbers, marks and the cut, and order and cut go on; with locks it keeps each scope in one place.
use Rattle.std.proofs.Common.{◌≡◌, ℕ, ◌⊎◌, refl, sym, ap, subst, inl, inr, ⊎_elim}
use Rattle.std.specs.List.{AllByRecursion}
use Rattle.gl_base.specs.declared.scopes.Datum.{Datum}
use Rattle.gl_base.specs.declared.scopes.ScopeId.{ScopeId}
use Rattle.cluster_laws.specs.cluster_core.Actions.{Action, IsActionStep}
use Rattle.cluster_laws.specs.cluster_core.Marks.{IsMarking}
use Rattle.cluster_laws.specs.cluster_core.Parts.{Part}
use Rattle.cluster_laws.specs.cluster_core.Places.{ArePlaces, IsExclusive}
use Rattle.cluster_laws.specs.cluster_core.Settings.{IsSetting, Locking, Setting}
use Rattle.cluster_laws.specs.cluster_core.Snapshots.{IsConsistent}
use Rattle.cluster_laws.specs.cluster_core.Stages.{Stage}
use Rattle.cluster_laws.specs.cluster_core.Worlds.{World, way, with_part}
use Rattle.cluster_laws.proofs.cluster_core.Basics.{set_at-kept}
use Rattle.cluster_laws.proofs.cluster_numbers.Quiet.{IsQuiet, dones}
use Rattle.cluster_laws.proofs.cluster_numbers.QuietWorlds.{IsQuietStep, copies_quiet, part_quiet, replay_quiet}
use Rattle.cluster_laws.proofs.cluster_places.PlacesKept.{action_keeps}
use Rattle.cluster_laws.proofs.cluster_places.Standing.{aside_keeps}
use Rattle.cluster_laws.specs.cluster_cuts.Goings.{BeginsOne, IsOneStep, StaysSo, UpdatesOne}
use Rattle.cluster_laws.proofs.cluster_cuts.CutFrames.{cut_framed, quiet_named, still_frame}
use Rattle.cluster_laws.proofs.cluster_cuts.CutsKept.{one_step}
use Rattle.cluster_laws.proofs.cluster_cuts.MarkSteps.{IsStillStep, marking-dones, marking-from_dones, marks_still}
use Rattle.whole_laws.specs.cluster_whole.Views.{IsMove, IsTurned, MayTurn}

-- ---- a turn

turned_quiet : (old new : Part) → IsTurned old new → IsQuiet old new
turned_quiet old new turns =
    record {
      datum = ap (λ (p : Part). p.datum) turns;
      edge = ap (λ (p : Part). p.edge) turns;
      task = ap (λ (p : Part). p.task) turns;
      log = ap (λ (p : Part). p.log) turns;
      pending = ap (λ (p : Part). p.pending) turns;
      known = ap (λ (p : Part). p.known) turns;
      saved = ap (λ (p : Part). p.saved) turns;
      sent = ap (λ (p : Part). p.sent) turns;
      out = λ q. λ i. dones ((turns i).out q);
    }

module _ (st : Setting) (is : IsSetting st) (w : World) (kept : IsConsistent st w) (a : ℕ) (new : Part) (turns : IsTurned (w.part a) new) where
  quiet : IsQuiet (w.part a) new
  quiet = turned_quiet (w.part a) new turns

  step : IsQuietStep w (with_part w a new)
  step = part_quiet w a new quiet

  still : IsStillStep w (with_part w a new)
  still =
      record {
        begun = refl;
        acknowledged = refl;
        orders = refl;
        reports = refl;
        collected = refl;
        pending = set_at-kept (λ (p : Part). p.pending) w.part a new quiet.pending;
        known = set_at-kept (λ (p : Part). p.known) w.part a new quiet.known;
        saved = set_at-kept (λ (p : Part). p.saved) w.part a new quiet.saved;
        sent = set_at-kept (λ (p : Part). p.sent) w.part a new quiet.sent;
        marks = λ b u. set_at-kept (λ (p : Part). (p.datum u).mark) w.part a new (ap (λ (f : ℕ → Datum). (f u).mark) quiet.datum) b;
      }

  abbrev turned_next : IsConsistent st (with_part w a new)
  turned_next =
      record {
        order = kept.order;
        copies = copies_quiet st w (with_part w a new) step kept.copies;
        replay = replay_quiet st w (with_part w a new) step kept.order kept.replay;
        marks = marks_still st w (with_part w a new) still kept.marks (λ p q.
            marking-from_dones st w (way (with_part w a new) p q) (subst (AllByRecursion (IsMarking st w)) (sym (step.news p q)) (marking-dones st w (way w p q) (kept.marks.told p q))));
        count = kept.count;
        cut = λ begun. cut_framed st is w (with_part w a new) (still_frame st w (with_part w a new) still (quiet_named w (with_part w a new) step)) kept.marks kept.order kept.count (kept.cut begun);
      }

-- ---- a step, and a turn behind it

module _ (st : Setting) (is : IsSetting st) (old : World) (kept : IsConsistent st old) where
  stands_still : IsOneStep st old kept old
  stands_still = record { next = kept; how = inl (record { order = refl; count = refl; begun = refl; drawn = refl }) }

  how_turned : (mid : World) (next : IsConsistent st mid) (a : ℕ) (new : Part) (turns : IsTurned (mid.part a) new) →
      StaysSo st old kept mid next ⊎ (UpdatesOne st old kept mid next ⊎ BeginsOne st old kept mid next) →
      StaysSo st old kept (with_part mid a new) (turned_next st is mid next a new turns)
      ⊎ (UpdatesOne st old kept (with_part mid a new) (turned_next st is mid next a new turns) ⊎ BeginsOne st old kept (with_part mid a new) (turned_next st is mid next a new turns))
  how_turned mid next a new turns (inl one) = inl (record { order = one.order; count = one.count; begun = one.begun; drawn = one.drawn })
  how_turned mid next a new turns (inr (inl one)) =
      inr (inl (record {
        machine = one.machine;
        vertex = one.vertex;
        within = one.within;
        owned = one.owned;
        order = one.order;
        inside = one.inside;
        outside = one.outside;
        begun = one.begun;
        drawn = one.drawn;
      }))
  how_turned mid next a new turns (inr (inr one)) = inr (inr (record { order = one.order; count = one.count; whole = one.whole; begun = one.begun; drawn = one.drawn }))

  then_turned : (mid new : World) → IsOneStep st old kept mid → MayTurn mid new → IsOneStep st old kept new
  then_turned mid new one turn =
      ⊎_elim
      (λ (same : new ≡ mid). subst (IsOneStep st old kept) (sym same) one)
      (λ (t : (a : ℕ) × (part : Part) × IsTurned (mid.part a) part × (new ≡ with_part mid a part)).
      subst (IsOneStep st old kept) (sym t.3) (record { next = turned_next st is mid one.next t.0 t.1 t.2; how = how_turned mid one.next t.0 t.1 t.2 one.how }))
      turn

  pub move_step : IsExclusive st old → (new : World) → IsMove st old new → IsOneStep st old kept new
  move_step apart new move =
      then_turned move.0 new
      (⊎_elim
      (λ (same : move.0 ≡ old). subst (IsOneStep st old kept) (sym same) stands_still)
      (λ (acted : (action : Action) × IsActionStep st old action move.0). subst (IsOneStep st old kept) (sym acted.1.1) (one_step st is old kept apart acted.0 acted.1.0))
      move.1)
      move.2

-- ---- with locks

abbrev pub Placed : Setting → World → Type 0
Placed st w = (stage : ScopeId → Stage) × ArePlaces st w stage

module _ (st : Setting) (is : IsSetting st) (locks : st.engine ≡ Locking) (old : World) (placed : Placed st old) where
  turned_placed : (mid new : World) → Placed st mid → MayTurn mid new → Placed st new
  turned_placed mid new at turn =
      ⊎_elim
      (λ (same : new ≡ mid). subst (Placed st) (sym same) at)
      (λ (t : (a : ℕ) × (part : Part) × IsTurned (mid.part a) part × (new ≡ with_part mid a part)).
      subst (Placed st) (sym t.3) (
        at.0,
        aside_keeps st mid at.0 at.1 t.0 t.1 (record {
          flight = ap (λ (p : Part). p.flight) t.2;
          ready = ap (λ (p : Part). p.ready) t.2;
          stand = ap (λ (p : Part). p.stand) t.2;
          holder = ap (λ (p : Part). p.holder) t.2;
          queue = ap (λ (p : Part). p.queue) t.2;
          out = ap (λ (p : Part). p.out) t.2;
          serial = ap (λ (p : Part). p.serial) t.2;
        }),
      ))
      turn

  pub move_places : (new : World) → IsMove st old new → Placed st new
  move_places new move =
      turned_placed move.0 new
      (⊎_elim
      (λ (same : move.0 ≡ old). subst (Placed st) (sym same) placed)
      (λ (acted : (action : Action) × IsActionStep st old action move.0). subst (Placed st) (sym acted.1.1) (action_keeps st is locks old placed.0 placed.1 acted.0 acted.1.0))
      move.1)
      move.2
