-- Snapshot updates and sections, for each machine of the law.
use Rattle.std.proofs.Common.{◌≡◌, ◌↔◌, ℕ, ◌+◌, ◌≤◌, ◌++◌, Bool, true, false, true≢false, Option, Some, List, [], ◌∷◌, length, refl, sym, ap, ◌∙◌, subst, arith}
use Rattle.gl_base.specs.declared.numbers.MachineNo.{MachineNo}
use Rattle.gl_base.specs.declared.scopes.ScopeId.{ScopeId}
use Rattle.update_api.specs.Updates.{Update}
use Rattle.cluster_laws.specs.cluster_core.Actions.{MayMark, MaySend}
use Rattle.cluster_laws.specs.cluster_core.Effects.{marked}
use Rattle.cluster_laws.specs.cluster_core.Messages.{Message}
use Rattle.cluster_laws.specs.cluster_core.Parts.{Part}
use Rattle.cluster_laws.specs.cluster_model.Working.{makes_mark, prompt, sections}
use Rattle.snapshot_machines.specs.chromatic.Machines.{IsInSameStep, with_locking}
use Rattle.snapshot_machines.specs.chromatic.Snapshots.{HasEndedPlan, HasMarkedInStep, HasSavedMore, HasSavedOnce, MayNotSendInStep, MaySendInStep}
use Rattle.machine_core.specs.machine_parts.Order.{IsOrderly}
use Rattle.cluster_laws.proofs.known_parts.GuardLemmas.{alike_turned, mark_may, send_may}
use Rattle.snapshot_machines.specs.marking.Marking.{HasMarked}
use Rattle.snapshot_machines.specs.marking.Sending.{MaySendSection}
use Rattle.coordinator.specs.machine_api.Deeds.{Mark as MarkDeed, Section as SectionDeed, marks_centre}
use Rattle.coordinator.specs.machine_api.Going.{IsSnapSetting}
use Rattle.coordinator.specs.machine_api.Promises.{CanDo, CanNotDo, HasDone, MayBeDone, OfEach}
use Rattle.snapshot_machines.proofs.locking.MarkLemmas.{marked_standing, section_sent}
use Rattle.snapshot_machines.proofs.locking.StandLemmas.{prompt_still}
use Rattle.snapshot_machines.specs.locking.Machines.{IsLockingMachineOf}
use Rattle.coordinator.specs.snap_update.Snaps.{IsSameButRoom, own_section, with_section}
use Rattle.wire.specs.wire_msgs.Views as wire
use Rattle.placed_machines.specs.chromatic.Prompting.{CanTellCounts, HasPrompted, HasSlack}
use Rattle.placed_machines.specs.chromatic.Machines.{ChromaticMachineView, ColorSnapView, IsChromaticMachineOf, IsColorSnapPart, Machine, ReportsView, Setting, part_of_steps}
use Rattle.placed_machines.proofs.chromatic.ApartLemmas.{apart, coloured, kept_on, machine_apart, part_apart, part_in, same_step, member_apart, settings_apart, snap_apart, snap_setting_apart}
use Rattle.placed_machines.proofs.chromatic.WorkLemmas.{marked_short, more_told, rekept_step, reports_stand}

-- ---- a snapshot update

module _ {P : Type 0} (meaning : P → Update) (x : ChromaticMachineView P) (now : ColorSnapView P) (reports : ReportsView) (orderly : IsOrderly x.machine.core) (s : ScopeId) (has : HasMarkedInStep x.machine now s) (more : HasSavedMore x.machine.kept now.kept)
    (once : HasSavedOnce x.machine.core x.machine.kept now.kept s) (plan : HasEndedPlan x.machine.core now.core s) (local : now.core.numbers.local ≡ record x.machine.core.numbers.local { kept = now.core.numbers.local.kept }) (step : IsInSameStep x.machine now)
    (told : reports.messages ≡ x.reports.messages) where
  abbrev v : ℕ
  v = has.may.vertex

  abbrev marking : ChromaticMachineView P
  marking = record x { machine = now; reports = reports }

  -- as for a machine that takes locks
  abbrev marks : (st : Setting) → IsColorSnapPart st x.machine → HasMarked x.machine.core x.machine.kept now.core now.kept s
  marks st here =
      record {
        may = record { vertex = has.may.vertex; flight = has.may.flight; ready = has.may.ready; pending = has.may.pending };
        home = has.home;
        after = λ other setting part. ap part_apart (has.after (coloured x.machine st here other) (record { graph = setting.graph; owner = setting.owner }) (part_in x.machine st here other part));
      }

  module _ (st : Setting) (a : ℕ) (m : Machine) (snap : IsSnapSetting st) (is : IsChromaticMachineOf meaning st a m x) where
    abbrev new : Machine
    new = makes_mark st a s v m

    marked_apart : IsLockingMachineOf meaning (with_locking st) a (machine_apart new) (member_apart (record x { machine = now }))
    marked_apart =
        marked_standing meaning (member_apart x) (snap_apart now) orderly s (marks st is.here.part) more once plan local step.same.program (settings_apart x.machine st is.here.part now step.same) (with_locking st) a (machine_apart m) (snap_setting_apart st snap)
        (apart meaning st a m x is)

    marked_stands : IsChromaticMachineOf meaning st a new marking
    marked_stands =
        let one : IsChromaticMachineOf meaning st a new (record x { machine = now }) = kept_on meaning st a m new x (record x { machine = now }) is step refl refl refl refl refl marked_apart in
        reports_stand meaning (record x { machine = now }) reports told st a new snap one

    can_tell : HasSlack x → CanTellCounts st marking
    can_tell slack =
        let part : part_of_steps now ≡ marked st s.home.0 s v (part_of_steps x.machine) = has.after st is.here.is is.here.part in
        more_told meaning x marking slack st is.here.part is.few
        (λ q. subst (λ (ms : List Message). length ms ≤ length ((part_of_steps x.machine).out q) + 1) (sym (ap (λ (p : Part). p.out q) part)) (marked_short meaning st s.home.0 s v (part_of_steps x.machine) q)) refl refl (omega arith)

  pub marked_one : (last : ChromaticMachineView P) → HasSlack x → HasPrompted meaning marking last → HasDone (IsChromaticMachineOf meaning) x (MarkDeed s) last
  marked_one last slack prompts st a m snap is =
      let may_m : MayMark s m.part = mark_may st a (part_of_steps x.machine) m.part (alike_turned st a m.part (part_of_steps x.machine) is.part) s has.may in
      let flight : m.part.flight s ≡ Some v = ap (λ (p : Part). p.flight s) is.part.rest ∙ has.may.flight in (
        (ap (λ (n : MachineNo). n.0) has.home ∙ is.number, may_m),
        subst (λ (o : Option ℕ). IsChromaticMachineOf meaning st a (prompt st a (marks_centre st a s o m)) last) (sym flight)
            (prompts st a (makes_mark st a s v m) snap (marked_stands st a m snap is) (can_tell st a m snap is slack)),
      )

module _ {P : Type 0} (meaning : P → Update) (x : ChromaticMachineView P) where
  pub can_mark : (s : ScopeId) → MayMark s (part_of_steps x.machine) → s.home ≡ x.machine.core.numbers.local.me → CanDo (IsChromaticMachineOf meaning) x (MarkDeed s)
  can_mark s may home st a m snap is = (ap (λ (n : MachineNo). n.0) home ∙ is.number, mark_may st a (part_of_steps x.machine) m.part (alike_turned st a m.part (part_of_steps x.machine) is.part) s may)

  pub can_not_mark : (s : ScopeId) → (MayMark s (part_of_steps x.machine) → ⊥) → CanNotDo (IsChromaticMachineOf meaning) x (MarkDeed s)
  can_not_mark s not st a m snap is may = not (mark_may st a m.part (part_of_steps x.machine) is.part s may.1)

  -- ---- sections

  pub can_send : MaySendInStep x.machine → CanDo (IsChromaticMachineOf meaning) x SectionDeed
  can_send may st a m snap is =
      send_may st a (part_of_steps x.machine) m.part (alike_turned st a m.part (part_of_steps x.machine) is.part) snap.is (subst (λ (k : ℕ). MaySend st k (part_of_steps x.machine)) is.number (may st is.here.part))

  pub can_not_send : MayNotSendInStep x.machine → CanNotDo (IsChromaticMachineOf meaning) x SectionDeed
  can_not_send not st a m snap is may = not st is.here.part (subst (λ (k : ℕ). MaySend st k (part_of_steps x.machine)) (sym is.number) (send_may st a m.part (part_of_steps x.machine) is.part snap.is may))

  pub section_due : (b : Bool) → (b ≡ true → MaySendInStep x.machine) → (b ≡ false → MayNotSendInStep x.machine) → OfEach (IsChromaticMachineOf meaning) x (λ st a m. (b ≡ true) ↔ MayBeDone st a m SectionDeed)
  section_due true can cannot st a m snap is = (λ due. can_send (can refl) st a m snap is, λ may. refl)
  section_due false can cannot st a m snap is = (λ due. absurd (true≢false (sym due)), λ may. absurd (can_not_send (cannot refl) st a m snap is may))

  -- as for a machine that takes locks
  sends : (st : Setting) → IsColorSnapPart st x.machine → MaySendInStep x.machine → MaySendSection x.machine.core x.machine.kept
  sends st here may other part =
      let one = may (coloured x.machine st here other) (part_in x.machine st here other part) in
      record { begun = one.begun; marked = one.marked; unsent = one.unsent }

  module _ (now : ColorSnapView P) (reports : ReportsView) (may : MaySendInStep x.machine) (same : IsSameButRoom (with_section x.machine.kept) now.kept) (rest : now ≡ record x.machine { kept = now.kept })
      (told : reports.messages ≡ x.reports.messages ++ wire.Section (own_section x.machine.kept) ∷ []) where
    abbrev sent : ChromaticMachineView P
    sent = record x { machine = record x.machine { kept = now.kept }; reports = reports }

    sent_stands : (st : Setting) (a : ℕ) (m : Machine) → IsSnapSetting st → IsChromaticMachineOf meaning st a m x → IsChromaticMachineOf meaning st a (sections m) sent
    sent_stands st a m snap is =
        let done = section_sent meaning (member_apart x) now.kept reports (sends st is.here.part may) same told (with_locking st) a (machine_apart m) (snap_setting_apart st snap) (apart meaning st a m x is) in
        kept_on meaning st a m (sections m) x sent is (rekept_step x.machine x.machine now.kept (same_step x.machine)) refl refl refl refl refl
        (subst (λ (n : Machine). IsLockingMachineOf meaning (with_locking st) a n (member_apart sent)) (prompt_still (with_locking st) a (machine_apart (sections m)) refl refl) done.1)

    pub section_one : (last : ChromaticMachineView P) → HasSlack x → HasPrompted meaning (record x { machine = now; reports = reports }) last → HasDone (IsChromaticMachineOf meaning) x SectionDeed last
    section_one last slack prompts st a m snap is =
        let there : IsChromaticMachineOf meaning st a (sections m) (record x { machine = now; reports = reports }) =
        subst (λ (y : ColorSnapView P). IsChromaticMachineOf meaning st a (sections m) (record x { machine = y; reports = reports })) (sym rest) (sent_stands st a m snap is) in (
          can_send may st a m snap is,
          prompts st a (sections m) snap there
              (more_told meaning x (record x { machine = now; reports = reports }) slack st is.here.part is.few
              (λ q. subst (λ (y : ColorSnapView P). length ((part_of_steps y).out q) ≤ length ((part_of_steps x.machine).out q) + 1) (sym rest) (omega arith)) refl refl (omega arith)),
        )
