-- What the machine hears from the coordinator, for each machine of the law.
use Rattle.std.proofs.Common.{◌≡◌, ℕ, ◌+◌, ◌≤◌, false, Some, List, length, refl, sym, ap, ◌∙◌, subst, arith}
use Rattle.update_api.specs.Updates.{Update}
use Rattle.cluster_laws.specs.cluster_core.Messages.{Message}
use Rattle.cluster_laws.specs.cluster_core.Parts.{Part}
use Rattle.cluster_laws.specs.cluster_model.Calls.{Begin, Committed, Step, Wave}
use Rattle.cluster_laws.specs.cluster_model.Working.{asks, commits, takes_call}
use Rattle.snapshot_machines.specs.chromatic.Machines.{IsInSameStep, IsSameColorSnap, with_locking}
use Rattle.snapshot_machines.specs.chromatic.Snapshots.{HasBegunInStep, HasFewerOutside, HasOtherPending}
use Rattle.snapshot_machines.specs.marking.Hearing.{HasBegun}
use Rattle.coordinator.specs.machine_api.Going.{IsSnapSetting}
use Rattle.coordinator.specs.machine_api.Promises.{HasHeard}
use Rattle.snapshot_machines.proofs.locking.HearLemmas.{begun_standing, committed_standing}
use Rattle.snapshot_machines.proofs.locking.WorkLemmas.{asked_standing}
use Rattle.coordinator.specs.snap_update.Snaps.{IsSameButRoom, with_begun, with_committed}
use Rattle.snapshot_machines.specs.wave_counts.Counts.{CountsView}
use Rattle.wire.specs.declared.wire_msgs.messages.Message.TheVariants as sent
use Rattle.placed_machines.specs.chromatic.Prompting.{CanTellCounts, CanTellCountsNow, HasPrompted, HasSlack, HasWantedInSteps}
use Rattle.placed_machines.specs.chromatic.Machines.{AreToldReports, ChromaticMachineView, ColorSnapView, IsChromaticMachineOf, IsColorSnapPart, Machine, ReportsView, Setting, part_of_steps}
use Rattle.placed_machines.proofs.chromatic.ApartLemmas.{apart, coloured, gone_on, kept_on, machine_apart, part_apart, part_in, member_apart, settings_apart, snap_apart, snap_setting_apart}
use Rattle.placed_machines.proofs.chromatic.WorkLemmas.{core_part, more_told, rekept_step, reports_stand}

-- behind a call that puts nothing out for machines, the counts can be told
pub still_told : {P : Type 0} (meaning : P → Update) (x now : ChromaticMachineView P) → HasSlack x → (st : Setting) (a : ℕ) (m : Machine) → IsChromaticMachineOf meaning st a m x → ((q : ℕ) → (part_of_steps now.machine).out q ≡ (part_of_steps x.machine).out q) → now.counts ≡ x.counts → CanTellCounts st now
still_told meaning x now slack st a m is same counts =
    more_told meaning x now slack st is.here.part is.few (λ q. subst (λ (ms : List Message). length ms ≤ length ((part_of_steps x.machine).out q) + 1) (sym (same q)) (omega arith))
    (ap (λ (w : CountsView). w.held) counts) (ap (λ (w : CountsView). w.sent) counts) (subst (λ (w : CountsView). w.received ≤ x.counts.received + 1) (sym counts) (omega arith))

module _ {P : Type 0} (meaning : P → Update) (x : ChromaticMachineView P) (now : ColorSnapView P) (reports : ReportsView) (told : reports.messages ≡ x.reports.messages) where
  abbrev behind : ChromaticMachineView P
  behind = record x { machine = now; reports = reports }

  -- ---- a snapshot begins

  module _ (k : ℕ) (begun : HasBegunInStep x.machine now k) (same : IsSameButRoom (with_begun k x.machine.kept) now.kept) (rest : HasOtherPending x.machine.core now.core) (step : IsInSameStep x.machine now) where
    begins_apart : (st : Setting) → IsColorSnapPart st x.machine → HasBegun x.machine.core x.machine.kept now.core now.kept k
    begins_apart st here other part = ap part_apart (begun (coloured x.machine st here other) (part_in x.machine st here other part))

    begin_stands : (st : Setting) (a : ℕ) (m : Machine) → IsSnapSetting st → IsChromaticMachineOf meaning st a m x → IsChromaticMachineOf meaning st a (takes_call st a (Begin k) m) behind
    begin_stands st a m snap is =
        reports_stand meaning (record x { machine = now }) reports told st a (takes_call st a (Begin k) m) snap
        (kept_on meaning st a m (takes_call st a (Begin k) m) x (record x { machine = now }) is step refl refl refl refl refl
        (begun_standing meaning (member_apart x) (snap_apart now) k (begins_apart st is.here.part) same rest step.same.program (settings_apart x.machine st is.here.part now step.same) (with_locking st) a (machine_apart m) (snap_setting_apart st snap)
        (apart meaning st a m x is)))

    pub heard_begin : (last : ChromaticMachineView P) → HasSlack x → HasPrompted meaning behind last → HasHeard (IsChromaticMachineOf meaning) x (sent.Begin k) last
    heard_begin last slack prompts st c a (Begin j) front =
        prompts st a (takes_call st a (Begin j) (c.machine a)) front.setting
        (subst (λ (i : ℕ). IsChromaticMachineOf meaning st a (takes_call st a (Begin i) (c.machine a)) behind) front.told (begin_stands st a (c.machine a) front.setting front.here))
        (still_told meaning x behind slack st a (c.machine a) front.here (λ q. ap (λ (p : Part). p.out q) (begun st front.here.here.part)) refl)
    heard_begin last slack prompts st c a (Committed j) front = absurd front.told
    heard_begin last slack prompts st c a (Wave j) front = absurd front.told
    heard_begin last slack prompts st c a (Step j) front = absurd front.told

  -- ---- a snapshot is acknowledged

  module _ (k : ℕ) (kept : now.kept ≡ with_committed k x.machine.kept) (fewer : HasFewerOutside x.machine.core now.core) (part : part_of_steps now ≡ part_of_steps x.machine) (step : IsInSameStep x.machine now) (wants : ChromaticMachineView P) (asked : HasWantedInSteps behind wants) where
    committed_stands : (st : Setting) (a : ℕ) (m : Machine) → IsSnapSetting st → IsChromaticMachineOf meaning st a m x → IsChromaticMachineOf meaning st a (asks st (commits k m)) wants
    committed_stands st a m snap is =
        let locking = snap_setting_apart st snap in
        let there = committed_standing meaning (member_apart x) (snap_apart now) k kept fewer (core_part x.machine now step st is.here.part part) step.same.program (settings_apart x.machine st is.here.part now step.same) reports told (with_locking st) a (machine_apart m)
        (apart meaning st a m x is) in
        kept_on meaning st a m (asks st (commits k m)) x wants is
        (subst (λ (y : ChromaticMachineView P). IsInSameStep x.machine y.machine) (sym asked) (rekept_step x.machine now _ step)) refl refl refl refl (ap (λ (y : ChromaticMachineView P). y.counts.held) asked)
        (asked_standing meaning (with_locking st) a (commits k (machine_apart m)) (member_apart behind) there (member_apart wants) (ap member_apart asked))

    pub heard_committed : (last : ChromaticMachineView P) → HasSlack x → HasPrompted meaning wants last → HasHeard (IsChromaticMachineOf meaning) x (sent.Committed k) last
    heard_committed last slack prompts st c a (Committed j) front =
        prompts st a (asks st (commits j (c.machine a))) front.setting
        (subst (λ (i : ℕ). IsChromaticMachineOf meaning st a (asks st (commits i (c.machine a))) wants) front.told (committed_stands st a (c.machine a) front.setting front.here))
        (still_told meaning x wants slack st a (c.machine a) front.here (λ q. ap (λ (y : ChromaticMachineView P). (part_of_steps y.machine).out q) asked ∙ ap (λ (p : Part). p.out q) part) (ap (λ (y : ChromaticMachineView P). y.counts) asked))
    heard_committed last slack prompts st c a (Begin j) front = absurd front.told
    heard_committed last slack prompts st c a (Wave j) front = absurd front.told
    heard_committed last slack prompts st c a (Step j) front = absurd front.told

  -- ---- a step begins

  module _ (colour : ℕ) (rest : now ≡ record x.machine { colour = colour; closed = false }) (same : IsSameColorSnap x.machine now) where
    abbrev stepped : ColorSnapView P
    stepped = record x.machine { colour = colour; closed = false }

    step_stands : (st : Setting) (a : ℕ) (m : Machine) → IsSnapSetting st → IsChromaticMachineOf meaning st a m x → IsChromaticMachineOf meaning st a (takes_call st a (Step colour) m) behind
    step_stands st a m snap is =
        reports_stand meaning (record x { machine = now }) reports told st a (takes_call st a (Step colour) m) snap
        (subst (λ (y : ColorSnapView P). IsChromaticMachineOf meaning st a (takes_call st a (Step colour) m) (record x { machine = y })) (sym rest)
        (gone_on meaning st a m (takes_call st a (Step colour) m) x (record x { machine = stepped }) is (subst (IsSameColorSnap x.machine) rest same) refl refl refl is.counts.held (apart meaning st a m x is)))

    pub heard_step : (last : ChromaticMachineView P) → HasSlack x → HasPrompted meaning behind last → HasHeard (IsChromaticMachineOf meaning) x (sent.Step colour) last
    heard_step last slack prompts st c a (Step j) front =
        prompts st a (takes_call st a (Step j) (c.machine a)) front.setting
        (subst (λ (i : ℕ). IsChromaticMachineOf meaning st a (takes_call st a (Step i) (c.machine a)) behind) front.told (step_stands st a (c.machine a) front.setting front.here))
        (still_told meaning x behind slack st a (c.machine a) front.here (λ q. ap (λ (y : ColorSnapView P). (part_of_steps y).out q) rest) refl)
    heard_step last slack prompts st c a (Begin j) front = absurd front.told
    heard_step last slack prompts st c a (Committed j) front = absurd front.told
    heard_step last slack prompts st c a (Wave j) front = absurd front.told

-- ---- a wave

module _ {P : Type 0} (meaning : P → Update) (x : ChromaticMachineView P) (reports : ReportsView) (told : reports.messages ≡ x.reports.messages) (wave : ℕ) (can : CanTellCountsNow x) where
  abbrev holding : ChromaticMachineView P
  holding = record x { counts = record x.counts { held = Some wave }; reports = reports }

  wave_stands : (st : Setting) (a : ℕ) (m : Machine) → IsChromaticMachineOf meaning st a m x → IsChromaticMachineOf meaning st a (takes_call st a (Wave wave) m) holding
  wave_stands st a m is =
      record {
        here = is.here;
        few = is.few;
        number = is.number;
        window = is.window;
        part = is.part;
        free = is.free;
        kept = record {
          known = is.kept.known;
          sent = is.kept.sent;
          acknowledged = is.kept.acknowledged;
          wanted = is.kept.wanted;
          saved = is.kept.saved;
          before = is.kept.before;
          behind = is.kept.behind;
          unsure = is.kept.unsure;
        };
        counts = record { sent = is.counts.sent; received = is.counts.received; held = refl };
        plans = record { many = is.plans.many; planned = is.plans.planned; others = is.plans.others };
        saved = is.saved;
        once = is.once;
        reports = subst (λ ms. AreToldReports ms m.out) (sym told) is.reports;
      }

  pub heard_wave : (last : ChromaticMachineView P) → HasPrompted meaning holding last → HasHeard (IsChromaticMachineOf meaning) x (sent.Wave wave) last
  heard_wave last prompts st c a (Wave j) front =
      prompts st a (takes_call st a (Wave j) (c.machine a)) front.setting
      (subst (λ (i : ℕ). IsChromaticMachineOf meaning st a (takes_call st a (Wave i) (c.machine a)) holding) front.told (wave_stands st a (c.machine a) front.here))
      (λ held. let one = can st front.here.here.part in record { sent = one.sent; received = one.received; sum = one.sum })
  heard_wave last prompts st c a (Begin j) front = absurd front.told
  heard_wave last prompts st c a (Committed j) front = absurd front.told
  heard_wave last prompts st c a (Step j) front = absurd front.told
