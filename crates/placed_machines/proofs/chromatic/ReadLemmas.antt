-- What is read of the machine, and what leaves it, for each machine of the law.
use Rattle.std.proofs.Common.{◌≡◌, ◌↔◌, true, Bool, None, Some, [], refl, ap}
use Rattle.std.specs.Prelude.{slice_get}
use Rattle.gl_base.specs.declared.numbers.MachineNo.{MachineNo}
use Rattle.gl_base.specs.declared.scopes.Peer.TheVariants as peer
use Rattle.update_api.specs.Updates.{Update}
use Rattle.cluster_laws.specs.cluster_core.Actions.{HasFirst}
use Rattle.cluster_laws.specs.cluster_model.Events.{HasNext}
use Rattle.cluster_laws.specs.cluster_model.Working.{fails, hands, hands_report}
use Rattle.snapshot_machines.specs.chromatic.Machines.{IsInSameStep, with_locking}
use Rattle.wire.specs.outboxes.Outboxes.{has_waiting, outbox_to, waiting_for, with_outbox, without_first}
use Rattle.coordinator.specs.machine_api.Promises.{IsReporting, OfEach, SendsItsFirst, StandsStill}
use Rattle.snapshot_machines.proofs.locking.AnswerLemmas.{message_back as back_apart, message_now as now_apart}
use Rattle.snapshot_machines.proofs.locking.ReadLemmas.{message_waits as waits_apart, messages_none as none_apart, report_taken as taken_apart, reporting as reporting_apart, reports_none as no_reports_apart, reports_still as still_apart}
use Rattle.snapshot_machines.specs.locking.Reports.{ReportsView, has_report, reports_left}
use Rattle.snapshot_machines.specs.wave_counts.Counts.{CountsView, one_more}
use Rattle.wire.specs.wire_msgs.Views.{message_view}
use Rattle.wire.specs.declared.wire_msgs.messages.Message as message
use Rattle.placed_machines.specs.chromatic.Machines.{ChromaticMachineView, ColorSnapView, IsChromaticMachineOf}
use Rattle.placed_machines.proofs.chromatic.ApartLemmas.{apart, counts_apart, kept_on, machine_apart, same_step, member_apart, settings_apart, snap_apart, snap_setting_apart, stands_apart}

module _ {P : Type 0} (meaning : P → Update) (x : ChromaticMachineView P) where
  -- ---- reports

  pub reporting : (b : Bool) → b ≡ has_report x.reports → OfEach (IsChromaticMachineOf meaning) x (λ st a m. (b ≡ true) ↔ HasNext m.out)
  reporting b same st a m snap is = reporting_apart meaning (member_apart x) (machine_apart m) (with_locking st) a (apart meaning st a m x is) b same

  pub reports_none : None ≡ slice_get x.reports.messages 0 → OfEach (IsChromaticMachineOf meaning) x (λ st a m. m.out ≡ [])
  reports_none none st a m snap is = no_reports_apart meaning (member_apart x) none (with_locking st) a (machine_apart m) (snap_setting_apart st snap) (apart meaning st a m x is)

  pub reports_still : (left : ReportsView) → left ≡ reports_left x.reports.messages x.reports.room → None ≡ slice_get x.reports.messages 0 → StandsStill (IsChromaticMachineOf meaning) x (record x { reports = left })
  reports_still left is_left none = stands_apart meaning x (record x { reports = left }) (same_step x.machine) refl (λ st here. still_apart meaning (member_apart x) left is_left none)

  pub report_taken : (left : ReportsView) (one : message.Message) → left ≡ reports_left x.reports.messages x.reports.room → Some (message_view one) ≡ slice_get x.reports.messages 0
      → OfEach (IsChromaticMachineOf meaning) x (IsReporting (IsChromaticMachineOf meaning) one (record x { reports = left }))
  report_taken left one is_left first st a m snap is =
      let there = taken_apart meaning (member_apart x) left one is_left first (with_locking st) a (machine_apart m) (snap_setting_apart st snap) (apart meaning st a m x is) in
      record {
        report = there.report;
        behind = there.behind;
        first = there.first;
        told = there.told;
        after = kept_on meaning st a m (hands_report there.behind m) x (record x { reports = left }) is (same_step x.machine) refl refl refl refl refl there.after;
      }

  -- ---- it fails

  pub failed_standing : OfEach (IsChromaticMachineOf meaning) x (λ st a m. IsChromaticMachineOf meaning st a (fails m) x)
  failed_standing st a m snap is =
      record {
        here = is.here;
        few = is.few;
        number = is.number;
        window = is.window;
        part = is.part;
        free = is.free;
        kept = record {
          known = is.kept.known;
          sent = is.kept.sent;
          acknowledged = is.kept.acknowledged;
          wanted = is.kept.wanted;
          saved = is.kept.saved;
          before = is.kept.before;
          behind = is.kept.behind;
          unsure = is.kept.unsure;
        };
        counts = record { sent = is.counts.sent; received = is.counts.received; held = is.counts.held };
        plans = record { many = is.plans.many; planned = is.plans.planned; others = is.plans.others };
        saved = is.saved;
        once = is.once;
        reports = is.reports;
      }

  -- ---- messages to machines

  module _ (to : MachineNo) where
    pub message_waits : (b : Bool) → b ≡ has_waiting (outbox_to x.machine.core.out (peer.Machine to)) → OfEach (IsChromaticMachineOf meaning) x (λ st a m. (b ≡ true) ↔ HasFirst (m.part.out to.0))
    message_waits b same st a m snap is = waits_apart meaning (member_apart x) to b same (with_locking st) a (machine_apart m) (snap_setting_apart st snap) (apart meaning st a m x is)

    pub messages_none : None ≡ slice_get (waiting_for x.machine.core.out (peer.Machine to)) 0 → OfEach (IsChromaticMachineOf meaning) x (λ st a m. m.part.out to.0 ≡ [])
    messages_none none st a m snap is = none_apart meaning (member_apart x) to none (with_locking st) a (machine_apart m) (snap_setting_apart st snap) (apart meaning st a m x is)

    module _ (now : ColorSnapView P) (core : now.core ≡ record x.machine.core { out = with_outbox x.machine.core.out (peer.Machine to) (without_first (outbox_to x.machine.core.out (peer.Machine to))) }) (kept : now.kept ≡ x.machine.kept)
        (step : IsInSameStep x.machine now) where
      pub message_now : (counts : CountsView) (one : message.Message) → counts ≡ record x.counts { sent = one_more x.counts.sent } → Some (message_view one) ≡ slice_get (waiting_for x.machine.core.out (peer.Machine to)) 0
          → OfEach (IsChromaticMachineOf meaning) x (SendsItsFirst (IsChromaticMachineOf meaning) to.0 one (record x { machine = now; counts = counts }))
      message_now counts one counted first st a m snap is =
          let there = now_apart meaning (member_apart x) to (snap_apart now) core kept step.same.program (counts_apart counts) one (settings_apart x.machine st is.here.part now step.same) (ap counts_apart counted) first (with_locking st) a (machine_apart m)
          (snap_setting_apart st snap) (apart meaning st a m x is) in
          record {
            behind = there.behind;
            first = there.first;
            after = kept_on meaning st a m (hands to.0 there.behind m) x (record x { machine = now; counts = counts }) is step refl refl refl refl (ap (λ (w : CountsView). w.held) counted) there.after;
          }

      pub message_back : None ≡ slice_get (waiting_for x.machine.core.out (peer.Machine to)) 0 → StandsStill (IsChromaticMachineOf meaning) x (record x { machine = now })
      message_back none = stands_apart meaning x (record x { machine = now }) step refl (λ st here. back_apart meaning (member_apart x) to (snap_apart now) core kept step.same.program none)
