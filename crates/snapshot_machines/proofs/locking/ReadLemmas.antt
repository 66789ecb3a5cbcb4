-- What is read of the machine, and what leaves it, for each machine of the law.
use Rattle.std.proofs.Common.{◌≡◌, ◌↔◌, ℕ, zero, suc, ◌<◌, Bool, true, true≢false, None, Some, List, [], ◌∷◌, length, map, refl, sym, ap, ◌∙◌, subst, arith}
use Rattle.std.specs.Prelude.{nat_lt, slice_get, slice_index_or}
use Rattle.std.proofs.lemmas.Bool.{lt-ltb}
use Rattle.gl_base.specs.declared.numbers.MachineNo.{MachineNo}
use Rattle.gl_base.specs.declared.scopes.Peer.TheVariants as peer
use Rattle.update_api.specs.Updates.{Update}
use Rattle.cluster_laws.specs.cluster_core.Actions.{HasFirst}
use Rattle.cluster_laws.specs.cluster_core.Messages.{Message}
use Rattle.cluster_laws.specs.cluster_core.Parts.{Part}
use Rattle.cluster_laws.specs.cluster_core.Ranges.{set_at}
use Rattle.coordinator.specs.machine_api.Told.{message_read, view_of}
use Rattle.cluster_laws.specs.cluster_model.Calls.{Report}
use Rattle.cluster_laws.specs.cluster_model.Events.{HasNext}
use Rattle.cluster_laws.specs.cluster_model.Working.{fails, hands}
use Rattle.machine_core.specs.declared.machine_parts.cores.Core.{Core}
use Rattle.machine_core.proofs.SendLemmas.{first_taken, none_taken, waits_first}
use Rattle.machine_core.specs.machine_parts.Parts.{message_of}
use Rattle.machine_core.specs.machine_parts.Settings.{SameSettings}
use Rattle.wire.specs.outboxes.Outboxes.{OutboxView, OutboxesView, has_waiting, no_outbox, outbox_to, waiting_for, with_outbox, without_first}
use Rattle.coordinator.specs.machine_api.Promises.{IsReporting, OfEach, SendsItsFirst, StandsStill, TellsReport}
use Rattle.snapshot_machines.specs.wave_counts.Counts.{one_more}
use Rattle.snapshot_machines.proofs.wave_counts.CountLemmas.{counts_sent}
use Rattle.wire.specs.wire_msgs.Views.{MessageView, message_view}
use Rattle.wire.specs.wire_msgs.Views as told
use Rattle.wire.specs.declared.wire_msgs.messages.Message as message
use Rattle.snapshot_machines.specs.locking.Reports.{AreToldReports, ReportsView, has_report, reports_left}
use Rattle.snapshot_machines.specs.locking.Machines.{IsLockingMachineOf, IsSavedRight, LooksAlike, Machine, LockingMachineView, Setting, part_held, part_of, with_snaps}

-- ---- reports

nothing_next : {X : Type 0} (x : X) (xs : List X) → [] ≡ x ∷ xs → ⊥
nothing_next x xs is = cc

pub tells_next : (ms : List MessageView) (rs : List Report) → AreToldReports ms rs → (nat_lt 0 (length ms) ≡ true) ↔ HasNext rs
tells_next [] [] are = (λ is. absurd (true≢false (sym is)), λ next. absurd (nothing_next next.message next.behind next.first))
tells_next (m ∷ ms) [] are = absurd are
tells_next [] (r ∷ rs) are = absurd are
tells_next (m ∷ ms) (r ∷ rs) are = (λ is. record { message = r; behind = rs; first = refl }, λ next. lt-ltb 0 (length (m ∷ ms)) (omega arith))

none_some : {X : Type 0} (x : X) → None ≡ Some x → ⊥
none_some x is = cc

pub none_left : (ms : List MessageView) (rs : List Report) → None ≡ slice_get ms 0 → AreToldReports ms rs → rs ≡ []
none_left [] [] none are = refl
none_left [] (r ∷ rs) none are = absurd are
none_left (m ∷ ms) rs none are = absurd (none_some m none)

-- the first one, and those behind it
pub record IsFirstReport (w : MessageView) (ms : List MessageView) (room : ℕ) (rs : List Report) : Type 0 where
  pub report : Report
  pub behind : List Report
  pub first : rs ≡ report ∷ behind
  pub told : TellsReport w report
  pub rest : AreToldReports (reports_left ms room).messages behind

pub first_report : (w : MessageView) (ms : List MessageView) (room : ℕ) (rs : List Report) → Some w ≡ slice_get ms 0 → AreToldReports ms rs → IsFirstReport w ms room rs
first_report w [] room rs first are = absurd (none_some w (sym first))
first_report w (m ∷ ms) room [] first are = absurd are
first_report w (m ∷ ms) room (r ∷ rs) first are =
    let same : w ≡ m = cc in
    record { report = r; behind = rs; first = refl; told = subst (λ (v : MessageView). TellsReport v r) (sym same) are.0; rest = are.1 }

module _ {P : Type 0} (meaning : P → Update) (x : LockingMachineView P) where
  pub reporting : (m : Machine) (st : Setting) (a : ℕ) → IsLockingMachineOf meaning st a m x → (b : Bool) → b ≡ has_report x.reports → (b ≡ true) ↔ HasNext m.out
  reporting m st a is b same = let next = tells_next x.reports.messages m.out is.reports in (λ yes. next.0 (sym same ∙ yes), λ some. same ∙ next.1 some)

  pub reports_none : None ≡ slice_get x.reports.messages 0 → OfEach (IsLockingMachineOf meaning) x (λ st a m. m.out ≡ [])
  reports_none none st a m snap is = none_left x.reports.messages m.out none is.reports

  pub reports_still : (left : ReportsView) → left ≡ reports_left x.reports.messages x.reports.room → None ≡ slice_get x.reports.messages 0 → StandsStill (IsLockingMachineOf meaning) x (record x { reports = left })
  reports_still left is_left none st a m snap is =
      record {
        here = is.here;
        number = is.number;
        program = is.program;
        window = is.window;
        part = is.part;
        kept = is.kept;
        counts = is.counts;
        none_held = is.none_held;
        plans = is.plans;
        saved = is.saved;
        once = is.once;
        reports = subst (λ (r : ReportsView). AreToldReports r.messages m.out) (sym is_left) (same x.reports.messages none is.reports);
      }
    where
      same : (ms : List MessageView) → None ≡ slice_get ms 0 → AreToldReports ms m.out → AreToldReports (reports_left ms x.reports.room).messages m.out
      same [] none are = are
      same (w ∷ ms) none are = absurd (none_some w none)

  pub report_taken : (left : ReportsView) (one : message.Message) → left ≡ reports_left x.reports.messages x.reports.room → Some (message_view one) ≡ slice_get x.reports.messages 0
      → OfEach (IsLockingMachineOf meaning) x (IsReporting (IsLockingMachineOf meaning) one (record x { reports = left }))
  report_taken left one is_left first st a m snap is =
      let next = first_report (message_view one) x.reports.messages x.reports.room m.out first is.reports in
      record {
        report = next.report;
        behind = next.behind;
        first = next.first;
        told = next.told;
        after = record {
          here = is.here;
          number = is.number;
          program = is.program;
          window = is.window;
          part = is.part;
          kept = record {
            known = is.kept.known;
            sent = is.kept.sent;
            acknowledged = is.kept.acknowledged;
            wanted = is.kept.wanted;
            saved = is.kept.saved;
            before = is.kept.before;
            behind = is.kept.behind;
            unsure = is.kept.unsure;
          };
          counts = record { sent = is.counts.sent; received = is.counts.received; held = is.counts.held };
          none_held = is.none_held;
          plans = record { many = is.plans.many; planned = is.plans.planned; others = is.plans.others };
          saved = is.saved;
          once = is.once;
          reports = subst (λ (r : ReportsView). AreToldReports r.messages next.behind) (sym is_left) next.rest;
        };
      }

  -- ---- it fails

  pub failed_standing : OfEach (IsLockingMachineOf meaning) x (λ st a m. IsLockingMachineOf meaning st a (fails m) x)
  failed_standing st a m snap is =
      record {
        here = is.here;
        number = is.number;
        program = is.program;
        window = is.window;
        part = is.part;
        kept = record {
          known = is.kept.known;
          sent = is.kept.sent;
          acknowledged = is.kept.acknowledged;
          wanted = is.kept.wanted;
          saved = is.kept.saved;
          before = is.kept.before;
          behind = is.kept.behind;
          unsure = is.kept.unsure;
        };
        counts = record { sent = is.counts.sent; received = is.counts.received; held = is.counts.held };
        none_held = is.none_held;
        plans = record { many = is.plans.many; planned = is.plans.planned; others = is.plans.others };
        saved = is.saved;
        once = is.once;
        reports = is.reports;
      }

-- ---- messages to machines

-- both crates read a message alike
read_alike : (m : MessageView) → message_read m ≡ message_of m
read_alike (told.Ask s centre rest) = refl
read_alike (told.Ready s) = refl
read_alike (told.Done d) = refl
read_alike (told.Begin number) = refl
read_alike (told.Section s) = refl
read_alike (told.Committed number) = refl
read_alike (told.Wave wave) = refl
read_alike (told.Count wave counted) = refl
read_alike (told.Step colour) = refl
read_alike (told.Want acknowledged) = refl

no_message : (ws : List MessageView) → None ≡ slice_get ws 0 → map message_of ws ≡ []
no_message [] none = refl
no_message (w ∷ ws) none = absurd (none_some w none)

-- where a message waits there is an outbox
outbox_there : (boxes : List OutboxView) (b : ℕ) (w : MessageView) → Some w ≡ slice_get (slice_index_or boxes b no_outbox).messages 0 → b < length boxes
outbox_there [] b w first = absurd (none_some w (sym first))
outbox_there (box ∷ boxes) zero w first = omega arith
outbox_there (box ∷ boxes) (suc b) w first = omega (arith, outbox_there boxes b w first)

module _ {P : Type 0} (meaning : P → Update) (x : LockingMachineView P) (to : MachineNo) where
  abbrev core : Core
  core = x.machine.core

  out_is : (st : Setting) (a : ℕ) (m : Machine) → IsLockingMachineOf meaning st a m x → (q : ℕ) → m.part.out q ≡ (part_of core).out q
  out_is st a m is q = ap (λ (p : Part). p.out q) is.part.rest

  pub message_waits : (b : Bool) → b ≡ has_waiting (outbox_to core.out (peer.Machine to)) → OfEach (IsLockingMachineOf meaning) x (λ st a m. (b ≡ true) ↔ HasFirst (m.part.out to.0))
  message_waits b same st a m snap is =
      let next = waits_first (waiting_for core.out (peer.Machine to)) in
      (λ yes. subst HasFirst (sym (out_is st a m is to.0)) (next.0 (sym same ∙ yes)), λ some. same ∙ next.1 (subst HasFirst (out_is st a m is to.0) some))

  pub messages_none : None ≡ slice_get (waiting_for core.out (peer.Machine to)) 0 → OfEach (IsLockingMachineOf meaning) x (λ st a m. m.part.out to.0 ≡ [])
  messages_none none st a m snap is = out_is st a m is to.0 ∙ no_message (waiting_for core.out (peer.Machine to)) none

  module _ (out : OutboxesView) (behind : out ≡ with_outbox core.out (peer.Machine to) (without_first (outbox_to core.out (peer.Machine to)))) where
    abbrev sent_core : Core
    sent_core = record core { out = out }

    pub messages_still : None ≡ slice_get (waiting_for core.out (peer.Machine to)) 0 → StandsStill (IsLockingMachineOf meaning) x (record x { machine = record x.machine { core = sent_core } })
    messages_still none st a m snap is =
        subst (λ (c : Core). IsLockingMachineOf meaning st a m (record x { machine = record x.machine { core = c } })) (sym (ap (λ (o : OutboxesView). record core { out = o }) (none_taken core.out out to behind none))) is

    pub message_taken : (one : message.Message) → Some (message_view one) ≡ slice_get (waiting_for core.out (peer.Machine to)) 0 → SameSettings core sent_core
        → OfEach (IsLockingMachineOf meaning) x (SendsItsFirst (IsLockingMachineOf meaning) to.0 one (record x { machine = record x.machine { core = sent_core }; counts = record x.counts { sent = one_more x.counts.sent } }))
    message_taken one first settings st a m snap is =
        let taken = first_taken core.out out to behind one first in
        let here_first : m.part.out to.0 ≡ view_of one ∷ taken.0 = out_is st a m is to.0 ∙ taken.1 ∙ ap (λ (t : Message). t ∷ taken.0) (sym (read_alike (message_view one))) in
        let new : Machine = hands to.0 taken.0 m in
        let held : with_snaps x.machine.kept (part_of sent_core) ≡ record (part_held x) { out = set_at (part_held x).out to.0 taken.0 } = (λ i. record (part_held x) { out = λ q. taken.2 q i }) in
        let alike : LooksAlike st a new.part (record (part_held x) { out = set_at (part_held x).out to.0 taken.0 }) =
        record { rest = ap (λ (p : Part). record p { out = set_at p.out to.0 taken.0 }) is.part.rest; vertices = is.part.vertices; edges = is.part.edges } in
        let low : to.0 < st.machines = subst (λ (n : ℕ). to.0 < n) is.here.machines (outbox_there core.out.machines to.0 (message_view one) first) in
        record {
          behind = taken.0;
          first = here_first;
          after = record {
            here = settings st is.here;
            number = is.number;
            program = is.program;
            window = is.window;
            part = subst (LooksAlike st a new.part) (sym held) alike;
            kept = record {
              known = is.kept.known;
              sent = is.kept.sent;
              acknowledged = is.kept.acknowledged;
              wanted = is.kept.wanted;
              saved = is.kept.saved;
              before = is.kept.before;
              behind = is.kept.behind;
              unsure = is.kept.unsure;
            };
            counts = counts_sent st x.counts m new is.counts to.0 (view_of one) taken.0 low here_first refl refl refl refl;
            none_held = is.none_held;
            plans = record { many = is.plans.many; planned = is.plans.planned; others = is.plans.others };
            saved = subst (IsSavedRight st a) (sym held)
                (record {
                  vertices = λ v number has. let one = is.saved.vertices v number has in record { vertex = one.vertex; owned = one.owned; marked = one.marked };
                  edges = λ e number has. let one = is.saved.edges e number has in (one.0, one.1, record { vertex = one.2.vertex; owned = one.2.owned; marked = one.2.marked });
                  pending = is.saved.pending;
                });
            once = is.once;
            reports = is.reports;
          };
        }
