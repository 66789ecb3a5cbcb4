-- Each event keeps all windows.
use Rattle.std.proofs.Common.{ℕ, Option, List, sym, subst}
use Rattle.gl_base.specs.declared.entries.Entry.{Entry}
use Rattle.gl_base.specs.declared.entries.Entry.TheVariants.{Go}
use Rattle.cluster_laws.specs.cluster_core.Messages.{Message}
use Rattle.cluster_laws.specs.cluster_core.Ranges.{set_at}
use Rattle.cluster_laws.specs.cluster_core.Settings.{Setting}
use Rattle.cluster_laws.proofs.cluster_core.Basics.{set_at-holds}
use Rattle.cluster_laws.specs.cluster_model.Calls.{Call, Report}
use Rattle.cluster_laws.specs.cluster_model.Clusters.{Cluster}
use Rattle.cluster_laws.specs.cluster_model.Events.{Event, Admit, DeliverCall, DeliverReport, Deliver, Fail, Grant, Mark, MayDo, PutBegin, PutStep, PutWave, Record, Recover, Section, Send, SendCall, SendReport, Stop, Update, after_event, delivers_call, delivers_message, delivers_report, makes, saves, sends_call, sends_message, sends_report}
use Rattle.cluster_laws.specs.cluster_model.Machines.{Machine}
use Rattle.cluster_laws.specs.cluster_model.Working.{admits, fails, grants, hands, hands_report, makes_mark, makes_update, prompt, receives, sections, takes_call}
use Rattle.whole_laws.specs.cluster_whole.Windows.{AreWithin, StaysWithin}
use Rattle.whole_laws.proofs.cluster_whole.Within.{admitted_within, back_within, called_within, failed_within, granted_within, handed_within, made_within, marked_within, prompted_within, received_within, reported_within, sectioned_within}

module _ (st : Setting) (c : Cluster) (within : AreWithin st c) where
  one : (a : ℕ) (new : Machine) → StaysWithin st a new → (b : ℕ) → StaysWithin st b (set_at c.machine a new b)
  one a new is b = set_at-holds (λ (b : ℕ) (m : Machine). StaysWithin st b m) c.machine a new b is (λ off. within b)

  -- the machine answers where it may
  answered : (a : ℕ) (new : Machine) → StaysWithin st a new → (b : ℕ) → StaysWithin st b (set_at c.machine a (prompt st a new) b)
  answered a new is = one a (prompt st a new) (prompted_within st a (c.machine a) (within a) new is)

  pub windows_kept : (event : Event) → MayDo st c event → AreWithin st (after_event st c event)
  windows_kept (Admit a v) may = answered a (admits st a v (c.machine a)) (admitted_within st a v (c.machine a) (within a) may.1)
  windows_kept (Grant a x) may = answered a (grants st a x (c.machine a)) (granted_within st a (c.machine a) (within a) x)
  windows_kept (Send p q) may =
      subst (λ (ms : List Message). AreWithin st (sends_message c p q ms)) (sym may.2.first)
      (one p (hands q may.2.behind (c.machine p)) (handed_within st p (c.machine p) (within p) q may.2.behind))
  windows_kept (SendCall a) may = subst (λ (calls : List Call). AreWithin st (sends_call c a calls)) (sym may.1.first) within
  windows_kept (SendReport a) may =
      subst (λ (reports : List Report). AreWithin st (sends_report c a reports)) (sym may.1.first)
      (one a (hands_report may.1.behind (c.machine a)) (reported_within st a (c.machine a) (within a) may.1.behind))
  windows_kept (Deliver p q) may =
      subst (λ (ms : List Message). AreWithin st (delivers_message st c p q ms)) (sym may.2.first)
      (answered q (receives st q may.2.message (c.machine q)) (received_within st q (c.machine q) (within q) may.2.message))
  windows_kept (DeliverCall a) may =
      subst (λ (calls : List Call). AreWithin st (delivers_call st c a calls)) (sym may.1.first)
      (answered a (takes_call st a may.1.message (c.machine a)) (called_within st a (c.machine a) (within a) may.1.message))
  windows_kept (DeliverReport a) may = subst (λ (reports : List Report). AreWithin st (delivers_report c a reports)) (sym may.1.first) within
  windows_kept (Update s) may =
      let a : ℕ = s.home.0 in
      let entry : Entry = Go s.home (record { 0 = may.1.vertex }) c.next in
      subst (λ (flight : Option ℕ). AreWithin st (makes st c s flight)) (sym may.1.flight)
      (answered a (makes_update st a s may.1.vertex entry (c.machine a)) (made_within st a (c.machine a) (within a) s may.1.vertex entry may.1.flight may.1.not_pending))
  windows_kept (Mark s) may =
      let a : ℕ = s.home.0 in
      subst (λ (flight : Option ℕ). AreWithin st (saves st c s flight)) (sym may.1.flight)
      (answered a (makes_mark st a s may.1.vertex (c.machine a)) (marked_within st a (c.machine a) (within a) s may.1.vertex may.1.flight))
  windows_kept (Section a) may = answered a (sections (c.machine a)) (sectioned_within st a (c.machine a) (within a))
  windows_kept Record may = within
  windows_kept PutBegin may = within
  windows_kept PutStep may = within
  windows_kept PutWave may = within
  windows_kept (Fail a) may = one a (fails (c.machine a)) (failed_within st a (c.machine a) (within a))
  windows_kept (Recover base) may = λ a. back_within st base.numbers base.number a (c.machine a)
  windows_kept Stop may = within
