-- A machine fails by the event of its failure alone.
use Rattle.std.proofs.Common.{◌≡◌, ◌⊎◌, true, ℕ, Option, List, ◌∷◌, inl, inr, refl, sym, ◌∙◌, ap, subst, ⊎_elim}
use Rattle.std.proofs.lemmas.Bool.{cases_eq}
use Rattle.gl_base.specs.declared.entries.Entry.TheVariants.{Go}
use Rattle.cluster_laws.specs.cluster_core.Messages.{Ask, Done, Message, Ready}
use Rattle.cluster_laws.specs.cluster_core.Settings.{Setting}
use Rattle.cluster_laws.proofs.cluster_core.Basics.{set_at-kept, set_at-other}
use Rattle.cluster_laws.specs.cluster_model.Calls.{Begin, Call, Committed, Count, Report, Saved, Step, Want, Wave}
use Rattle.cluster_laws.specs.cluster_model.Clusters.{Cluster, with_machine}
use Rattle.cluster_laws.specs.cluster_model.Events.{Event, Admit, DeliverCall, DeliverReport, Deliver, Fail, Grant, Mark, MayDo, PutBegin, PutStep, PutWave, Record, Recover, Section, Send, SendCall, SendReport, Stop, Update, after_event, delivers_call, delivers_message, delivers_report, makes, saves, sends_call, sends_message, sends_report}
use Rattle.cluster_laws.specs.cluster_model.Machines.{Machine}
use Rattle.cluster_laws.specs.cluster_model.Working.{admits, fails, grants, hands, hands_report, makes_mark, makes_update, prompt, receives, sections, takes_call}
use Rattle.whole_laws.specs.cluster_whole.Whole.{IsNoRecovery}

module _ (st : Setting) (c : Cluster) (b : ℕ) where
  abbrev Same : Cluster → Type 0
  Same new = (new.machine b).failed ≡ (c.machine b).failed

  abbrev ByFail : Event → Type 0
  ByFail event = ((after_event st c event).machine b).failed ≡ true → ((c.machine b).failed ≡ true) ⊎ (event ≡ Fail b)

  one_machine : (a : ℕ) (new : Machine) → new.failed ≡ (c.machine a).failed → Same (with_machine c a new)
  one_machine a new same = set_at-kept (λ (m : Machine). m.failed) c.machine a new same b

  received : (q : ℕ) (message : Message) (m : Machine) → (prompt st q (receives st q message m)).failed ≡ m.failed
  received q (Ask s v rest) m = refl
  received q (Ready s) m = refl
  received q (Done s news) m = refl

  taken : (a : ℕ) (call : Call) (m : Machine) → (prompt st a (takes_call st a call m)).failed ≡ m.failed
  taken a (Begin k) m = refl
  taken a (Committed k) m = refl
  taken a (Wave k) m = refl
  taken a (Step colour) m = refl

  reported : (a : ℕ) (report : Report) (behind : List Report) → Same (delivers_report c a (report ∷ behind))
  reported a (Saved k section entries) behind = refl
  reported a (Count k counts) behind = refl
  reported a (Want k) behind = refl

  still : (event : Event) → Same (after_event st c event) → ByFail event
  still event same is = inl (sym same ∙ is)

  pub failed_by : (event : Event) → MayDo st c event → IsNoRecovery event → ByFail event
  failed_by (Admit a v) may other = still (Admit a v) (one_machine a (prompt st a (admits st a v (c.machine a))) refl)
  failed_by (Grant a x) may other = still (Grant a x) (one_machine a (prompt st a (grants st a x (c.machine a))) refl)
  failed_by (Send p q) may other = still (Send p q) (subst (λ (ms : List Message). Same (sends_message c p q ms)) (sym may.2.first) (one_machine p (hands q may.2.behind (c.machine p)) refl))
  failed_by (SendCall a) may other = still (SendCall a) (subst (λ (calls : List Call). Same (sends_call c a calls)) (sym may.1.first) refl)
  failed_by (SendReport a) may other = still (SendReport a) (subst (λ (reports : List Report). Same (sends_report c a reports)) (sym may.1.first) (one_machine a (hands_report may.1.behind (c.machine a)) refl))
  failed_by (Deliver p q) may other =
      still (Deliver p q)
      (subst (λ (ms : List Message). Same (delivers_message st c p q ms)) (sym may.2.first) (one_machine q (prompt st q (receives st q may.2.message (c.machine q))) (received q may.2.message (c.machine q))))
  failed_by (DeliverCall a) may other =
      still (DeliverCall a)
      (subst (λ (calls : List Call). Same (delivers_call st c a calls)) (sym may.1.first) (one_machine a (prompt st a (takes_call st a may.1.message (c.machine a))) (taken a may.1.message (c.machine a))))
  failed_by (DeliverReport a) may other = still (DeliverReport a) (subst (λ (reports : List Report). Same (delivers_report c a reports)) (sym may.1.first) (reported a may.1.message may.1.behind))
  failed_by (Update s) may other =
      still (Update s)
      (subst (λ (flight : Option ℕ). Same (makes st c s flight)) (sym may.1.flight)
      (one_machine s.home.0 (prompt st s.home.0 (makes_update st s.home.0 s may.1.vertex (Go s.home (record { 0 = may.1.vertex }) c.next) (c.machine s.home.0))) refl))
  failed_by (Mark s) may other =
      still (Mark s)
      (subst (λ (flight : Option ℕ). Same (saves st c s flight)) (sym may.1.flight) (one_machine s.home.0 (prompt st s.home.0 (makes_mark st s.home.0 s may.1.vertex (c.machine s.home.0))) refl))
  failed_by (Section a) may other = still (Section a) (one_machine a (prompt st a (sections (c.machine a))) refl)
  failed_by Record may other = still Record refl
  failed_by PutBegin may other = still PutBegin refl
  failed_by PutStep may other = still PutStep refl
  failed_by PutWave may other = still PutWave refl
  failed_by (Fail a) may other = λ is.
      ⊎_elim
      (λ (same : b ≡ a). inr (ap Fail (sym same)))
      (λ (off : b ≡ a → ⊥). inl (sym (ap (λ (m : Machine). m.failed) (set_at-other c.machine a (fails (c.machine a)) b off)) ∙ is))
      (cases_eq b a)
  failed_by (Recover base) may other = absurd (other base refl)
  failed_by Stop may other = still Stop refl
