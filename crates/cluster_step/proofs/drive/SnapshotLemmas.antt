-- What the coordinator knows of snapshots is so of the call that a course makes.
use Rattle.std.proofs.Common.{◌≡◌, ℕ, suc, ◌<◌, ◌≤◌, Bool, true, false, arith, refl, sym, ap, subst, ◌∙◌, length, true≢false, List, ⊎_elim}
use Rattle.std.proofs.lemmas.Bool.{cases_eq}
use Rattle.std.specs.Prelude.{IsTrue, not, ◌↔◌, ◌≢◌}
use Rattle.call_laws.proofs.whole_calls.Leading.{behind_since, since}
use Rattle.call_laws.specs.attempts.EngineCalls.{EngineCall}
use Rattle.call_laws.specs.whole_calls.Telling.{AwaitsNoSnapshot, LacksNoSnapshot, NeedsMoreStore}
use Rattle.cluster_laws.specs.cluster_model.Events as law
use Rattle.cluster_laws.specs.cluster_model.Leading.{SnapshotIsDue}
use Rattle.cluster_step.proofs.trace.Going.{stored_now}
use Rattle.cluster_step.specs.trace.Calls.{MakesCall}
use Rattle.cluster_step.specs.trace.Traces.{CallOpening, Cluster, TraceView, IsTraceNow, Machine, Setting, first_setting, newest_setting}
use Rattle.coordinator.specs.coord_core.Calls.{IsDueOf}
use Rattle.coordinator.specs.coord_core.Coordinators.{CoordinatorView, IsSavingOf, SavingView}
use Rattle.coordinator.specs.declared.coord_core.leading.Due.{Due}
use Rattle.coordinator.specs.declared.coord_core.leading.Due.TheVariants as what

-- ---- what the coordinator answers

not_so : (r : Bool) → IsTrue r → IsTrue (not r) → ⊥
not_so true one other = true≢false (sym other)
not_so false one other = true≢false (sym one)

pub none_under : (seen own : CoordinatorView) → seen ≡ own → (r : Bool) → (IsTrue r ↔ (seen.saving.acknowledged ≢ seen.saving.begun)) → IsTrue (not r) → own.saving.acknowledged ≡ own.saving.begun
none_under seen own same r is so =
    subst (λ (v : CoordinatorView). v.saving.acknowledged ≡ v.saving.begun) same
    (⊎_elim
    (λ (settled : seen.saving.acknowledged ≡ seen.saving.begun). settled)
    (λ (off : seen.saving.acknowledged ≢ seen.saving.begun). absurd (not_so r (is.1 off) so))
    (cases_eq seen.saving.acknowledged seen.saving.begun))

pub one_under : (seen own : CoordinatorView) → seen ≡ own → (r : Bool) → (IsTrue r ↔ (seen.saving.acknowledged ≢ seen.saving.begun)) → IsTrue r → own.saving.acknowledged ≢ own.saving.begun
one_under seen own same r is so = subst (λ (v : CoordinatorView). v.saving.acknowledged ≢ v.saving.begun) same (is.0 so)

pub many_seen : (seen own : CoordinatorView) → seen ≡ own → (stored : ℕ) → stored ≡ seen.saving.acknowledged → 4096 ≤ stored → 4096 ≤ own.saving.acknowledged
many_seen seen own same stored is many = subst (λ (v : CoordinatorView). 4096 ≤ v.saving.acknowledged) same (subst (λ (n : ℕ). 4096 ≤ n) is many)

pub few_seen : (seen own : CoordinatorView) → seen ≡ own → (stored : ℕ) → stored ≡ seen.saving.acknowledged → stored < 4096 → own.saving.acknowledged < 4096
few_seen seen own same stored is few = subst (λ (v : CoordinatorView). v.saving.acknowledged < 4096) same (subst (λ (n : ℕ). n < 4096) is few)

pub taken_seen : (seen own : CoordinatorView) → seen ≡ own → seen.saving.stored ≡ true → own.saving.stored ≡ true
taken_seen seen own same taken = subst (λ (v : CoordinatorView). v.saving.stored ≡ true) same taken

-- ---- and what that is of the call

not_few : (n k : ℕ) → n ≡ k → k < 4096 → 4096 ≤ n → ⊥
not_few n k is low many = omega arith

module _ {M : Type 0} (represents : Setting → ℕ → Machine → M → Type 0) (v : TraceView M) (st : Setting) (o : CallOpening) (events : List law.Event) (c : Cluster) (is : IsTraceNow represents v st o events c) where
  abbrev last : Setting
  last = newest_setting st o events

  abbrev saving : SavingView
  saving = v.now.coordinator.saving

  -- where the coordinator's snapshots are taken they are in each setting
  pub taken_first : saving.stored ≡ true → st.stored ≡ true
  taken_first taken = sym (ap (λ (s : Setting). s.stored) (behind_since events (first_setting st o))) ∙ is.code.coordinator.stored ∙ taken

  due_last : SnapshotIsDue st c.coordinator → SnapshotIsDue last c.coordinator
  due_last due =
      let there : SnapshotIsDue (since (first_setting st o) last.start last.base) c.coordinator = record { stored = due.stored; none = due.none; wanted = due.wanted } in
      subst (λ (s : Setting). SnapshotIsDue s c.coordinator) (sym (behind_since events (first_setting st o))) there

  module _ (stored : st.stored ≡ true) where
    knows : IsSavingOf last saving c.coordinator
    knows = is.code.coordinator.saving (stored_now st o events stored)

    pub needs_more : (call : EngineCall) → MakesCall st v.failures o events c call → 4096 ≤ saving.acknowledged → saving.acknowledged ≢ saving.begun → NeedsMoreStore st c.coordinator call
    needs_more call makes many off =
        makes.tells.many (λ same. off (sym knows.acknowledged ∙ same ∙ knows.begun)) (subst (λ (n : ℕ). 4096 ≤ n) (sym knows.acknowledged) many)

    pub takes_one : (call : EngineCall) → saving.acknowledged < 4096 → LacksNoSnapshot st c.coordinator call
    takes_one call low half many = absurd (not_few c.coordinator.acknowledged saving.acknowledged knows.acknowledged low many)

    pub settled : (answer : Due) → IsDueOf v.now.coordinator answer → ((k : ℕ) → answer ≡ what.Snapshot k → ⊥) → saving.acknowledged ≡ saving.begun → AwaitsNoSnapshot st c.coordinator
    settled answer due none same = record {
      none = knows.acknowledged ∙ same ∙ sym knows.begun;
      due = λ asked. none (suc c.coordinator.begun) ((due.snapshot last c.coordinator (suc c.coordinator.begun) is.code.coordinator).1 (due_last asked, refl));
    }

  -- as many machines as the setting has
  pub machine_low : (a : ℕ) → a < st.machines → a < length v.now.machines.items
  machine_low a low = subst (λ (n : ℕ). a < n) (sym (is.code.many ∙ ap (λ (s : Setting). s.machines) (behind_since events (first_setting st o)))) low
