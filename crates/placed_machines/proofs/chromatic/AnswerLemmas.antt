-- From what the machine's own calls answer to what a cluster is promised.
use Rattle.std.proofs.Common.{◌≡◌, ℕ, true, true≢false, List, [], ◌∷◌, refl, sym, ◌∙◌, subst}
use Rattle.std.specs.Prelude.{Result, Ok, Err, IsErrOf, OnErr}
use Rattle.std.specs.Result.{is_err}
use Rattle.gl_base.specs.declared.refusals.Refused.{Refused}
use Rattle.gl_base.specs.declared.scopes.Claim.{Claim}
use Rattle.gl_base.specs.declared.scopes.ScopeId.{ScopeId}
use Rattle.update_api.specs.Updates.{Update}
use Rattle.cluster_laws.specs.cluster_core.Actions.{MayMark, MayUpdate}
use Rattle.machine_core.specs.machine_parts.Order.{IsOrderly}
use Rattle.coordinator.specs.machine_api.Deeds.{Deed, Grant}
use Rattle.coordinator.specs.machine_api.Promises.{CanNotDo, HasDone, HasHeard, HasReceived, StandsStill}
use Rattle.snapshot_machines.proofs.locking.AnswerLemmas.{mark_home as mark_home_apart, update_home as update_home_apart}
use Rattle.wire.specs.declared.wire_msgs.messages.Message.{Message}
use Rattle.placed_machines.specs.chromatic.Prompting.{HasSlack}
use Rattle.placed_machines.specs.chromatic.Machines.{ChromaticMachineView, ColorSnapView, IsChromaticMachineOf, Machine, ReportsView, Setting, part_of_steps}
use Rattle.placed_machines.proofs.chromatic.WorkLemmas.{reports_stand}
use Rattle.gl_base.specs.declared.refusals.Refused.TheVariants.{NoMemory, NotNow}

-- what an error tells of a step that isn't closed
pub not_closed : {X : Type 0} (r : Result X Refused) (A : Type 0) → is_err r ≡ true → (IsErrOf r NotNow → A) → (IsErrOf r NoMemory → ⊥) → A
not_closed (Ok x) A is now never = absurd (true≢false (sym is))
not_closed (Err NotNow) A is now never = now refl
not_closed (Err NoMemory) A is now never = absurd (never refl)

pub left_by : {X E : Type 0} (r : Result X E) (A : Type 0) → is_err r ≡ true → OnErr r A → A
left_by (Ok x) A is a = absurd (true≢false (sym is))
left_by (Err e) A is a = a

-- ---- scopes of this home

pub update_home : {P : Type 0} (x : ColorSnapView P) (s : ScopeId) → IsOrderly x.core → MayUpdate s (part_of_steps x) 1 → s.home ≡ x.core.numbers.local.me
update_home x s orderly may =
    update_home_apart x.core s orderly (record { vertex = may.vertex; flight = may.flight; ready = may.ready; not_pending = may.not_pending; task = may.task; ticket = may.ticket })

pub mark_home : {P : Type 0} (x : ColorSnapView P) (s : ScopeId) → IsOrderly x.core → MayMark s (part_of_steps x) → s.home ≡ x.core.numbers.local.me
mark_home x s orderly may = mark_home_apart x.core s orderly (record { vertex = may.vertex; flight = may.flight; ready = may.ready; pending = may.pending })

-- ---- behind the room that was made

module _ {M : Type 0} (stands : Setting → ℕ → Machine → M → Type 0) (x y z : M) (still : StandsStill stands x y) where
  pub done_from : (deed : Deed) → HasDone stands y deed z → HasDone stands x deed z
  done_from deed done st a m snap is = done st a m snap (still st a m snap is)

  pub received_from : (p : ℕ) (message : Message) → HasReceived stands y p message z → HasReceived stands x p message z
  received_from p message done st c a front =
      done st c a (record { setting = front.setting; going = front.going; machine = front.machine; here = still st a (c.machine a) front.setting front.here; behind = front.behind; first = front.first })

  pub heard_from : (message : Message) → HasHeard stands y message z → HasHeard stands x message z
  heard_from message done st c a call front =
      done st c a call (record { setting = front.setting; going = front.going; machine = front.machine; here = still st a (c.machine a) front.setting front.here; told = front.told; behind = front.behind; first = front.first })

module _ {P : Type 0} (meaning : P → Update) (x y : ChromaticMachineView P) (reports : ReportsView) (is : y ≡ record x { reports = reports }) where
  pub prepared_stands : reports.messages ≡ x.reports.messages → StandsStill (IsChromaticMachineOf meaning) x y
  prepared_stands told = subst (StandsStill (IsChromaticMachineOf meaning) x) (sym is) (reports_stand meaning x reports told)

  pub prepared_slack : HasSlack x → HasSlack y
  prepared_slack slack = subst HasSlack (sym is) slack

-- the parts are in order still
pub still_orderly : {P : Type 0} (x y now : ChromaticMachineView P) (reports : ReportsView) → x ≡ now → y ≡ record now { reports = reports } → IsOrderly x.machine.core → IsOrderly y.machine.core
still_orderly {P} x y now reports here there orderly =
    subst (λ (v : ChromaticMachineView P). IsOrderly v.machine.core) (sym there) (subst (λ (v : ChromaticMachineView P). IsOrderly v.machine.core) here orderly)

-- ---- no lock is granted

nobody_waits : (claim : Claim) (claims : List Claim) → [] ≡ claim ∷ claims → ⊥
nobody_waits claim claims is = cc

pub none_granted : {P : Type 0} (meaning : P → Update) (x : ChromaticMachineView P) (v : ℕ) → CanNotDo (IsChromaticMachineOf meaning) x (Grant v)
none_granted meaning x v st a m snap is may = nobody_waits may.claim may.behind (sym (is.free v) ∙ may.first)
