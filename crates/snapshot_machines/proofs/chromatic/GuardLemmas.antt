-- What the law asks of the machine's part, and of that of its parts.
use Rattle.std.proofs.Common.{ℕ, Bool, List, Option, None, Some}
use Rattle.std.specs.Prelude.{Err, IfNone, Ok, OnOk, Result}
use Rattle.gl_base.specs.declared.scopes.ScopeId.{ScopeId}
use Rattle.cluster_laws.specs.cluster_core.Actions.{MayMark, MayUpdate}
use Rattle.snapshot_machines.specs.chromatic.Machines.{ColorSnapView, SnapMachineView, part_of, part_of_steps, with_locking}
use Rattle.snapshot_machines.specs.chromatic.Snapshots.{MayNotSendInStep, MaySendInStep}
use Rattle.snapshot_machines.specs.chromatic.Inner.Keeping.{seen_in_steps}
use Rattle.snapshot_machines.specs.marking.Sending.{MayNotSendSection, MaySendSection}

pub none_then : {X A B : Type 0} (o : Option X) → IfNone o A → (A → B) → IfNone o B
none_then None is then = then is
none_then (Some x) is then = tt

pub ok_then : {X E A B : Type 0} (r : Result X E) → OnOk r A → (A → B) → OnOk r B
ok_then (Ok x) is then = then is
ok_then (Err e) is then = tt

module _ {P : Type 0} (x : ColorSnapView P) where
  abbrev pub update_seen : (s : ScopeId) → MayUpdate s (part_of x.core) 1 → MayUpdate s (part_of_steps x) 1
  update_seen s may = record { vertex = may.vertex; flight = may.flight; ready = may.ready; not_pending = may.not_pending; task = may.task; ticket = may.ticket }

  pub update_held : (s : ScopeId) → MayUpdate s (part_of_steps x) 1 → MayUpdate s (part_of x.core) 1
  update_held s may = record { vertex = may.vertex; flight = may.flight; ready = may.ready; not_pending = may.not_pending; task = may.task; ticket = may.ticket }

  abbrev pub mark_seen : (s : ScopeId) → MayMark s (part_of x.core) → MayMark s (part_of_steps x)
  mark_seen s may = record { vertex = may.vertex; flight = may.flight; ready = may.ready; pending = may.pending }

  pub mark_held : (s : ScopeId) → MayMark s (part_of_steps x) → MayMark s (part_of x.core)
  mark_held s may = record { vertex = may.vertex; flight = may.flight; ready = may.ready; pending = may.pending }

  pub may_send : MaySendSection x.core x.kept → MaySendInStep x
  may_send may st is =
      let one = may (with_locking st) is.part in
      record { begun = one.begun; marked = one.marked; unsent = one.unsent }

  pub may_not_send : MayNotSendSection x.core x.kept → MayNotSendInStep x
  may_not_send not st is may = not (with_locking st) is.part (record { begun = may.begun; marked = may.marked; unsent = may.unsent })

module _ {P : Type 0} (m : SnapMachineView P) (colours : List ℕ) (colour : ℕ) (closed : Bool) where
  pub none_to_update : (o : Option ScopeId) → IfNone o ((s : ScopeId) → MayUpdate s (part_of m.core) 1 → ⊥) → IfNone o ((s : ScopeId) → MayUpdate s (part_of_steps (seen_in_steps m colours colour closed)) 1 → ⊥)
  none_to_update o is = none_then o is (λ none s may. none s (update_held (seen_in_steps m colours colour closed) s may))

  pub none_to_mark : (o : Option ScopeId) → IfNone o ((s : ScopeId) → MayMark s (part_of m.core) → ⊥) → IfNone o ((s : ScopeId) → MayMark s (part_of_steps (seen_in_steps m colours colour closed)) → ⊥)
  none_to_mark o is = none_then o is (λ none s may. none s (mark_held (seen_in_steps m colours colour closed) s may))
