use Rattle.std.proofs.Common.{◌≡◌, true, is_some}
use Rattle.scope_locks.specs.scope_pipe.Pipes.{entered_at}
use Rattle.machine_core.specs.machine_parts.Order.{IsOrderlyBut}
use Rattle.machine_core.specs.machine_parts.Settings.{SameSettings}
use Rattle.machine_core.specs.machine_scopes.Inner.Going.{HasNextRoom, Wants, is_scope}
use Rattle.machine_core.specs.machine_scopes.Inner.Taking.{HasTakenOn}
use Rattle.machine_core.proofs.machine_scopes.taking.take_free.Given as goal

abbrev pub invariant-loop : goal.invariant-loop
invariant-loop l =
    record {
      orderly : IsOrderlyBut (λ s. is_scope s l.scope) l.core;
      come : is_some (entered_at l.core.pipe l.scope) ≡ true;
      wants : Wants l.core l.scope l.next;
      room : HasNextRoom l.core l.scope l.next;
      settings : SameSettings l.fn.core l.core;
      taken : HasTakenOn l.fn.core l.core l.scope;
      rest : l.core ≡ record l.fn.core { pipe = l.core.pipe; locks = l.core.locks; out = l.core.out };
    }
