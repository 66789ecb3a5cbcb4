use Rattle.std.proofs.Common.{◌≡◌, false, take}
use Rattle.std.specs.List.{list_any}
use Rattle.machine_core.specs.machine_rest.Inner.Looking.{is_at_lock}
use Rattle.machine_core.proofs.machine_rest.scopes.somebody_waits.Given as goal

abbrev pub invariant-loop-one : goal.invariant-loop-one
invariant-loop-one l = list_any (is_at_lock l.locks) (take l.one-index l.entered) ≡ false
