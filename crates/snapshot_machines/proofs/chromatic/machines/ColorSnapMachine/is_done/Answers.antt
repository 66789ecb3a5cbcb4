-- The share is done where nothing is in flight and nobody is due.
use Rattle.std.proofs.Common.{ap, arith, subst, sym, ◌≡◌, ◌<◌, ◌∙◌, ℕ}
use Rattle.std.specs.Prelude.{IfNone, IfSome}
use Rattle.machine_core.specs.declared.machine_parts.cores.Core.{Core}
use Rattle.scope_locks.specs.scope_pipe.Pipes.{flight_count}
use Rattle.snapshot_machines.specs.chromatic.Machines.{ColorSnapView}
use Rattle.snapshot_machines.specs.chromatic.Inner.Keeping.{seen_in_steps}
use Rattle.snapshot_machines.specs.chromatic.Inner.Picking.{IsDueInStep, IsNoneDueInStep}
use Rattle.snapshot_machines.proofs.chromatic.AdmitLemmas.{share_closed, share_flying, share_looked}
use Rattle.snapshot_machines.proofs.chromatic.machines.ColorSnapMachine.is_done.Goals as goal

pub returns : goal.returns
returns g c =
    let m = c.self.inside in
    let before = c.core.ensures in
    let none : c.flight_count.result ≡ 0 = omega (arith, c.if-flight_count-gt0.false) in
    let due = subst (λ (y : ColorSnapView g.row.P.Denot). IfSome c.due.result (λ pick. IsDueInStep y pick)) (sym c.self.view_is) c.due.ensures.some in
    let nobody = subst (λ (y : ColorSnapView g.row.P.Denot). IfNone c.due.result (IsNoneDueInStep y)) (sym c.self.view_is) c.due.ensures.none in
    let count = sym (ap (λ (n : Core). flight_count n.pipe) before.parts) ∙ sym c.flight_count.ensures ∙ none in
    rw (← c.self.view_is) (share_looked (seen_in_steps m.machine m.lines.colours m.colour m.closed) before.orderly before.places c.due.result c.is_none.result c.is_none.ensures due nobody c.if-self.false count)

pub returns-then-self : goal.returns-then-self
returns-then-self g c =
    let m = c.self.inside in
    rw (← c.self.view_is) (share_closed (seen_in_steps m.machine m.lines.colours m.colour m.closed) c.if-self.true)

pub returns-then-flight_count-gt0 : goal.returns-then-flight_count-gt0
returns-then-flight_count-gt0 g c =
    let m = c.self.inside in
    let before = c.core.ensures in
    let some = subst (λ (n : ℕ). 0 < n) (c.flight_count.ensures ∙ ap (λ (n : Core). flight_count n.pipe) before.parts) c.if-flight_count-gt0.true in
    rw (← c.self.view_is) (share_flying (seen_in_steps m.machine m.lines.colours m.colour m.closed) before.orderly before.places c.if-self.false some)
