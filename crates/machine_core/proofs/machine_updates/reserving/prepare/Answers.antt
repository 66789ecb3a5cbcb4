-- One machine more: there is room for it now, or it is this one.
use Rattle.std.proofs.Common.{ℕ, ◌<◌, length, get_or, sym, subst}
use Rattle.machine_core.proofs.machine_updates.PrepareLemmas.{passed_over, one_prepared}
use Rattle.machine_core.proofs.machine_updates.reserving.prepare.Goals as goal
use Rattle.machine_core.proofs.machine_updates.reserving.prepare.Goals.{then-to-me+in_ok-prepare_one+in_ok-push, else-to-me}

pub loop-place-preserved : goal.loop-place-preserved
loop-place-preserved c =
    let at = c.loop-place in
    let bs = c.args.parts.now in
    let machine : (i : ℕ) → i < length bs → (get_or bs i (record { 0 = 0 })).0 < length at.out.machines = λ i inside.
    subst (λ (n : ℕ). (get_or bs i (record { 0 = 0 })).0 < n) (sym at.invariant.same.machines) (c.requires.machines i (record { 0 = 0 }) inside) in
    elim c.if-to-me.branch [
      | then-to-me+in_ok-prepare_one+in_ok-push w ↦
          let e = w.in_ok-prepare_one.ensures in
          rw (w.out-is, w.prepared-is, w.in_ok-push.ensures.items)
          (one_prepared c.args.out.now at.out w.prepare_one.new.out c.args.flight.scope c.args.flight.centre c.args.degree c.args.me.0 bs at.place (record { 0 = 0 }) at.prepared.items w.in_ok-prepare_one.field-0
          c.loop-place-test.true c.requires.apart w.if-to-me.true at.invariant e.to e.blank (machine at.place c.loop-place-test.true) e.room e.same e.others)
      | else-to-me w ↦
          rw (w.out-is, w.prepared-is)
          (passed_over c.args.out.now at.out c.args.flight.scope c.args.flight.centre c.args.degree c.args.me.0 bs at.place (record { 0 = 0 }) at.prepared.items c.loop-place-test.true w.if-to-me.false at.invariant)
    ]
