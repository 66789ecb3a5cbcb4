-- One end more is pending, or has the mark.
use Rattle.std.proofs.Common.{◌≡◌, ◌<◌, Some, length, ap, ◌∙◌, sym, subst, arith}
use Rattle.std.specs.Prelude.{slice_get}
use Rattle.std.proofs.lemmas.Option.{get_or_from_slice_get}
use Rattle.partition.specs.declared.machine_numbers.keeping.Numbers.{Numbers}
use Rattle.partition.specs.machine_numbers.Steps.{IsSideHere}
use Rattle.snapshot_machines.specs.marking.Inner.Marks.{AreTasksOf, sides_at}
use Rattle.snapshot_machines.proofs.marking.SaveLemmas.{pend_all, pend_rest, pend_step}
use Rattle.snapshot_machines.proofs.marking.marks.pend_ends.Goals as goal

pub side_at-side-requires : goal.side_at-side-requires
side_at-side-requires c =
    let at = c.loop-place in
    let low = c.loop-place-test.true in
    let many = at.invariant.many in
    let all = sides_at c.args.numbers.now.local c.args.v.0 in
    let inside : at.place < length all = omega (arith, low, many) in
    subst (λ (n : Numbers). at.place < length (sides_at n.local c.args.v.0)) (sym at.invariant.pending.rest) inside

pub pend_end-requires : goal.pend_end-requires
pend_end-requires c =
    let at = c.loop-place in
    let low = c.loop-place-test.true in
    let many = at.invariant.many in
    let n = c.args.numbers.now in
    let all = sides_at n.local c.args.v.0 in
    let side = c.side_at-side.result in
    let inside : at.place < length all = omega (arith, low, many) in
    let there : slice_get all at.place ≡ Some side = ap (λ (m : Numbers). slice_get (sides_at m.local c.args.v.0) at.place) (sym at.invariant.pending.rest) ∙ c.side_at-side.ensures in
    let here : IsSideHere n.local side = subst (IsSideHere n.local) (get_or_from_slice_get all at.place side side there) (c.requires.sides at.place side inside) in
    record {
      side = subst (λ (m : Numbers). IsSideHere m.local side) (sym at.invariant.pending.rest) (record { place = here.place; own = here.own });
      tasks = subst (λ (m : Numbers). AreTasksOf m.local at.numbers.tasks) (sym at.invariant.pending.rest) at.invariant.pending.pending.tasks;
    }

pub loop-place-preserved : goal.loop-place-preserved
loop-place-preserved c =
    let at = c.loop-place in
    let low = c.loop-place-test.true in
    let many = at.invariant.many in
    let n = c.args.numbers.now in
    let all = sides_at n.local c.args.v.0 in
    let side = c.side_at-side.result in
    let there : slice_get all at.place ≡ Some side = ap (λ (m : Numbers). slice_get (sides_at m.local c.args.v.0) at.place) (sym at.invariant.pending.rest) ∙ c.side_at-side.ensures in
    record {
      pending = pend_step n at.numbers c.pend_end.new.numbers c.args.known at.place all side side (omega (arith, low, many)) (sym (get_or_from_slice_get all at.place side side there)) at.invariant.pending c.pend_end.ensures.each c.pend_end.ensures.rest;
      many = many;
    }

pub returns-clause-each : goal.returns-clause-each
returns-clause-each c =
    let past = c.loop-place-test.false in
    let many = c.loop-place.invariant.many in
    pend_all c.args.numbers.now c.loop-place.numbers c.args.known c.loop-place.place (sides_at c.args.numbers.now.local c.args.v.0) (omega (arith, past, many)) c.loop-place.invariant.pending

pub returns-clause-rest : goal.returns-clause-rest
returns-clause-rest c = pend_rest c.args.numbers.now c.loop-place.numbers c.args.known (sides_at c.args.numbers.now.local c.args.v.0) _ c.loop-place.invariant.pending
