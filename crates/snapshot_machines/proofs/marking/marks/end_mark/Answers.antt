-- The flags at the place of the vertex.
use Rattle.std.proofs.Common.{◌≡◌, ℕ, false, Some, slice_set, ap, ◌∙◌, sym, subst}
use Rattle.partition.proofs.machine_numbers.WakeLemmas.{own_inside}
use Rattle.partition.specs.machine_numbers.Views.{flag_there}
use Rattle.snapshot_machines.specs.marking.Marking.{HasUnplanned}
use Rattle.snapshot_machines.proofs.marking.EndLemmas.{ended_at}
use Rattle.snapshot_machines.proofs.marking.marks.end_mark.Goals as goal

place_same : (j k : ℕ) → Some j ≡ Some k → j ≡ k
place_same j k is = cc

pub end_place-requires : goal.end_place-requires
end_place-requires c =
    let l = c.args.local.now in
    let t = c.args.tasks.now in
    let at = sym c.place.ensures ∙ c.in-Some.is in
    record {
      inside = own_inside l t c.args.v.0 c.in-Some.place c.requires.tasks c.requires.own at;
      admitted = sym (ap (flag_there t.admitted) at) ∙ c.requires.admitted;
      pending = sym (ap (flag_there t.pending) at) ∙ c.requires.pending;
    }

pub returns-clause-each : goal.returns-clause-each
returns-clause-each c =
    let at = sym c.place.ensures ∙ c.in-Some.is in
    ended_at c.args.local.now c.args.tasks.now c.end_place.new.tasks c.args.v.0 c.in-Some.place c.requires.tasks at c.requires.pending c.end_place.ensures.pending

pub returns-clause-admitted : goal.returns-clause-admitted
returns-clause-admitted c k at =
    let here = sym c.place.ensures ∙ c.in-Some.is in
    c.end_place.ensures.admitted ∙ ap (λ (j : ℕ). slice_set c.args.tasks.now.admitted j false) (place_same c.in-Some.place k (sym here ∙ at))

pub returns-clause-plans : goal.returns-clause-plans
returns-clause-plans c k at =
    let here = sym c.place.ensures ∙ c.in-Some.is in
    subst (λ (j : ℕ). HasUnplanned c.args.tasks.now c.end_place.new.tasks j) (place_same c.in-Some.place k (sym here ∙ at)) c.end_place.ensures.plans
