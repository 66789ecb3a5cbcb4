use Rattle.std.proofs.Common.{◌∙◌, List, ℕ, Bool, false, length, slice_index_or, ap, arith}
use Rattle.std.proofs.lemmas.Result.{IfOk-weaker}
use Rattle.full_cluster.specs.Owners.{owner_in}
use Rattle.full_cluster.specs.Inner.Ways.{has_own_of, passing}
use Rattle.full_cluster.proofs.WayLemmas.{passing-alike}
use Rattle.full_cluster.proofs.ways.machines_of.Goals as goal

pub returns : goal.returns
returns c =
    let g = c.args.graph.now in
    let owner : ℕ → ℕ = owner_in c.args.owner.now in
    let marks : List Bool = c.in_ok-marks.marks.items in
    let test : ℕ → Bool = λ a. slice_index_or marks a false in
    IfOk-weaker c.list_marked.result _ _
    (λ list is.
    is
    ∙ ap (λ (bs : List Bool). passing (λ a. slice_index_or bs a false) 0 (length bs)) c.deref.ensures.value
    ∙ ap (passing test 0) c.in_ok-marks.ensures.count
    ∙ passing-alike test (has_own_of g owner c.args.v.0) 0 c.args.machines (λ a low high. c.in_ok-marks.ensures.marked a (omega (arith, high))))
    c.list_marked.ensures
