use Rattle.std.proofs.Common.{◌∙◌, ◌++◌, [], ◌∷◌, List, ℕ, Bool, false, if◌then◌else◌, map, slice_index_or, sym, ap}
use Rattle.gl_base.specs.declared.numbers.MachineNo.{MachineNo}
use Rattle.full_cluster.proofs.PassingLemmas.{passing-more}
use Rattle.full_cluster.proofs.WayLemmas.{map_marked}
use Rattle.full_cluster.proofs.ways.list_marked.Goals as goal

pub loop-a-preserved : goal.loop-a-preserved
loop-a-preserved c =
    let a = c.loop-a.a in
    let test : ℕ → Bool = λ k. slice_index_or c.args.marks.now k false in
    ap (map (λ (m : MachineNo). m.0)) c.in_ok-push_marked.ensures
    ∙ map_marked c.loop-a.list.items (record { 0 = a }) (test a)
    ∙ ap (λ (ns : List ℕ). ns ++ (if test a then a ∷ [] else [])) c.loop-a.invariant
    ∙ sym (passing-more test a)
