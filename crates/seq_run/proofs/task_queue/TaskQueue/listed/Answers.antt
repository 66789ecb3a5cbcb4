use Rattle.std.proofs.Common.{◌≡◌, ℕ, ◌<◌, ◌∙◌, subst, Bool, List, length, slice_index_or, All, arith}
use Rattle.std.proofs.Math.ListN.{length-set}
use Rattle.std.proofs.lemmas.List.{get_or-map, length-map}
use Rattle.gl_base.specs.declared.numbers.Vertex.{Vertex}
use Rattle.graph_core.specs.Growth.{numbers_of}
use Rattle.seq_run.proofs.Queueing.{added_listed}
use Rattle.seq_run.proofs.task_queue.TaskQueue.listed.Goals as goal

inside : (tasks : List Bool) (vertices : List Vertex) (at : ℕ) (d : Vertex) → length tasks ≡ length vertices → at < length vertices → All (λ v. v < length vertices) (numbers_of vertices) → (slice_index_or vertices at d).0 < length tasks
inside tasks vertices at d count within below =
    let many = length-map vertices (λ (w : Vertex). w.0) in
    let low = below at 0 (omega (arith, many, within)) in
    let read = get_or-map (λ (w : Vertex). w.0) vertices at d 0 within in
    rw count (subst (λ n. n < length vertices) read low)

pub add-requires : goal.add-requires
add-requires c = inside c.loop-vertex.tasks c.args.vertices.now c.loop-vertex.vertex-index _ c.loop-vertex.invariant.0 c.loop-vertex-test.true c.requires.below

pub loop-vertex-preserved : goal.loop-vertex-preserved
loop-vertex-preserved c =
    let none : Vertex = record { 0 = 0 } in
    let tasks = c.loop-vertex.tasks in
    let vertices = c.args.vertices.now in
    let at = c.loop-vertex.vertex-index in
    let within = c.loop-vertex-test.true in
    let low = inside tasks vertices at none c.loop-vertex.invariant.0 within c.requires.below in
    rw c.add.ensures
    (length-set tasks _ _ ∙ c.loop-vertex.invariant.0, λ u. added_listed tasks vertices at u none within low (c.loop-vertex.invariant.1 u))
