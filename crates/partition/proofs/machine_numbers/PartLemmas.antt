-- What a machine that played its lines gives of what the calls ask.
use Rattle.std.proofs.Common.{◌≡◌, ℕ, ◌<◌, ◌==◌, ◌&&◌, ◌||◌, true, List, Option, is_some, length, get_or, nat_lt, sym, ap, ◌∙◌, All, inl, inr}
use Rattle.std.specs.Prelude.{slice_get}
use Rattle.std.proofs.lemmas.Bool.{cases_lt, lt-ltb, le-ltb}
use Rattle.std.proofs.lemmas.Option.{slice_get-get_or, slice_get_past}
use Rattle.std.proofs.lemmas.List.{length-map, length-replicate}
use Rattle.std.proofs.lemmas.List.Sorted.{length_permutation}
use Rattle.gl_base.specs.declared.atoms.Lines.{Lines}
use Rattle.gl_base.specs.declared.atoms.VertexLine.{VertexLine}
use Rattle.gl_base.specs.declared.numbers.MachineNo.{MachineNo}
use Rattle.gl_base.specs.declared.numbers.Vertex.{Vertex}
use Rattle.graph_core.specs.DataGraph.{size}
use Rattle.local_graph.specs.declared.outlines.Outline.{Outline}
use Rattle.local_graph.specs.Locals.{got_at}
use Rattle.partition.specs.local_parts.Parts.{is_ghost_of}
use Rattle.partition.specs.machine_numbers.Views.{LocalView, TasksView, AreTasksOf, IsPlayedFrom, no_datum, is_own, sides_at}
use Rattle.partition.specs.machine_numbers.Steps.{IsSideHere}
use Rattle.partition.specs.machine_numbers.Settings.{Setting, IsLocalOf}
use Rattle.partition.proofs.machine_numbers.WakeLemmas.{left_holds}

abbrev no_vertex : Vertex
no_vertex = record { 0 = 0 }

some_there : {X : Type 0} (xs : List X) (k : ℕ) (d : X) → k < length xs → is_some (slice_get xs k) ≡ nat_lt k (length xs)
some_there xs k d low = ap is_some (slice_get-get_or xs k d low) ∙ sym (lt-ltb k (length xs) low)

pub tasks_are : (me : MachineNo) (lines : Lines) (outline : Outline) (l : LocalView) (t : TasksView) → IsPlayedFrom me lines outline l → length t.task ≡ length l.owned → AreTasksOf l t
tasks_are me lines outline l t played many =
    let kept : length l.kept ≡ length played.order = ap length played.kept ∙ length-replicate (length played.order) no_datum in
    let owned : length l.owned ≡ length played.order = ap length played.owned ∙ length-map lines.vertices.items (λ (v : VertexLine). v.vertex) ∙ sym (length_permutation lines.vertices.items played.order played.same) in
    let same : length l.kept ≡ length t.task = kept ∙ sym owned ∙ sym many in
    record {
      apart = λ x y k at_x at_y. sym (played.places.stands x k no_vertex at_x) ∙ played.places.stands y k no_vertex at_y;
      own = λ x k at.
          ap (λ (o : Option ℕ). is_some (got_at l.kept o)) at
          ∙ elim (cases_lt k (length l.kept)) [
            | inl low ↦ some_there l.kept k no_datum low
            | inr past ↦ ap is_some (slice_get_past l.kept k past) ∙ sym (le-ltb k (length l.kept) past)
          ]
          ∙ ap (nat_lt k) same;
    }

pub sides_are : (st : Setting) (l : LocalView) (v : ℕ) → IsLocalOf st l → is_own l v ≡ true → All (IsSideHere l) (sides_at l v)
sides_are st l v local own = λ i d low.
    let s = get_or (sides_at l v) i d in
    let at = local.places v own i d low in
    let owner = local.owners v own i d low in
    record {
      place = at;
      own = λ on.
          let x = s.other.0 in
          let placed : (nat_lt x (size st.graph) && (st.owner x == l.me.0 || is_ghost_of st l.me.0 x)) ≡ true = sym (local.known x) ∙ ap is_some at in
          let low_x = left_holds (nat_lt x (size st.graph)) (st.owner x == l.me.0 || is_ghost_of st l.me.0 x) placed in
          let mine : (st.owner x == l.me.0) ≡ true = sym (ap (λ (k : ℕ). k == l.me.0) owner) ∙ on in
          local.own x ∙ ap (λ b. b && st.owner x == l.me.0) low_x ∙ mine;
    }
