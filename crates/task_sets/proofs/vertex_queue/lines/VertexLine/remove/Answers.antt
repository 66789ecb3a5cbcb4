use Rattle.std.proofs.Common.{◌≡◌, ◌<◌, ◌≤◌, true, false, List, length, sym, subst, refl, slice_set, ◌∷◌, IsPermutation, ⊎_elim, arith}
use Rattle.std.proofs.lemmas.Bool.{cases_lt, false≢true}
use Rattle.gl_base.specs.declared.numbers.Vertex.{Vertex}
use Rattle.task_sets.specs.vertex_queue.Flags.{is_flagged}
use Rattle.task_sets.specs.vertex_queue.Lines.{LineView}
use Rattle.task_sets.specs.vertex_queue.Inner.Queues.{IsLine}
use Rattle.task_sets.specs.declared.vertex_queue.lines.VertexLine.TheInside.{Inside}
use Rattle.task_sets.proofs.vertex_queue.TurnLemmas.{leaves_so, line_others, line_left_last, line_left_moved, moved_within}
use Rattle.task_sets.proofs.vertex_queue.lines.VertexLine.remove.Goals as goal
use Rattle.task_sets.proofs.vertex_queue.lines.VertexLine.remove.Goals.{in-Some, in_default}

pub index_mut-requires : goal.index_mut-requires
index_mut-requires c =
    let m = c.self.inside in
    let v = c.args.vertex in
    let new = c.swap_remove_back.new.self in
    let there : is_flagged m.among.items v.0 ≡ true = subst (λ (l : LineView). is_flagged l.among v.0 ≡ true) (sym c.self.view_is) c.requires in
    let taken = c.swap_remove_back.ensures in
    let leaves = leaves_so m.among.items m.line.items m.line.cap m.turns.items m.first_turn c.self.invariant c.index-turn.result.now v _ c.swap_remove_back.result new.items (omega (arith, c.self.ranges)) there c.index-turn.ensures (omega (arith, m.line.ok)) taken.variant taken.value taken.items in
    let inside = c.in-Some.ensures.variant.0 refl in
    let low = moved_within m.among.items m.line.items m.line.cap m.turns.items m.first_turn c.self.invariant c.index-turn.result.now v _ new.items there leaves c.in-Some.moved.now (omega (arith, inside, new.ok)) c.in-Some.ensures.lookup in
    omega (arith, low, m.turns.ok)

pub invariant_of-self : goal.invariant_of-self
invariant_of-self c =
    let m = c.self.inside in
    let v = c.args.vertex in
    let new = c.swap_remove_back.new.self in
    let there : is_flagged m.among.items v.0 ≡ true = subst (λ (l : LineView). is_flagged l.among v.0 ≡ true) (sym c.self.view_is) c.requires in
    let taken = c.swap_remove_back.ensures in
    let leaves = leaves_so m.among.items m.line.items m.line.cap m.turns.items m.first_turn c.self.invariant c.index-turn.result.now v _ c.swap_remove_back.result new.items (omega (arith, c.self.ranges)) there c.index-turn.ensures (omega (arith, m.line.ok)) taken.variant taken.value taken.items in
    elim c.match-get.branch [
      | in-Some w ↦
          let inside = w.in-Some.ensures.variant.0 refl in
          subst (λ (n : Inside). IsLine (slice_set n.among.items v.0 false) n.line.items n.line.cap n.turns.items n.first_turn) (sym w.self-inside-is)
          (rw taken.capacity
          (line_left_moved m.among.items m.line.items m.line.cap m.turns.items m.first_turn c.self.invariant c.index-turn.result.now v _ new.items there leaves w.in-Some.moved.now (omega (arith, inside, new.ok)) w.in-Some.ensures.lookup))
      | in_default w ↦
          subst (λ (n : Inside). IsLine (slice_set n.among.items v.0 false) n.line.items n.line.cap n.turns.items n.first_turn) (sym w.self-inside-is)
          (rw taken.capacity
          (line_left_last m.among.items m.line.items m.line.cap m.turns.items m.first_turn c.self.invariant c.index-turn.result.now v _ new.items there leaves
          (⊎_elim
          (λ (low : _ < length new.items). absurd (false≢true (w.in_default.ensures.variant.1 (omega (arith, low, new.ok)))))
          (λ (past : length new.items ≤ _). past)
          (cases_lt _ (length new.items)))))
    ]

pub returns-clause-others : goal.returns-clause-others
returns-clause-others c =
    let m = c.self.inside in
    let v = c.args.vertex in
    let new = c.swap_remove_back.new.self in
    let there : is_flagged m.among.items v.0 ≡ true = subst (λ (l : LineView). is_flagged l.among v.0 ≡ true) (sym c.self.view_is) c.requires in
    let taken = c.swap_remove_back.ensures in
    let leaves = leaves_so m.among.items m.line.items m.line.cap m.turns.items m.first_turn c.self.invariant c.index-turn.result.now v _ c.swap_remove_back.result new.items (omega (arith, c.self.ranges)) there c.index-turn.ensures (omega (arith, m.line.ok)) taken.variant taken.value taken.items in
    let others = line_others m.among.items m.line.items m.line.cap m.turns.items m.first_turn c.self.invariant c.index-turn.result.now v _ new.items there leaves in
    let stays : (line : List Vertex) → line ≡ new.items → IsPermutation m.line.items (v ∷ line) = λ line same. subst (λ (ws : List Vertex). IsPermutation m.line.items (v ∷ ws)) (sym same) others in
    subst (λ (l : LineView). IsPermutation l.line (v ∷ c.match-get.self-inside.line.items)) c.self.view_is
    (elim c.match-get.branch [
      | in-Some w ↦ stays c.match-get.self-inside.line.items (λ i. (w.self-inside-is i).line.items)
      | in_default w ↦ stays c.match-get.self-inside.line.items (λ i. (w.self-inside-is i).line.items)
    ])
