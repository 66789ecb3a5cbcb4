use Rattle.std.proofs.Common.{◌≡◌, [], length, vec_capacity}
use Rattle.std.specs.List.{All}
use Rattle.std.specs.Global.{Vec}
use Rattle.gl_base.specs.declared.numbers.Vertex.{Vertex}
use Rattle.task_sets.proofs.color_tasks.lines.empty_rows.Given as goal

abbrev pub invariant-loop : goal.invariant-loop
invariant-loop l =
    record {
      count : length l.rows.items ≡ l.counter;
      room : vec_capacity l.rows ≡ l.count;
      empty : All (λ (row : Vec Vertex). row.items ≡ []) l.rows.items;
    }
