-- The row of the colour has one vertex more.
use Rattle.std.proofs.Common.{◌∙◌, ◌++◌, ◌∷◌, [], List, ap, arith, length, set}
use Rattle.std.proofs.lemmas.List.{length-map, map-set}
use Rattle.std.specs.Global.{Vec}
use Rattle.gl_base.specs.declared.numbers.Vertex.{Vertex}
use Rattle.task_sets.specs.color_tasks.Inner.Seats.{colour_rows}
use Rattle.task_sets.proofs.color_tasks.SeatLemmas.{row_is}
use Rattle.task_sets.proofs.color_tasks.lines.join.Goals as goal

pub returns-clause-joined : goal.returns-clause-joined
returns-clause-joined c =
    let rows = c.args.rows.now.items in
    let row = c.index_mut-row.result.now in
    let was = row_is rows c.args.colour row c.requires.within c.index_mut-row.ensures.value in
    record {
      rank = let n = c.len-rank.ensures in let ok = row.ok in let same = ap length was in omega (arith, n, ok, same);
      within = let low = c.requires.within in let many = length-map rows (λ (r : Vec Vertex). r.items) in omega (arith, low, many);
      rows = map-set (λ (r : Vec Vertex). r.items) rows c.args.colour c.push.new.self
          ∙ ap (λ (r : List Vertex). set (colour_rows rows) c.args.colour r) (c.in_ok-push.ensures.items ∙ ap (λ (r : List Vertex). r ++ c.args.vertex ∷ []) was);
    }
