use Rattle.graph_core.proofs.IdLemmas.{search_none}
use Rattle.graph_core.proofs.id_table.Ranges.find.Goals as goal

pub returns-in-Err : goal.returns-in-Err
returns-in-Err c =
    let r = c.args.self.now in
    search_none c.args.ids.now r.least r.shift r.starts.items c.args.id c.index.result.now c.index-2.result.now c.in-Err.field-0 c.requires.ranges c.requires.ascending c.index.ensures c.index-2.ensures c.in-Err.ensures.position
