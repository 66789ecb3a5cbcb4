use Rattle.std.proofs.Common.{refl, arith, length}
use Rattle.graph_core.proofs.IdLemmas.{consecutive}
use Rattle.graph_core.proofs.id_table.Form.new.Goals as goal

pub returns-then-span-ids : goal.returns-then-span-ids
returns-then-span-ids c =
    consecutive c.args.ids.now _ (length c.args.ids.now) c.requires.ascending refl refl (omega arith)
