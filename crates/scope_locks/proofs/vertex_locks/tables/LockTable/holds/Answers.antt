use Rattle.std.proofs.Common.{◌∙◌, sym, ap}
use Rattle.scope_locks.specs.vertex_locks.Locks.{LockView, has}
use Rattle.scope_locks.specs.vertex_locks.Inner.KeptLists.{locks_in}
use Rattle.scope_locks.proofs.vertex_locks.TableLemmas.{is_read, some_mode}
use Rattle.scope_locks.proofs.vertex_locks.tables.LockTable.holds.Goals as goal

pub returns : goal.returns
returns c =
    let read = is_read c.self.inside.places.items (locks_in c.self.inside.locks) c.args.self.now c.args.x.0 c.index.result.now c.at.result.now c.self.view_is c.requires c.index.ensures c.at.ensures in
    c.holds.ensures ∙ (ap (λ (k : LockView). has c.args.scope k.holders) read ∙ sym (some_mode _ c.args.scope))
