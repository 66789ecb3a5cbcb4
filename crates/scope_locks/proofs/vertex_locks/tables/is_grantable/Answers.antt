use Rattle.std.proofs.Common.{◌≡◌, slice_index, slice_index_or, ◌∙◌, sym}
use Rattle.scope_locks.specs.vertex_locks.Inner.KeptTables.{table_of}
use Rattle.scope_locks.specs.vertex_locks.Tables.{no_lock}
use Rattle.scope_locks.specs.vertex_locks.Inner.KeptLists.{locks_in}
use Rattle.scope_locks.proofs.vertex_locks.ListedLemmas.{grants_none, grants_some, read_there}
use Rattle.scope_locks.proofs.vertex_locks.tables.is_grantable.Goals as goal

at_place : (c : goal.After-is_some) → c.at.result.now ≡ slice_index_or (locks_in c.args.locks.now) (slice_index c.args.places.now c.args.x.0) no_lock
at_place c = c.at.ensures

pub returns-clause-yes : goal.returns-clause-yes
returns-clause-yes c = λ yes.
    let l = c.at.result.now in
    let read = read_there c.args.places.now (locks_in c.args.locks.now) c.args.x.0 l c.requires.owned (at_place c) in
    grants_some (table_of c.args.places.now (locks_in c.args.locks.now)) c.args.x.0 l c.next.result c.requires.owned read c.next.ensures.next (sym c.is_some.ensures ∙ yes)

pub returns-clause-not : goal.returns-clause-not
returns-clause-not c = λ not.
    let l = c.at.result.now in
    let read = read_there c.args.places.now (locks_in c.args.locks.now) c.args.x.0 l c.requires.owned (at_place c) in
    grants_none (table_of c.args.places.now (locks_in c.args.locks.now)) c.args.x.0 l c.next.result read c.next.ensures.none (sym c.is_some.ensures ∙ not)
