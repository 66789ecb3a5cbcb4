use Rattle.std.proofs.Common.{◌<◌, List, Bool, sym, subst}
use Rattle.scope_locks.specs.vertex_locks.Inner.KeptTables.{table_of}
use Rattle.scope_locks.specs.vertex_locks.Inner.KeptLists.{locks_in}
use Rattle.scope_locks.proofs.vertex_locks.ListedLemmas.{count_listed, fewer_listed, listed_inside, none_grantable, table_less}
use Rattle.scope_locks.proofs.vertex_locks.tables.first_listed.Goals as goal

pub is_grantable-requires-clause-owned : goal.is_grantable-requires-clause-owned
is_grantable-requires-clause-owned c = c.loop-x.invariant.listed.owned c.in-Some.x.0 c.in-Some.ensures

pub remove-requires : goal.remove-requires
remove-requires c = listed_inside c.loop-x.listed c.in-Some.x.0 c.in-Some.ensures

pub loop-x-preserved : goal.loop-x-preserved
loop-x-preserved c = table_less c.args.places.now (locks_in c.args.locks.now) c.loop-x.listed c.remove.new.self c.in-Some.x.0 c.remove.ensures c.in-Some.ensures (c.is_grantable.ensures.not c.if-is_grantable.false) c.loop-x.invariant

pub loop-x-smaller : goal.loop-x-smaller
loop-x-smaller c = subst (λ (flags : List Bool). count_listed flags < count_listed c.loop-x.listed) (sym c.remove.ensures) (fewer_listed c.loop-x.listed c.in-Some.x.0 c.in-Some.ensures)

pub returns-clause-next : goal.returns-clause-next
returns-clause-next c = none_grantable (table_of c.args.places.now (locks_in c.args.locks.now)) c.loop-x.listed c.loop-x.invariant.listed c.in_default.ensures
