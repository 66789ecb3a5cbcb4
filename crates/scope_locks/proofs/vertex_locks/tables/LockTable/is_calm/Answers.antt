use Rattle.std.proofs.Common.{◌∙◌, sym, subst, nat_eq}
use Rattle.std.proofs.lemmas.Bool.{eq-eqb, eqb-true, both_ways}
use Rattle.scope_locks.specs.vertex_locks.Tables.{IsUnclaimed}
use Rattle.scope_locks.proofs.vertex_locks.CountLemmas.{count_free, free_count}
use Rattle.scope_locks.proofs.vertex_locks.tables.LockTable.is_calm.Goals as goal

pub returns-clause-free : goal.returns-clause-free
returns-clause-free c = λ is.
    subst IsUnclaimed c.self.view_is (free_count _ (sym c.self.invariant.counted ∙ eqb-true c.self.inside.claimed 0 is))

pub returns-clause-claimed : goal.returns-clause-claimed
returns-clause-claimed c = λ is free.
    both_ways (nat_eq c.self.inside.claimed 0) is (eq-eqb c.self.inside.claimed 0 (c.self.invariant.counted ∙ count_free _ (subst IsUnclaimed (sym c.self.view_is) free)))
