use Rattle.std.proofs.Common.{List, subst}
use Rattle.gl_base.specs.declared.scopes.ScopeId.{ScopeId}
use Rattle.gl_base.specs.scope_lists.Found.{StandsAt}
use Rattle.full_cluster.specs.ScopeMaps.{entry_scope}
use Rattle.full_cluster.proofs.ScopeMapLemmas.{value_at}
use Rattle.full_cluster.proofs.scope_maps.ScopeMap.get.Goals as goal

pub returns-clause-some : goal.returns-clause-some
returns-clause-some g c =
    let at = subst (λ (es : List (ScopeId × g.row.T.Denot)). StandsAt (entry_scope {T = g.row.T.Denot}) es c.args.scope c.in_ok-place.place) c.deref.ensures.value c.in_ok-place.ensures.there in
    value_at c.args.self.now.entries.items c.args.scope c.in_ok-place.place c.index.result.now c.requires at c.index.ensures
