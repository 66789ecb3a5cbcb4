use Rattle.std.proofs.Common.{List, sym, subst}
use Rattle.gl_base.specs.declared.scopes.ScopeId.{ScopeId}
use Rattle.full_cluster.specs.ScopeMaps.{AreOnce}
use Rattle.full_cluster.proofs.ScopeMapLemmas.{put_once, put_value}
use Rattle.full_cluster.proofs.scope_maps.ScopeMap.put.Goals as goal

pub returns-clause-values : goal.returns-clause-values
returns-clause-values g c = λ t. rw c.push_reserved.ensures.items (put_value c.args.self.now.entries.items c.args.scope c.args.value c.requires.none t)

pub returns-clause-once : goal.returns-clause-once
returns-clause-once g c = subst (λ (entries : List (ScopeId × g.row.T.Denot)). AreOnce entries) (sym c.push_reserved.ensures.items) (put_once c.args.self.now.entries.items c.args.scope c.args.value c.requires.none c.requires.once)
