use Rattle.std.proofs.Common.{◌∙◌, List, sym, ap, subst}
use Rattle.gl_base.specs.declared.scopes.ScopeId.{ScopeId}
use Rattle.gl_base.specs.scope_lists.Found.{StandsAt, by_scope}
use Rattle.full_cluster.specs.ScopeMaps.{entry_scope, value_of}
use Rattle.full_cluster.proofs.ScopeMapLemmas.{none_taken, nothing_of, taken_values, value_at}
use Rattle.full_cluster.proofs.scope_maps.ScopeMap.take.Goals as goal

pub returns-in_err-place-clause-values : goal.returns-in_err-place-clause-values
returns-in_err-place-clause-values g c = λ t.
    let entries = c.args.self.now.entries.items in
    none_taken entries c.args.scope
    (nothing_of entries c.args.scope (ap (λ (es : List (ScopeId × g.row.T.Denot)). by_scope (entry_scope {T = g.row.T.Denot}) es c.args.scope) (sym c.deref.ensures.value) ∙ c.place_of.ensures.none c.in_err-place.was)) t

pub returns-clause-value : goal.returns-clause-value
returns-clause-value g c =
    let at = subst (λ (es : List (ScopeId × g.row.T.Denot)). StandsAt (entry_scope {T = g.row.T.Denot}) es c.args.scope c.in_ok-place.place) c.deref.ensures.value c.in_ok-place.ensures.there in
    sym (value_at c.args.self.now.entries.items c.args.scope c.in_ok-place.place c.swap_remove-value.result c.requires at c.swap_remove-value.ensures.value)

pub returns-clause-values : goal.returns-clause-values
returns-clause-values g c = λ t.
    let at = subst (λ (es : List (ScopeId × g.row.T.Denot)). StandsAt (entry_scope {T = g.row.T.Denot}) es c.args.scope c.in_ok-place.place) c.deref.ensures.value c.in_ok-place.ensures.there in
    ap (λ (es : List (ScopeId × g.row.T.Denot)). value_of es t) c.swap_remove-value.ensures.items
    ∙ taken_values c.args.self.now.entries.items c.args.scope c.in_ok-place.place c.swap_remove-value.result c.requires at t
