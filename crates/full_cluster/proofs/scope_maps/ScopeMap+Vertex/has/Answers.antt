use Rattle.std.proofs.Common.{◌≡◌, ◌≢◌, ◌∙◌, ℕ, ◌<◌, None, IfSome, List, length, slice_index_or, sym, subst}
use Rattle.gl_base.specs.declared.numbers.Vertex.{Vertex}
use Rattle.gl_base.specs.declared.scopes.ScopeId.{ScopeId}
use Rattle.full_cluster.specs.ScopeMaps.{HasVertexAt}
use Rattle.full_cluster.proofs.ScopeMapLemmas.{found_vertex, missed_vertex}
use Rattle.full_cluster.proofs.scope_maps.ScopeMap+Vertex.has.Goals as goal

pub returns-clause-yes : goal.returns-clause-yes
returns-clause-yes c = λ is.
    let found = c.place_of_vertex.result in
    found_vertex c.args.self.now.entries.items c.args.v found c.requires
    (subst (λ (es : List (ScopeId × Vertex)). IfSome found (HasVertexAt es c.args.v)) c.deref.ensures.value c.place_of_vertex.ensures.there)
    (sym c.is_some.ensures ∙ is)

pub returns-clause-not : goal.returns-clause-not
returns-clause-not c = λ is.
    let found = c.place_of_vertex.result in
    missed_vertex c.args.self.now.entries.items c.args.v found
    (subst (λ (es : List (ScopeId × Vertex)). found ≡ None → (k : ℕ) (d : ScopeId × Vertex) → k < length es → (slice_index_or es k d).1.0 ≢ c.args.v.0) c.deref.ensures.value c.place_of_vertex.ensures.none)
    (sym c.is_some.ensures ∙ is)
