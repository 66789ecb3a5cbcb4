-- What a program makes of a work that was taken here.
use Rattle.std.proofs.Common.{◌≡◌, ℕ, ◌++◌, true, List, [], ◌∷◌, sym, ap, ◌∙◌, subst, All}
use Rattle.gl_base.specs.declared.numbers.Vertex.{Vertex}
use Rattle.gl_base.specs.declared.scopes.ScopeId.{ScopeId}
use Rattle.update_api.specs.Links.{nears_at}
use Rattle.update_api.specs.Marks.{AreMarked}
use Rattle.local_graph.specs.declared.sides.Side.{Side}
use Rattle.local_graph.specs.declared.works.Outcome.{Outcome}
use Rattle.partition.specs.declared.machine_numbers.keeping.Numbers.{Numbers}
use Rattle.partition.specs.machine_numbers.Views.{is_own, sides_at, numbers_along, near_along, value_here, edge_here}
use Rattle.partition.specs.machine_numbers.Steps.{HasTakenOut, made_of}
use Rattle.partition.specs.machine_numbers.Settings.{Setting, IsLocalOf, IsRowOf, IsOutcomeOf, IsMadeOfWork, lent_along}

pub outcome_is : (st : Setting) (old new : Numbers) (scope : ScopeId) (v : Vertex) (o : Outcome) → IsLocalOf st old.local → is_own old.local v.0 ≡ true
    → HasTakenOut old new scope v o.work → IsMadeOfWork st.program o → IsOutcomeOf st old (made_of o)
outcome_is st old new scope v o local own taken made =
    let links = o.work.row.links.items in
    let numbers = o.work.row.numbers.items in
    let x = o.work.vertex.0 in
    let e : v.0 ≡ x = ap (λ (w : Vertex). w.0) (sym taken.vertex) in
    let value : o.work.value ≡ value_here old x = taken.value ∙ ap (value_here old) e in
    let lent : o.work.near.items ++ o.work.value ∷ [] ≡ lent_along old x =
    ap (λ (ns : List ℕ). ns ++ o.work.value ∷ []) taken.near ∙ ap (λ (k : ℕ). near_along (value_here old) (sides_at old.local v.0) ++ k ∷ []) taken.value ∙ ap (lent_along old) e in
    record {
      row = subst (λ (y : ℕ). IsRowOf st y (sides_at old.local y) links) e (local.rows v.0 links own taken.links);
      owners = subst (λ (y : ℕ). All (λ (s : Side). s.owner.0 ≡ st.owner s.other.0) (sides_at old.local y)) e (local.owners v.0 own);
      numbers = taken.numbers ∙ ap (λ (y : ℕ). numbers_along (edge_here old) (sides_at old.local y)) e;
      value =
          made.value ∙ ap (λ (k : ℕ). st.program.number k (nears_at (o.work.near.items ++ o.work.value ∷ []) numbers links)) value
          ∙ ap (λ (vs : List ℕ). st.program.number (value_here old x) (nears_at vs numbers links)) lent;
      marks = subst (λ (vs : List ℕ). AreMarked (st.program.mark o.value) vs numbers links o.edges.items) lent made.marks;
      woken = made.woken ∙ ap (λ (k : ℕ). st.program.woken k o.value) value;
    }
