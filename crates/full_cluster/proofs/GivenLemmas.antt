-- What was gathered, as a list.
use Rattle.std.proofs.Common.{◌≡◌, ◌≢◌, ℕ, ◌==◌, if◌then◌else◌, unwrap_or, Option, Some, List, [], ◌∷◌, ◌++◌, refl, sym, ◌∙◌, ap, ⊎_elim, eq-eqb, ne_eqb}
use Rattle.std.proofs.lemmas.Bool.{cases_eq}
use Rattle.gl_base.specs.declared.numbers.EdgeNo.{EdgeNo}
use Rattle.gl_base.specs.declared.numbers.Vertex.{Vertex}
use Rattle.full_laws.specs.FullEffects.{gathers}
use Rattle.full_cluster.specs.Given.{IsSeenList, edge_after, vertex_after}

-- what is gathered is written last
pub after_append : (pairs : List (Vertex × ℕ)) (x : Vertex) (n y here : ℕ) → vertex_after (pairs ++ (x, n) ∷ []) y here ≡ (if x.0 == y then n else vertex_after pairs y here)
after_append [] x n y here = refl
after_append (pair ∷ pairs) x n y here = after_append pairs x n y (if pair.0.0 == y then pair.1 else here)

-- the same of an edge's number
pub edge_after_append : (pairs : List (EdgeNo × ℕ)) (e : EdgeNo) (n y here : ℕ) → edge_after (pairs ++ (e, n) ∷ []) y here ≡ (if e.0 == y then n else edge_after pairs y here)
edge_after_append [] e n y here = refl
edge_after_append (pair ∷ pairs) e n y here = edge_after_append pairs e n y (if pair.0.0 == y then pair.1 else here)

pub gathered_list : (pairs : List (Vertex × ℕ)) (x : Vertex) (n : ℕ) (f : ℕ → Option ℕ) → IsSeenList pairs f → IsSeenList (pairs ++ (x, n) ∷ []) (gathers x.0 n f)
gathered_list pairs x n f seen y here = after_append pairs x n y here ∙ ⊎_elim
    (λ (at : x.0 ≡ y). ap (λ test. if test then n else vertex_after pairs y here) (eq-eqb x.0 y at) ∙ sym (ap (λ test. unwrap_or (if test then Some n else f y) here) (eq-eqb y x.0 (sym at))))
    (λ (off : x.0 ≢ y). ap (λ test. if test then n else vertex_after pairs y here) (ne_eqb x.0 y off) ∙ seen y here ∙ sym (ap (λ test. unwrap_or (if test then Some n else f y) here) (ne_eqb y x.0 (λ is. off (sym is)))))
    (cases_eq x.0 y)
