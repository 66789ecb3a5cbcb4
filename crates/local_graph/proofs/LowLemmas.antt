-- Keys and vertices are below the count.
use Rattle.std.proofs.Common.{◌≡◌, ℕ, suc, ◌+◌, ◌*◌, ◌<◌, ◌≤◌, ◌==◌, ◌++◌, Bool, true, false, if◌then◌else◌, List, [], ◌∷◌, length, map, ap, ◌∙◌, All, arith}
use Rattle.std.specs.List.{filter}
use Rattle.std.specs.List.Sorted.{IsPermutation}
use Rattle.std.proofs.lemmas.List.{length-append, length-map}
use Rattle.std.proofs.lemmas.List.Sorted.{All-permutation}
use Rattle.graph_core.specs.Rows.{with_key}
use Rattle.std.proofs.lemmas.List.Elements.{All-append, All-map}
use Rattle.gl_base.specs.declared.atoms.EdgeLine.{EdgeLine}
use Rattle.gl_base.specs.declared.atoms.VertexLine.{VertexLine}
use Rattle.gl_base.specs.declared.atoms.GhostLine.{GhostLine}
use Rattle.gl_base.specs.declared.numbers.Vertex.{Vertex}
use Rattle.local_graph.specs.Lines.{halves_of_lines}
use Rattle.local_graph.specs.Inner.Ends.{end_pairs}
use Rattle.local_graph.proofs.EndLemmas.{ends_at, length-end_pairs}

pub known_low : (n : ℕ) (own : List VertexLine) (ghosts : List GhostLine) → All (λ v. v.vertex.0 < n) own → All (λ g. g.vertex.0 < n) ghosts
    → All (λ (v : Vertex). v.0 < n) (map (λ v. v.vertex) own ++ map (λ g. g.vertex) ghosts)
known_low n own ghosts own_low ghosts_low =
    All-append (λ (v : Vertex). v.0 < n) (map (λ (v : VertexLine). v.vertex) own) (map (λ (g : GhostLine). g.vertex) ghosts)
    (All-map (λ (v : Vertex). v.0 < n) (λ (v : VertexLine). v.vertex) own own_low) (All-map (λ (v : Vertex). v.0 < n) (λ (g : GhostLine). g.vertex) ghosts ghosts_low)

-- ---- an order of lines

pub ordered_low : (n : ℕ) (lines order : List VertexLine) (ghosts : List GhostLine) → IsPermutation lines order → All (λ v. v.vertex.0 < n) lines → All (λ g. g.vertex.0 < n) ghosts
    → All (λ (v : Vertex). v.0 < n) (map (λ v. v.vertex) order ++ map (λ g. g.vertex) ghosts)
ordered_low n lines order ghosts same own_low ghosts_low = known_low n order ghosts (All-permutation (λ (v : VertexLine). v.vertex.0 < n) lines order same own_low) ghosts_low

pub length-known : (own : List VertexLine) (ghosts : List GhostLine) → length (map (λ v. v.vertex) own ++ map (λ g. g.vertex) ghosts) ≡ length own + length ghosts
length-known own ghosts =
    length-append (map (λ (v : VertexLine). v.vertex) own) (map (λ (g : GhostLine). g.vertex) ghosts)
    ∙ ap (λ (n : ℕ). n + length (map (λ (g : GhostLine). g.vertex) ghosts)) (length-map own (λ (v : VertexLine). v.vertex))
    ∙ ap (λ (n : ℕ). length own + n) (length-map ghosts (λ (g : GhostLine). g.vertex))

few_passing : {X : Type 0} (p : X → Bool) (xs : List X) → length (filter p xs) ≤ length xs
few_passing p [] = omega arith
few_passing p (x ∷ xs) = count (p x) (few_passing p xs)
  where
    count : (b : Bool) → length (filter p xs) ≤ length xs → length (if b then x ∷ filter p xs else filter p xs) ≤ suc (length xs)
    count true rest = omega arith
    count false rest = omega arith

pub few_keyed : {X : Type 0} (k : ℕ) (pairs : List (ℕ × X)) → length (with_key k pairs) ≤ length pairs
few_keyed {X} k pairs =
    let few = few_passing (λ (p : ℕ × X). p.0 == k) pairs in
    omega (arith, length-map (filter (λ (p : ℕ × X). p.0 == k) pairs) (λ (p : ℕ × X). p.1))

-- ---- the half-edges at one vertex

pub few_halves : (directed : Bool) (edges : List EdgeLine) (v : ℕ) → length (halves_of_lines directed edges v) ≤ 2 * length edges
few_halves directed edges v =
    let pairs = end_pairs directed (v + 1) edges in
    let is = ap length (ends_at directed (v + 1) v edges (omega arith)) in
    omega (arith, few_keyed v pairs, length-end_pairs directed (v + 1) edges)
