-- The half-edges at a vertex are those of the graph.
use Rattle.std.proofs.Common.{◌≡◌, ℕ, zero, suc, ◌+◌, ◌<◌, ◌==◌, ◌||◌, ◌++◌, Bool, true, false, not, if◌then◌else◌, List, [], ◌∷◌, length, get_or, map, refl, sym, ap, ◌∙◌, subst, All, arith, inl, inr}
use Rattle.std.specs.List.{filter, range_with_len}
use Rattle.std.proofs.lemmas.Bool.{cases_eq, cases_Bool, eq-eqb, ne_eqb, true≢false}
use Rattle.std.proofs.lemmas.List.{map-append}
use Rattle.std.proofs.lemmas.List.Elements.{All-head, All-tail}
use Rattle.gl_base.specs.declared.atoms.EdgeLine.{EdgeLine}
use Rattle.gl_base.specs.declared.numbers.EdgeNo.{EdgeNo}
use Rattle.gl_base.specs.declared.numbers.Vertex.{Vertex}
use Rattle.graph_core.specs.DataGraph.{DataEdge, DataGraph}
use Rattle.graph_core.specs.Halves.{DataHalf, half_at, halves_from}
use Rattle.graph_core.specs.HalfRows.{data_half}
use Rattle.graph_core.specs.declared.halves.Half.{Half}
use Rattle.update_api.specs.Directions.{leads_out, leads_into}
use Rattle.update_api.specs.declared.links.Link.{Link}
use Rattle.graph_atoms.specs.atom_cut.Atoms.{edge_of, line_of_edge, is_in, touches}
use Rattle.local_graph.specs.declared.sides.Side.{Side}
use Rattle.local_graph.specs.Lines.{direction_of, half_of_line, halves_of_lines, line_into, link_of, links_from}
use Rattle.local_graph.specs.Works.{IsRow}
use Rattle.partition.specs.local_parts.Parts.{half_along, halves_along}

abbrev no_edge : DataEdge
no_edge = record { from = 0; to = 0; weight = 0 }

-- the edge as a line
abbrev pub as_line : ℕ → DataEdge → EdgeLine
as_line k e = record { edge = record { 0 = k }; from = record { 0 = e.from }; to = record { 0 = e.to }; weight = e.weight }

one_half : (directed : Bool) (v k : ℕ) (e : DataEdge) → (e.from ≡ e.to → ⊥) → map data_half (half_of_line directed v (as_line k e)) ≡ half_at directed v k e
one_half directed v k e apart = elim (cases_eq e.from v) [
  | inl at ↦
      let off = ne_eqb e.to v (λ q. apart (at ∙ sym q)) in
      let on = eq-eqb e.from v at in
      rw (on, off) refl
  | inr off ↦
      let not_from = ne_eqb e.from v off in
      rw not_from (here (e.to == v))
]
  where
    here : (b : Bool) → map data_half (if b then line_into directed (as_line k e) ∷ [] else []) ≡ (if b then record { edge = k; other = e.from; weight = e.weight; out = not directed; into = true } ∷ [] else [])
    here true = refl
    here false = refl

untouched : (directed : Bool) (of : List ℕ) (a v : ℕ) (e : EdgeLine) → is_in of a v ≡ true → touches of a e ≡ false → half_of_line directed v e ≡ []
untouched directed of a v e own off =
    let from = none_at e.from.0 (or_left (is_in of a e.from.0) (is_in of a e.to.0) off) in
    let to = none_at e.to.0 (or_right (is_in of a e.from.0) (is_in of a e.to.0) off) in
    rw (from, to) refl
  where
    or_left : (b c : Bool) → (b || c) ≡ false → b ≡ false
    or_left false c is = refl
    or_left true c is = is

    or_right : (b c : Bool) → (b || c) ≡ false → c ≡ false
    or_right false c is = is
    or_right true c is = absurd (true≢false is)

    none_at : (x : ℕ) → is_in of a x ≡ false → (x == v) ≡ false
    none_at x out = elim (cases_eq x v) [
      | inl same ↦ absurd (true≢false (sym own ∙ ap (is_in of a) (sym same) ∙ out))
      | inr other ↦ ne_eqb x v other
    ]

-- the lines of edges from k on, those at the atom
pub graph_halves_of : (g : DataGraph) (of : List ℕ) (a v k : ℕ) (rest : List DataEdge) → is_in of a v ≡ true → ((i : ℕ) → i < length rest → edge_of g (k + i) ≡ get_or rest i no_edge) → All (λ e. e.from ≡ e.to → ⊥) rest
    → map data_half (halves_of_lines g.directed (filter (touches of a) (map (line_of_edge g) (range_with_len k (length rest)))) v) ≡ halves_from g.directed v k rest
graph_halves_of g of a v k [] own are apart = refl
graph_halves_of g of a v k (e ∷ rest) own are apart =
    let more = map (line_of_edge g) (range_with_len (k + 1) (length rest)) in
    let next : map data_half (halves_of_lines g.directed (filter (touches of a) more) v) ≡ halves_from g.directed v (suc k) rest =
    graph_halves_of g of a v (k + 1) rest own (λ i low. let n : k + 1 + i ≡ k + suc i = omega arith in ap (edge_of g) n ∙ are (suc i) (omega arith)) (All-tail (λ (e : DataEdge). e.from ≡ e.to → ⊥) e rest apart)
    ∙ ap (λ (j : ℕ). halves_from g.directed v j rest) (let n : k + 1 ≡ suc k = omega arith in n) in
    let n : k + 0 ≡ k = omega arith in
    let is : line_of_edge g k ≡ as_line k e = ap (as_line k) (ap (edge_of g) (sym n) ∙ are 0 (omega arith)) in
    let here = one_half g.directed v k e (All-head (λ (e : DataEdge). e.from ≡ e.to → ⊥) e rest apart) in
    subst (λ (x : EdgeLine). map data_half (halves_of_lines g.directed (filter (touches of a) (x ∷ more)) v) ≡ halves_from g.directed v k (e ∷ rest)) (sym is)
    (elim (cases_Bool (touches of a (as_line k e))) [
      | inl on ↦
          ap (λ b. map data_half (halves_of_lines g.directed (if b then as_line k e ∷ filter (touches of a) more else filter (touches of a) more) v)) on
          ∙ map-append data_half (half_of_line g.directed v (as_line k e)) (halves_of_lines g.directed (filter (touches of a) more) v)
          ∙ ap (λ (hs : List DataHalf). hs ++ map data_half (halves_of_lines g.directed (filter (touches of a) more) v)) here
          ∙ ap (λ (hs : List DataHalf). half_at g.directed v k e ++ hs) next
      | inr off ↦
          ap (λ b. map data_half (halves_of_lines g.directed (if b then as_line k e ∷ filter (touches of a) more else filter (touches of a) more) v)) off
          ∙ next ∙ ap (λ (hs : List DataHalf). hs ++ halves_from g.directed v (suc k) rest) (ap (map data_half) (sym (untouched g.directed of a v (as_line k e) own off)) ∙ here)
    ])

-- ---- rows

out_is : (out into : Bool) → (out || into) ≡ true → leads_out (direction_of out into) ≡ out
out_is true true is = refl
out_is true false is = refl
out_is false into is = refl

into_is : (out into : Bool) → (out || into) ≡ true → leads_into (direction_of out into) ≡ into
into_is true true is = refl
into_is true false is = refl
into_is false true is = refl
into_is false false is = sym is

-- a half-edge leads out or into
abbrev pub Leads : Half → Type 0
Leads h = (h.out || h.into) ≡ true

pub row_halves : (f : Half → Side) → ((h : Half) → (f h).edge ≡ h.edge) → ((h : Half) → (f h).other ≡ h.other) → (k : ℕ) (hs : List Half) → All Leads hs → halves_along (map f hs) (links_from k hs) ≡ map data_half hs
row_halves f edge other k [] lead = refl
row_halves f edge other k (h ∷ hs) lead =
    let here : Leads h = All-head Leads h hs lead in
    let first : half_along (f h) (link_of k h) ≡ data_half h =
    ap (λ (e : ℕ). let d : DataHalf = record { edge = e; other = (f h).other.0; weight = h.weight; out = leads_out (direction_of h.out h.into); into = leads_into (direction_of h.out h.into) } in d) (ap (λ (e : EdgeNo). e.0) (edge h))
    ∙ ap (λ (o : ℕ). let d : DataHalf = record { edge = h.edge.0; other = o; weight = h.weight; out = leads_out (direction_of h.out h.into); into = leads_into (direction_of h.out h.into) } in d) (ap (λ (o : Vertex). o.0) (other h))
    ∙ ap (λ b. let d : DataHalf = record { edge = h.edge.0; other = h.other.0; weight = h.weight; out = b; into = leads_into (direction_of h.out h.into) } in d) (out_is h.out h.into here)
    ∙ ap (λ b. let d : DataHalf = record { edge = h.edge.0; other = h.other.0; weight = h.weight; out = h.out; into = b } in d) (into_is h.out h.into here) in
    ap (λ (d : DataHalf). d ∷ halves_along (map f hs) (links_from (suc k) hs)) first
    ∙ ap (λ (ds : List DataHalf). data_half h ∷ ds) (row_halves f edge other (suc k) hs (All-tail Leads h hs lead))

length-links : (k : ℕ) (hs : List Half) → length (links_from k hs) ≡ length hs
length-links k [] = refl
length-links k (h ∷ hs) = ap suc (length-links (suc k) hs)

link_near : (k : ℕ) (hs : List Half) (i : ℕ) (d : Link) → i < length (links_from k hs) → (get_or (links_from k hs) i d).near ≡ k + i
link_near k [] i d low = absurd (omega arith)
link_near k (h ∷ hs) zero d low = omega arith
link_near k (h ∷ hs) (suc i) d low = let e : suc k + i ≡ k + suc i = omega arith in link_near (suc k) hs i d (omega arith) ∙ e

link_edge : (k : ℕ) (hs : List Half) (i : ℕ) (d : Link) → i < length (links_from k hs) → (get_or (links_from k hs) i d).edge ≡ k + i
link_edge k [] i d low = absurd (omega arith)
link_edge k (h ∷ hs) zero d low = omega arith
link_edge k (h ∷ hs) (suc i) d low = let e : suc k + i ≡ k + suc i = omega arith in link_edge (suc k) hs i d (omega arith) ∙ e

pub links_row : (hs : List Half) (many : ℕ) → length hs ≡ many → IsRow (links_from 0 hs) many
links_row hs many same =
    record {
      many = length-links 0 hs ∙ same;
      near = λ i d low. let e : 0 + i ≡ i = omega arith in link_near 0 hs i d low ∙ e;
      edge = λ i d low. let e : 0 + i ≡ i = omega arith in link_edge 0 hs i d low ∙ e;
    }
