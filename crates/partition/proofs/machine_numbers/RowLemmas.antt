-- What an update reads and leaves at a machine is what it reads and leaves on the undivided graph.
use Rattle.std.proofs.Common.{◌≡◌, ℕ, zero, suc, ◌+◌, ◌<◌, ◌==◌, ◌&&◌, ◌||◌, ◌++◌, Bool, true, false, if◌then◌else◌, List, [], ◌∷◌, length, get_or, slice_index, map, refl, sym, ap, ◌∙◌, subst, arith, All, inl, inr}
use Rattle.std.proofs.lemmas.Bool.{cases_eq, eq-eqb, ne_eqb}
use Rattle.std.proofs.lemmas.List.Elements.{All-head, All-tail}
use Rattle.graph_core.specs.Halves.{DataHalf, halves_of}
use Rattle.seq_run.specs.States.{GraphState, near_of, new_number, with_marks, after_update, is_woken, wakes}
use Rattle.update_api.specs.Near.{Near}
use Rattle.update_api.specs.Links.{near_at, nears_at}
use Rattle.update_api.specs.Marks.{AreMarked}
use Rattle.update_api.specs.Updates.{Update}
use Rattle.update_api.specs.declared.links.Link.{Link}
use Rattle.update_api.specs.declared.woken.Woken.{Woken}
use Rattle.update_api.specs.declared.woken.Woken.TheVariants.{Nobody, Ahead, Around}
use Rattle.local_graph.specs.declared.sides.Side.{Side}
use Rattle.local_graph.specs.Works.{IsRow}
use Rattle.partition.specs.local_parts.Parts.{half_along, halves_along}
use Rattle.partition.specs.declared.machine_numbers.keeping.Numbers.{Numbers}
use Rattle.partition.specs.machine_numbers.Views.{sides_at, numbers_along, near_along, written, value_here, edge_here}
use Rattle.partition.specs.machine_numbers.Steps.{wakes_of, wakes_there}
use Rattle.partition.specs.machine_numbers.Steps.{MadeUpdate}
use Rattle.partition.specs.machine_numbers.Settings.{Setting, IsOutcomeOf, lent_along}

-- the numbers as they stand at a machine
abbrev pub stands_at : Numbers → GraphState
stands_at n = record { vertex = value_here n; edge = edge_here n }

-- ---- what is read

there : (f : Side → ℕ) (sides : List Side) (behind : List ℕ) (i : ℕ) (d : Side) → i < length sides → get_or (map f sides ++ behind) i 0 ≡ f (get_or sides i d)
there f [] behind i d inside = absurd (omega arith)
there f (s ∷ sides) behind zero d inside = refl
there f (s ∷ sides) behind (suc i) d inside = there f sides behind i d (omega arith)

there_alone : (f : Side → ℕ) (sides : List Side) (i : ℕ) (d : Side) → i < length sides → get_or (map f sides) i 0 ≡ f (get_or sides i d)
there_alone f [] i d inside = absurd (omega arith)
there_alone f (s ∷ sides) zero d inside = refl
there_alone f (s ∷ sides) (suc i) d inside = there_alone f sides i d (omega arith)

-- the links from place k on lead to their own places, where the numbers of these sides stand
record AreLent (s : GraphState) (values edges : List ℕ) (k : ℕ) (sides : List Side) (links : List Link) : Type 0 where
  many : length links ≡ length sides
  near : (i : ℕ) (d : Link) → i < length links → (get_or links i d).near ≡ k + i
  edge : (i : ℕ) (d : Link) → i < length links → (get_or links i d).edge ≡ k + i
  vertex_there : (i : ℕ) (d : Side) → i < length sides → slice_index values (k + i) ≡ s.vertex (get_or sides i d).other.0
  edge_there : (i : ℕ) (d : Side) → i < length sides → slice_index edges (k + i) ≡ s.edge (get_or sides i d).edge.0

lent_tail : (s : GraphState) (values edges : List ℕ) (k : ℕ) (side : Side) (sides : List Side) (link : Link) (links : List Link) → AreLent s values edges k (side ∷ sides) (link ∷ links)
    → AreLent s values edges (suc k) sides links
lent_tail s values edges k side sides link links are =
    record {
      many = let m = are.many in omega arith;
      near = λ i d inside. are.near (suc i) d (omega arith) ∙ (omega arith);
      edge = λ i d inside. are.edge (suc i) d (omega arith) ∙ (omega arith);
      vertex_there = λ i d inside. let at : suc k + i ≡ k + suc i = omega arith in ap (slice_index values) at ∙ are.vertex_there (suc i) d (omega arith);
      edge_there = λ i d inside. let at : suc k + i ≡ k + suc i = omega arith in ap (slice_index edges) at ∙ are.edge_there (suc i) d (omega arith);
    }

nears_from : (s : GraphState) (values edges : List ℕ) (k : ℕ) (sides : List Side) (links : List Link) → AreLent s values edges k sides links
    → map (near_at values edges) links ≡ map (near_of s) (halves_along sides links)
nears_from s values edges k [] [] are = refl
nears_from s values edges k [] (link ∷ links) are = absurd (let m = are.many in omega arith)
nears_from s values edges k (side ∷ sides) [] are = absurd (let m = are.many in omega arith)
nears_from s values edges k (side ∷ sides) (link ∷ links) are =
    let number : slice_index values link.near ≡ s.vertex side.other.0 = ap (slice_index values) (are.near 0 link (omega arith)) ∙ are.vertex_there 0 side (omega arith) in
    let mark : slice_index edges link.edge ≡ s.edge side.edge.0 = ap (slice_index edges) (are.edge 0 link (omega arith)) ∙ are.edge_there 0 side (omega arith) in
    let here : near_at values edges link ≡ near_of s (half_along side link) = λ i. record (near_at values edges link) { number = number i; mark = mark i } in
    let rest = nears_from s values edges (suc k) sides links (lent_tail s values edges k side sides link links are) in
    ap (λ (x : Near). x ∷ map (near_at values edges) links) here ∙ ap (λ (xs : List Near). near_of s (half_along side link) ∷ xs) rest

nears_joined : (s : GraphState) (sides : List Side) (links : List Link) (own : ℕ) → IsRow links (length sides)
    → nears_at (near_along s.vertex sides ++ own ∷ []) (numbers_along s.edge sides) links ≡ map (near_of s) (halves_along sides links)
nears_joined s sides links own row =
    nears_from s (near_along s.vertex sides ++ own ∷ []) (numbers_along s.edge sides) 0 sides links
    (record {
      many = row.many;
      near = λ i d inside. row.near i d inside ∙ (omega arith);
      edge = λ i d inside. row.edge i d inside ∙ (omega arith);
      vertex_there = λ i d inside. let at : 0 + i ≡ i = omega arith in ap (slice_index (near_along s.vertex sides ++ own ∷ [])) at ∙ there (λ (t : Side). s.vertex t.other.0) sides (own ∷ []) i d inside;
      edge_there = λ i d inside. let at : 0 + i ≡ i = omega arith in ap (slice_index (numbers_along s.edge sides)) at ∙ there_alone (λ (t : Side). s.edge t.edge.0) sides i d inside;
    })

-- ---- what is written

marks_from : (m : Link → ℕ) (new : List ℕ) (k : ℕ) (links : List Link) (xs : List ℕ) → length xs ≡ length links → ((i : ℕ) → i < length xs → slice_index new (k + i) ≡ get_or xs i 0)
    → ((i : ℕ) (d : Link) → i < length links → (get_or links i d).edge ≡ k + i) → All (λ (link : Link). slice_index new link.edge ≡ m link) links → xs ≡ map m links
marks_from m new k [] [] same there_is edge all = refl
marks_from m new k [] (x ∷ xs) same there_is edge all = absurd (omega arith)
marks_from m new k (link ∷ links) [] same there_is edge all = absurd (omega arith)
marks_from m new k (link ∷ links) (x ∷ xs) same there_is edge all =
    let here : x ≡ m link =
    sym (there_is 0 (omega arith)) ∙ sym (ap (slice_index new) (edge 0 link (omega arith))) ∙ All-head (λ (l : Link). slice_index new l.edge ≡ m l) link links all in
    let rest = marks_from m new (suc k) links xs (omega arith)
    (λ i inside. let at : suc k + i ≡ k + suc i = omega arith in ap (slice_index new) at ∙ there_is (suc i) (omega arith))
    (λ i d inside. edge (suc i) d (omega arith) ∙ (omega arith)) (All-tail (λ (l : Link). slice_index new l.edge ≡ m l) link links all) in
    ap (λ y. y ∷ xs) here ∙ ap (λ ys. m link ∷ ys) rest

map_two : {X Y Z : Type 0} (f : X → Y) (g : Y → Z) (xs : List X) → map (λ x. g (f x)) xs ≡ map g (map f xs)
map_two f g [] = refl
map_two f g (x ∷ xs) = ap (λ ys. g (f x) ∷ ys) (map_two f g xs)

marks_joined : (mark : Near → ℕ) (s : GraphState) (sides : List Side) (links : List Link) (own : ℕ) (edges : List ℕ) → IsRow links (length sides)
    → AreMarked mark (near_along s.vertex sides ++ own ∷ []) (numbers_along s.edge sides) links edges → edges ≡ map mark (map (near_of s) (halves_along sides links))
marks_joined mark s sides links own edges row are =
    let values = near_along s.vertex sides ++ own ∷ [] in
    let old = numbers_along s.edge sides in
    let as_many : length edges ≡ length links = are.as_many ∙ length_along s.edge sides ∙ sym row.many in
    marks_from (λ (l : Link). mark (near_at values old l)) edges 0 links edges as_many (λ i inside. let at : 0 + i ≡ i = omega arith in ap (slice_index edges) at)
    (λ i d inside. row.edge i d inside ∙ (omega arith)) are.marks
    ∙ map_two (near_at values old) mark links ∙ ap (map mark) (nears_joined s sides links own row)
  where
    length_along : (f : ℕ → ℕ) (sides : List Side) → length (numbers_along f sides) ≡ length sides
    length_along f [] = refl
    length_along f (t ∷ sides) = ap suc (length_along f sides)

written_is : (p : Update) (s : GraphState) (own : ℕ) (sides : List Side) (links : List Link) (e : ℕ)
    → written sides (map (p.mark own) (map (near_of s) (halves_along sides links))) s.edge e ≡ with_marks p s own (halves_along sides links) e
written_is p s own [] links e = refl
written_is p s own (side ∷ sides) [] e = refl
written_is p s own (side ∷ sides) (link ∷ links) e = ap (λ y. if e == side.edge.0 then p.mark own (near_of s (half_along side link)) else y) (written_is p s own sides links e)

-- ---- whom it wakes

and_none : (b : Bool) → (b && false) ≡ false
and_none true = refl
and_none false = refl

nobody : (to : ℕ) (sides : List Side) (links : List Link) (u : ℕ) → wakes_of to Nobody sides links u ≡ false
nobody to [] links u = refl
nobody to (s ∷ sides) [] u = refl
nobody to (s ∷ sides) (link ∷ links) u = ap (λ b. (b && s.other.0 == u) || wakes_of to Nobody sides links u) (and_none (s.owner.0 == to)) ∙ nobody to sides links u

at_it : (x w more : Bool) → (((x && w) && true) || (x && more)) ≡ (x && ((w && true) || more))
at_it true w more = refl
at_it false w more = refl

elsewhere : (x y w more : Bool) → (((x && w) && false) || (y && more)) ≡ (y && ((w && false) || more))
elsewhere true y true more = refl
elsewhere true y false more = refl
elsewhere false y true more = refl
elsewhere false y false more = refl

-- one more side, whose end is woken where w
woken_step : (owner : ℕ → ℕ) (to u : ℕ) (s : Side) (w more : Bool) → s.owner.0 ≡ owner s.other.0
    → (((s.owner.0 == to && w) && s.other.0 == u) || (owner u == to && more)) ≡ (owner u == to && ((w && s.other.0 == u) || more))
woken_step owner to u s w more is = elim (cases_eq s.other.0 u) [
  | inl same ↦
      ap (λ b. ((s.owner.0 == to && w) && b) || (owner u == to && more)) (eq-eqb s.other.0 u same)
      ∙ ap (λ (k : ℕ). ((k == to && w) && true) || (owner u == to && more)) (is ∙ ap owner same)
      ∙ at_it (owner u == to) w more ∙ sym (ap (λ b. owner u == to && ((w && b) || more)) (eq-eqb s.other.0 u same))
  | inr other ↦
      ap (λ b. ((s.owner.0 == to && w) && b) || (owner u == to && more)) (ne_eqb s.other.0 u other)
      ∙ elsewhere (s.owner.0 == to) (owner u == to) w more ∙ sym (ap (λ b. owner u == to && ((w && b) || more)) (ne_eqb s.other.0 u other))
]

wakes_by : (owner : ℕ → ℕ) (to : ℕ) (woken : Woken) (sides : List Side) (links : List Link) (u : ℕ) → All (λ (s : Side). s.owner.0 ≡ owner s.other.0) sides
    → wakes_of to woken sides links u ≡ (owner u == to && is_woken woken (halves_along sides links) u)
wakes_by owner to Nobody sides links u all = nobody to sides links u ∙ sym (and_none (owner u == to))
wakes_by owner to Ahead [] links u all = sym (and_none (owner u == to))
wakes_by owner to Ahead (s ∷ sides) [] u all = sym (and_none (owner u == to))
wakes_by owner to Ahead (s ∷ sides) (link ∷ links) u all =
    let P : Side → Type 0 = λ s. s.owner.0 ≡ owner s.other.0 in
    ap (λ b. (wakes_there to Ahead s link && s.other.0 == u) || b) (wakes_by owner to Ahead sides links u (All-tail P s sides all))
    ∙ woken_step owner to u s (half_along s link).out (is_woken Ahead (halves_along sides links) u) (All-head P s sides all)
wakes_by owner to Around [] links u all = sym (and_none (owner u == to))
wakes_by owner to Around (s ∷ sides) [] u all = sym (and_none (owner u == to))
wakes_by owner to Around (s ∷ sides) (link ∷ links) u all =
    let P : Side → Type 0 = λ s. s.owner.0 ≡ owner s.other.0 in
    ap (λ b. (wakes_there to Around s link && s.other.0 == u) || b) (wakes_by owner to Around sides links u (All-tail P s sides all))
    ∙ woken_step owner to u s true (is_woken Around (halves_along sides links) u) (All-head P s sides all)

-- ---- for a setting whose program made the update

module _ (st : Setting) (n : Numbers) (o : MadeUpdate) (is : IsOutcomeOf st n o) where
  pub value_made : o.value ≡ new_number st.graph st.program (stands_at n) o.vertex.0
  value_made =
      is.value
      ∙ ap (λ (xs : List ℕ). st.program.number (value_here n o.vertex.0) (nears_at (lent_along n o.vertex.0) xs o.links)) is.numbers
      ∙ ap (st.program.number (value_here n o.vertex.0)) (nears_joined (stands_at n) (sides_at n.local o.vertex.0) o.links (value_here n o.vertex.0) is.row.row)
      ∙ ap (λ (hs : List DataHalf). st.program.number (value_here n o.vertex.0) (map (near_of (stands_at n)) hs)) is.row.halves

  marked : AreMarked (st.program.mark o.value) (lent_along n o.vertex.0) (numbers_along (edge_here n) (sides_at n.local o.vertex.0)) o.links o.edges
  marked = subst (λ (xs : List ℕ). AreMarked (st.program.mark o.value) (lent_along n o.vertex.0) xs o.links o.edges) is.numbers is.marks

  pub edges_are : o.edges ≡ map (st.program.mark o.value) (map (near_of (stands_at n)) (halves_along (sides_at n.local o.vertex.0) o.links))
  edges_are = marks_joined (st.program.mark o.value) (stands_at n) (sides_at n.local o.vertex.0) o.links (value_here n o.vertex.0) o.edges is.row.row marked

  pub edges_made : (e : ℕ) → written (sides_at n.local o.vertex.0) o.edges (edge_here n) e ≡ (after_update st.graph st.program (stands_at n) o.vertex.0).edge e
  edges_made e =
      ap (λ (xs : List ℕ). written (sides_at n.local o.vertex.0) xs (edge_here n) e) edges_are
      ∙ written_is st.program (stands_at n) o.value (sides_at n.local o.vertex.0) o.links e
      ∙ ap (λ (hs : List DataHalf). with_marks st.program (stands_at n) o.value hs e) is.row.halves
      ∙ ap (λ (k : ℕ). with_marks st.program (stands_at n) k (halves_of st.graph o.vertex.0) e) value_made

  pub wakes_made : (to u : ℕ) → wakes_of to o.woken (sides_at n.local o.vertex.0) o.links u ≡ (st.owner u == to && wakes st.graph st.program (stands_at n) o.vertex.0 u)
  wakes_made to u =
      wakes_by st.owner to o.woken (sides_at n.local o.vertex.0) o.links u is.owners
      ∙ ap (λ (hs : List DataHalf). st.owner u == to && is_woken o.woken hs u) is.row.halves
      ∙ ap (λ (w : Woken). st.owner u == to && is_woken w (halves_of st.graph o.vertex.0) u) is.woken
      ∙ ap (λ (k : ℕ). st.owner u == to && is_woken (st.program.woken (value_here n o.vertex.0) k) (halves_of st.graph o.vertex.0) u) value_made
