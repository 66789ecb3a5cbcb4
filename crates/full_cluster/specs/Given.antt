-- Numbers and tasks of a machine as lists, what is gathered of them, and what is given.
use Rattle.std.specs.List.{All, list_any}
use Rattle.std.specs.Prelude.{◌≡◌, ℕ, ◌<◌, ◌==◌, Bool, true, false, None, Option, Some, unwrap_or, List, [], ◌∷◌, if◌then◌else◌, length, slice_index, slice_index_or}
use Rattle.gl_base.specs.declared.numbers.EdgeNo.{EdgeNo}
use Rattle.gl_base.specs.declared.numbers.Vertex.{Vertex}
use Rattle.graph_core.specs.DataGraph.{size}
use Rattle.cluster_laws.specs.cluster_core.Settings.{IsSetting, Setting, is_in_scope}
use Rattle.full_laws.specs.FullMessages.{Gift}
use Rattle.full_laws.specs.FullParts.{FullPart}
use Rattle.full_laws.specs.Items.{AnEdge, AVertex, IsItem, Item, keeps, number_in}
use Rattle.full_cluster.specs.Written.{state_in}
use Rattle.full_cluster.specs.Owners.{owner_in}
use Rattle.full_cluster.specs.declared.divisions.Division.{Division}
use Rattle.full_cluster.specs.declared.giving.FullGift.{FullGift}
use Rattle.full_cluster.specs.declared.kept.KeptNumbers.{KeptNumbers}

-- the number of x when these were written one after another, where it was `here` before
abbrev pub vertex_after : List (Vertex × ℕ) → ℕ → ℕ → ℕ
vertex_after [] x here = here
vertex_after (pair ∷ pairs) x here = vertex_after pairs x (if pair.0.0 == x then pair.1 else here)

-- the same of edge e
abbrev pub edge_after : List (EdgeNo × ℕ) → ℕ → ℕ → ℕ
edge_after [] e here = here
edge_after (pair ∷ pairs) e here = edge_after pairs e (if pair.0.0 == e then pair.1 else here)

-- u is in the list
abbrev pub is_listed : List Vertex → ℕ → Bool
is_listed list u = list_any (λ x. x.0 == u) list

-- u is marked
abbrev pub is_marked : List Bool → ℕ → Bool
is_marked marks u = slice_index_or marks u false

-- the list has these numbers and no others
abbrev pub IsSeenList : List (Vertex × ℕ) → (ℕ → Option ℕ) → Type 0
IsSeenList pairs seen = (x here : ℕ) → vertex_after pairs x here ≡ unwrap_or (seen x) here

-- the lists say what the gift says
pub record IsGift (st : Setting) (lists : FullGift) (gift : Gift) : Type 0 where
  pub vertices : (x here : ℕ) → x < size st.graph → vertex_after lists.numbers.items x here ≡ unwrap_or (gift.numbers (AVertex x)) here
  pub edges : (e here : ℕ) → e < length st.graph.edges → edge_after lists.edges.items e here ≡ unwrap_or (gift.numbers (AnEdge e)) here
  pub wakes : (u : ℕ) → u < size st.graph → is_listed lists.wakes.items u ≡ gift.wakes u

-- These are the numbers that machine a keeps, and its tasks.
pub record HasLists (st : Setting) (a : ℕ) (numbers edges : List ℕ) (tasks : List Bool) (part : FullPart) : Type 0 where
  pub count : length numbers ≡ size st.graph
  pub edge_count : length edges ≡ length st.graph.edges
  pub task_count : length tasks ≡ size st.graph
  pub numbers_are : (i : Item) → IsItem st.graph i → keeps st a i ≡ true → number_in (state_in numbers edges) i ≡ part.number i
  pub tasks_are : (u : ℕ) → u < size st.graph → is_marked tasks u ≡ part.task u

-- the machine's lists are such
abbrev pub HasNumbers : Setting → ℕ → KeptNumbers → FullPart → Type 0
HasNumbers st a kept part = HasLists st a kept.numbers.items kept.edges.items kept.tasks.items part

-- these are numbers of all vertices in the scope of v, and of no others
pub record AreOfScope (st : Setting) (v : ℕ) (seen : ℕ → Option ℕ) : Type 0 where
  pub inside : (x : ℕ) → is_in_scope st v x ≡ true → (n : ℕ) × (seen x ≡ Some n)
  pub outside : (x : ℕ) → is_in_scope st v x ≡ false → seen x ≡ None

-- These are numbers of all vertices in the scope of v, and of no others. Those of vertices that machine a owns are its own.
pub record AreGatheredAt (st : Setting) (a v : ℕ) (seen : ℕ → Option ℕ) (part : FullPart) : Type 0 where
  pub scope : AreOfScope st v seen
  pub own : (x n : ℕ) → st.owner x ≡ a → seen x ≡ Some n → n ≡ part.number (AVertex x)

-- these are the setting's graph and its owners
pub record IsDividedAs (st : Setting) (division : Division) : Type 0 where
  pub setting : IsSetting st
  pub graph : st.graph ≡ division.graph.now
  pub owners : st.owner ≡ owner_in division.owner.now

-- the list has each number that was gathered
abbrev pub HasGathered : (ℕ → Option ℕ) → List ℕ → Type 0
HasGathered seen numbers = (x : ℕ) → x < length numbers → slice_index numbers x ≡ unwrap_or (seen x) (slice_index numbers x)

-- the gift's vertices and edges are of a graph with so many
pub record IsWithin (vertex_count edge_count : ℕ) (gift : FullGift) : Type 0 where
  pub numbers : All (λ pair. pair.0.0 < vertex_count) gift.numbers.items
  pub edges : All (λ pair. pair.0.0 < edge_count) gift.edges.items
  pub wakes : All (λ u. u.0 < vertex_count) gift.wakes.items
