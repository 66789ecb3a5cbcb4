-- The graph that `make` writes: a circle of vertices, each with edges to those that stand so many offsets further on.
use Rattle.std.specs.Prelude.{◌≡◌, ◌⊎◌, ℕ, zero, suc, ◌+◌, ◌-◌, ◌*◌, ◌/◌, ◌%◌, ◌^◌, ◌<◌, ◌≤◌, Bool, true, false, List, [], ◌∷◌, ◌++◌, decimal, Option, None, Some, IfSome}
use Rattle.std.specs.Int.{IsGcd}
use Rattle.gl_base.specs.declared.limits.TheConstants.{MAX_VERTICES, MAX_EDGES}
use Rattle.graph_core.specs.declared.graph_lists.EdgeIn.{EdgeIn}
use Rattle.gl_base.specs.declared.jobs.MakePlan.{MakePlan}

-- half of the other vertices, rounded down: as many offsets there are
abbrev pub offset_count : ℕ → ℕ
offset_count vertices = (vertices - 1) / 2

-- each number of the plan is in its range
pub record IsPlanInRange (plan : MakePlan) : Type 0 where
  pub number : plan.number < 2 ^ 32
  pub vertices : plan.vertices ≤ MAX_VERTICES
  pub edges : plan.edges ≤ MAX_EDGES
  pub offsets : plan.edges ≤ plan.vertices * offset_count plan.vertices
  pub weight : IfSome plan.weight (λ most. most < 2 ^ 32)

-- a number that may be the stride: from 1 and from 0.618 times `half` on, and without a common divisor with it
pub record IsStep (half t : ℕ) : Type 0 where
  pub some : 1 ≤ t
  pub large : half * 618 / 1000 ≤ t
  pub apart : IsGcd t half 1

-- the stride: the least of these
pub record IsStride (half t : ℕ) : Type 0 where
  pub step : IsStep half t
  pub least : (u : ℕ) → IsStep half u → t ≤ u

-- how much further on the other end of an edge stands, for the k-th edge of a vertex
abbrev pub neighbour_offset : ℕ → ℕ → ℕ → ℕ → ℕ
neighbour_offset number half stride k = 1 + (number + k * stride) % half

-- the ends of edge i
abbrev pub edge_from : MakePlan → ℕ → ℕ
edge_from plan i = i % plan.vertices

abbrev pub edge_to : MakePlan → ℕ → ℕ → ℕ
edge_to plan stride i = (edge_from plan i + neighbour_offset plan.number (offset_count plan.vertices) stride (i / plan.vertices)) % plan.vertices

-- two edges have the same ends, either way round
abbrev pub HaveSameEnds : MakePlan → ℕ → ℕ → ℕ → Type 0
HaveSameEnds plan stride i j =
    ((edge_from plan i ≡ edge_from plan j) × (edge_to plan stride i ≡ edge_to plan stride j))
    ⊎ ((edge_from plan i ≡ edge_to plan stride j) × (edge_to plan stride i ≡ edge_from plan j))

-- the weight of edge i, up to `most`
abbrev pub edge_weight : ℕ → ℕ → ℕ → ℕ
edge_weight number most i = (number + i * 2654435761) % (most + 1)

-- the lines from number i on, so many of them
abbrev pub lines_from : (ℕ → List ℕ) → ℕ → ℕ → List ℕ
lines_from line i zero = []
lines_from line i (suc count) = line i ++ lines_from line (i + 1) count

-- the line of vertex j, which has the identifier j + 1
abbrev pub vertex_line : ℕ → List ℕ
vertex_line j = decimal (j + 1) ++ 10 ∷ []

-- a blank and the weight of edge i, where there are weights
abbrev pub weight_field : ℕ → Option ℕ → ℕ → List ℕ
weight_field number None i = []
weight_field number (Some most) i = 32 ∷ decimal (edge_weight number most i)

-- the line of edge i: the identifiers of its ends, and its weight
abbrev pub edge_line : MakePlan → ℕ → ℕ → List ℕ
edge_line plan stride i =
    decimal (edge_from plan i + 1) ++ 32 ∷ decimal (edge_to plan stride i + 1) ++ weight_field plan.number plan.weight i ++ 10 ∷ []

-- the identifiers from 1 to n
abbrev pub made_ids : ℕ → List ℕ
made_ids zero = []
made_ids (suc n) = made_ids n ++ suc n ∷ []

-- the weight of edge i as a reader takes it: 1 where edges have none
abbrev pub weight_read : Bool → ℕ → Option ℕ → ℕ → ℕ
weight_read false number weight i = 1
weight_read true number None i = 1
weight_read true number (Some most) i = edge_weight number most i

-- the text has weights, where they are asked for
abbrev pub HasWeights : Bool → Option ℕ → Type 0
HasWeights false weight = Unit {0}
HasWeights true None = ⊥
HasWeights true (Some most) = Unit {0}

-- edge i by the identifiers of its ends
abbrev pub made_edge : Bool → MakePlan → ℕ → ℕ → EdgeIn
made_edge weighted plan stride i =
    record { from = edge_from plan i + 1; to = edge_to plan stride i + 1; weight = weight_read weighted plan.number plan.weight i }

-- the first edges, so many of them
abbrev pub made_list : Bool → MakePlan → ℕ → ℕ → List EdgeIn
made_list weighted plan stride zero = []
made_list weighted plan stride (suc count) = made_list weighted plan stride count ++ made_edge weighted plan stride count ∷ []

-- the vertex text
abbrev pub made_vertices : MakePlan → List ℕ
made_vertices plan = lines_from vertex_line 0 plan.vertices

-- the edge text
abbrev pub made_edges : MakePlan → ℕ → List ℕ
made_edges plan stride = lines_from (edge_line plan stride) 0 plan.edges
