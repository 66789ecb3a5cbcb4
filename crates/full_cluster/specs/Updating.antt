-- A machine makes the update of a scope.
use Rattle.std.specs.Bool.{⊤}
use Rattle.std.specs.Global.{Vec}
use Rattle.std.specs.List.{All}
use Rattle.std.specs.Prelude.{◌≡◌, ℕ, ◌<◌, ◌==◌, ◌&&◌, not, Bool, true, false, Option, None, Some, List, length, slice_index_or}
use Rattle.gl_base.specs.declared.numbers.Vertex.{Vertex}
use Rattle.gl_base.specs.declared.scopes.ScopeId.{ScopeId}
use Rattle.gl_base.specs.scope_lists.Scopes.{set_for}
use Rattle.graph_core.specs.DataGraph.{size}
use Rattle.cluster_laws.specs.cluster_core.Scopes.{takes_part}
use Rattle.cluster_laws.specs.cluster_core.Settings.{Setting, is_in_scope}
use Rattle.full_laws.specs.FullEffects.{released_full}
use Rattle.full_laws.specs.FullMessages.{Gift}
use Rattle.full_laws.specs.FullParts.{FullPart}
use Rattle.full_cluster.specs.declared.giving.FullGift.{FullGift}
use Rattle.full_cluster.specs.declared.machines.FullMachine.{FullMachine}
use Rattle.full_cluster.specs.declared.queues.FullQueue.{FullQueue}
use Rattle.full_cluster.specs.FullQueues.{HasRoomFor}
use Rattle.full_cluster.specs.Given.{AreGatheredAt, IsGift, IsWithin}
use Rattle.full_cluster.specs.ScopeMaps.{value_of}

-- ---- what others are given

-- the place has this gift, if it is to have one
abbrev pub HasGift : Setting → Bool → Gift → Option FullGift → Type 0
HasGift st true given (Some gift) = IsGift st gift given × IsWithin (size st.graph) (length st.graph.edges) gift
HasGift st true given None = ⊥
HasGift st false given (Some gift) = ⊥
HasGift st false given None = ⊤

-- machine q is in the scope of v, and another one than a
abbrev pub is_other : Setting → ℕ → ℕ → ℕ → Bool
is_other st v a q = takes_part st v q && not (q == a)

-- each other machine in the scope of v has its gift in its place, and no place has another gift
abbrev pub AreGiftsTo : Setting → ℕ → ℕ → (ℕ → Gift) → List (Option FullGift) → Type 0
AreGiftsTo st v a given gifts = (q : ℕ) (d : Option FullGift) → q < length gifts → HasGift st (is_other st v a q) (given q) (slice_index_or gifts q d)

-- there is room in the queue of each machine that has a gift
abbrev pub HaveRoomFor : List FullQueue → List (Option FullGift) → Type 0
HaveRoomFor queues gifts = (q : ℕ) (gift : FullGift) (d : Option FullGift) → q < length gifts → slice_index_or gifts q d ≡ Some gift → HasRoomFor queues q

-- ---- what the update asks for

-- the centre of the scope, if it is in flight and ready, is a vertex of a graph with so many, and so are those whose numbers were
-- gathered for it
abbrev pub IsUpdatable : FullMachine → ScopeId → ℕ → Type 0
IsUpdatable m s many =
    (v : Vertex) (seen : Vec (Vertex × ℕ)) → value_of m.flights.entries.items s ≡ Some v → value_of m.ready.entries.items s ≡ Some seen → (v.0 < many) × All (λ pair. pair.0.0 < many) seen.items

-- The machine owns v, these are the numbers of its scope, and the scope holds no locks here but those of its vertices.
pub record IsFullyReadyAt (st : Setting) (a : ℕ) (s : ScopeId) (part : FullPart) (v : ℕ) (seen : ℕ → Option ℕ) : Type 0 where
  pub owned : st.owner v ≡ a
  pub gathered : AreGatheredAt st a v seen part
  pub locks : (x : ℕ) → part.holds x s ≡ true → is_in_scope st v x ≡ true

-- the same of the scope, if it is in flight and ready
abbrev pub IsReadyIfAny : Setting → ℕ → ScopeId → FullPart → Type 0
IsReadyIfAny st a s part = (v : ℕ) (seen : ℕ → Option ℕ) → part.flight s ≡ Some v → part.ready s ≡ Some seen → IsFullyReadyAt st a s part v seen

-- the scope isn't ready, and holds no lock
abbrev pub let_go_full : ScopeId → FullPart → FullPart
let_go_full s part = record part { ready = set_for part.ready s None; holds = released_full s part.holds }
