-- What the threads of a board have led a cluster to, once their parts are together again.
pub use Rattle.cluster_step.specs.trace.Later.{IsLaterInAttempt}
pub use Rattle.cluster_step.specs.trace.Traces.{TraceView, IsTraceNow}
pub use Rattle.wire_board.specs.Led.{Lead, Leading, LinkView, Node, Parts, Seated}
pub use Rattle.wire_board.specs.Standings.{Machine, Member, Setting, at_rest}
use Rattle.std.specs.Prelude.{List, false, length, map, slice_index_or, suc, ℕ, ◌<◌, ◌∷◌, ◌≡◌}
use mathlib.Core.Option.{some}
use lib.ListN.{get_elem?}
use Rattle.cluster_step.specs.clusters.Inner.Writing.{HaveLinks}
use Rattle.wire_board.specs.Led.{link_between, link_no}

-- the parts of a place in which the machines, at rest, stand behind the coordinator
abbrev pub gathered : {M : Type 0} → Leading → List (Member M) → List (Seated M)
gathered {M} lead members = Lead lead ∷ map (λ (y : Member M). Node (at_rest y)) members

-- These are all parts of a board with n machines, in the order of their numbers.
pub record AreAllGathered {M : Type 0} (n : ℕ) (lead : Leading) (members : List (Member M)) : Type 0 where
  pub lead_number : lead.number ≡ n
  pub many : length members ≡ n
  pub numbers : (a : ℕ) (y : Member M) → get_elem? members a ≡ some y → y.number ≡ a

-- The cluster has these machines and this coordinator, the links stand in this list, and nobody has failed.
pub record ArePutTogether {M : Type 0} (n : ℕ) (lead : Leading) (members : List (Member M)) (links : List LinkView) (next left : ℕ) (q : Parts M) : Type 0 where
  pub machines : q.machines.items ≡ map (λ (y : Member M). y.machine) members
  pub coordinator : q.coordinator ≡ lead.coordinator
  pub flags : length q.failed.items ≡ n
  pub awake : (a : ℕ) → slice_index_or q.failed.items a false ≡ false
  pub have : HaveLinks q.links (suc n)
  pub lines : (i j : ℕ) → i < suc n → j < suc n → get_elem? links (link_no (suc n) i j) ≡ some (link_between q.links i j)
  pub next_is : q.next ≡ next
  pub left_is : q.left ≡ left
  pub runs : q.stopped ≡ false
