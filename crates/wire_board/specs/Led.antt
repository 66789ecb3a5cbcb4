-- The rule of the board: parts and links stand for a cluster of the law, to which events have led.
pub use Rattle.cluster_step.specs.clusters.Links.{LinkView, link_between}
pub use Rattle.wire_board.specs.Going.{Cluster, FailureAt, GoesOn, IsSavingClusterOf, IsSnapSetting, Machine, Parts, Setting}
pub use Rattle.wire_board.specs.Standings.{Standing, StandsOwing}
pub use Rattle.wire_board.specs.declared.standings.Leading.{Leading}
pub use Rattle.wire_board.specs.declared.standings.Seated.{Seated}
pub use Rattle.wire_board.specs.declared.standings.Seated.TheVariants.{Lead, Node}
use Rattle.std.specs.Prelude.{List, false, length, slice_index_or, suc, ℕ, ◌*◌, ◌+◌, ◌<◌, ◌∷◌, ◌≡◌}
use mathlib.Core.Option.{some}
use lib.ListN.{get_elem?}
use Rattle.coordinator.specs.coord_core.Calls.{MayReport}
use Rattle.coordinator.specs.machine_api.Promises.{MessageView, message_view}
use Rattle.wire_board.specs.Hearing.{CanHear, MayHearFirst}
use Rattle.wire.specs.declared.wire_msgs.messages.Message.{Message}

-- the number of a part: a machine's own, and of the coordinator how many machines there are
abbrev pub number_of : {M : Type 0} → Seated M → ℕ
number_of (Node x) = x.member.number
number_of (Lead x) = x.number

-- which link leads from one of so many peers to another
abbrev pub link_no : ℕ → ℕ → ℕ → ℕ
link_no peers p q = p * peers + q

-- nothing is on the link
abbrev pub IsBare : LinkView → Type 0
IsBare link = length link.messages ≡ 0

-- the part is machine a of these parts of a cluster; and it is their coordinator
abbrev pub IsMachineAt : {M : Type 0} → ℕ → Parts (Standing M) → ℕ → Seated M → Type 0
IsMachineAt n p a (Node x) = (x.member.number ≡ a) × (x.member.peers ≡ suc n) × (x ≡ slice_index_or p.machines.items a x)
IsMachineAt n p a (Lead x) = ⊥

abbrev pub IsLeadOf : {M : Type 0} → ℕ → Parts (Standing M) → Seated M → Type 0
IsLeadOf n p (Node x) = ⊥
IsLeadOf n p (Lead x) = (x.number ≡ n) × (p.coordinator ≡ x.coordinator)

-- Seats and links hold these parts of a cluster, of which no machine has failed.
pub record HoldParts {M : Type 0} (n : ℕ) (p : Parts (Standing M)) (parts : List (Seated M)) (links : List LinkView) (next left : ℕ) : Type 0 where
  pub many : length p.machines.items ≡ n
  pub count : length parts ≡ suc n
  pub machines : (a : ℕ) (x : Seated M) → a < n → get_elem? parts a ≡ some x → IsMachineAt n p a x
  pub lead : (x : Seated M) → get_elem? parts n ≡ some x → IsLeadOf n p x
  pub lines : (i j : ℕ) → i < suc n → j < suc n → get_elem? links (link_no (suc n) i j) ≡ some (link_between p.links i j)
  pub next_is : p.next ≡ next
  pub left_is : p.left ≡ left
  pub awake : (a : ℕ) → slice_index_or p.failed.items a false ≡ false
  pub runs : p.stopped ≡ false

-- The parts stand for a cluster, and each cluster for which they stood as the board was made has gone on to one.
pub record HasBeenLed {M : Type 0} (represents : Setting → ℕ → Machine → M → Type 0) (failures : List FailureAt) (done : List ℕ) (opening : Parts (Standing M)) (n : ℕ) (parts : List (Seated M)) (links : List LinkView) (next left : ℕ) : Type 0 where
  pub now : Parts (Standing M)
  pub held : HoldParts n now parts links next left
  pub goes : GoesOn (StandsOwing represents) failures done opening now
  pub setting : Setting
  pub cluster : Cluster
  pub snaps : IsSnapSetting setting
  pub stood : IsSavingClusterOf (StandsOwing represents) setting now cluster

-- A machine that takes the link from another one may hear what is on it; and where it is the coordinator's, the first call. The coordinator
-- may take the first report of a machine.
abbrev pub Learns : {M : Type 0} → (Setting → ℕ → Machine → M → Type 0) → Seated M → ℕ → LinkView → Type 0
Learns represents (Node x) i link =
    ((p : ℕ) → suc p < x.member.peers → i ≡ link_no x.member.peers p x.member.number → CanHear represents x.member.machine p x.member.number link.messages)
    × ((lead : ℕ) → suc lead ≡ x.member.peers → i ≡ link_no x.member.peers lead x.member.number → MayHearFirst represents x.member.machine link.messages)
Learns represents (Lead x) i link =
    (a : ℕ) (message : Message) (rest : List MessageView) → a < x.number → i ≡ link_no (suc x.number) a x.number → link.messages ≡ message_view message ∷ rest
    → MayReport x.coordinator a (message_view message)
