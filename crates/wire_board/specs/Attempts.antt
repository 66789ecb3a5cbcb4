-- A board on which the cluster of a trace is, and the seats at it.
pub use Rattle.cluster_step.specs.clusters.Clusters.{StandsForSaving}
pub use Rattle.wire_board.specs.Closings.{AreAllGathered, IsLaterInAttempt, Lead, Leading, LinkView, Machine, Member, Node, Parts, Seated, Setting, TraceView, at_rest}
pub use Rattle.wire_board.specs.Going.{FailureAt}
use Rattle.std.specs.Prelude.{Bool, List, [], false, length, map, slice_index_or, suc, ⊤, ℕ, ◌*◌, ◌+◌, ◌<◌, ◌∷◌, ◌≡◌}
use Rattle.link_tables.specs.Seats.{Sat}
use Rattle.wire_board.specs.Openings.{AreOpening}
use Rattle.wire_board.specs.Seats.{Sits}

-- no machine has failed
abbrev pub AreAwake : List Bool → Type 0
AreAwake failed = (a : ℕ) → slice_index_or failed a false ≡ false

-- The board was made of the cluster of this trace as it went out: this is what it knows, and how many links and which top it has.
pub record IsBoardOf {M : Type 0} (represents : Setting → ℕ → Machine → M → Type 0) (v : TraceView M) (failed : List Bool) (n : ℕ) (failures : List FailureAt) (done : List ℕ) (opening : Parts M) (many top : ℕ) : Type 0 where
  pub machines_are : n ≡ length v.now.machines.items
  pub few : n < 4095
  pub failures_are : failures ≡ v.failures
  pub done_are : done ≡ v.done
  pub opening_is : opening ≡ v.now
  pub stands : StandsForSaving represents v.now
  pub links : suc n * suc n ≡ many
  pub tickets : v.now.next + v.now.left ≡ top
  pub flags : failed ≡ v.now.failed.items
  pub first : List LinkView
  pub opens : AreOpening n v.now first

-- the machines with their numbers, of which the first is k
abbrev pub numbered_members : {M : Type 0} → ℕ → ℕ → List M → List (Member M)
numbered_members peers k [] = []
numbered_members peers k (x ∷ xs) = record { number = k; peers = peers; machine = x } ∷ numbered_members peers (suc k) xs

-- these have the numbers from k on, and so many peers
abbrev pub AreNumbered : {M : Type 0} → ℕ → ℕ → List (Member M) → Type 0
AreNumbered peers k [] = ⊤
AreNumbered peers k (y ∷ ys) = (y.number ≡ k) × (y.peers ≡ peers) × AreNumbered peers (suc k) ys

-- the machines as parts of a place, where they owe nothing
abbrev pub resting : {M : Type 0} → List (Member M) → List (Seated M)
resting members = map (λ (y : Member _). Node (at_rest y)) members

-- each has this, by its number, of which the first is k
abbrev pub AllFrom : {A : Type 0} → (ℕ → A → Type 0) → ℕ → List A → Type 0
AllFrom P k [] = ⊤
AllFrom P k (x ∷ xs) = P k x × AllFrom P (suc k) xs

-- The seat of machine a, at a board with so many peers: machines had completed so many updates as the attempt began.
pub record IsSeatOf {M : Type 0} (represents : Setting → ℕ → Machine → M → Type 0) (peers : ℕ) (done : List ℕ) (a : ℕ) (member : Member M) (me : Sat (Seated M) LinkView) (before : ℕ) : Type 0 where
  pub number : member.number ≡ a
  pub peers_are : member.peers ≡ peers
  pub inside : suc a < peers
  pub before_is : slice_index_or done a 0 ≡ before
  pub sits : Sits represents member me
