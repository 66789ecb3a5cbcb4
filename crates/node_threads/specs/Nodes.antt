-- What threads have of a board, and what they give back.
pub use Rattle.wire_board.specs.Attempts.{AllFrom, IsSeatOf}
pub use Rattle.wire_board.specs.Going.{FailureAt}
pub use Rattle.wire_board.specs.Seats.{Leads, Machine, Setting, Sits}
pub use Rattle.wire_board.specs.declared.boards.Board.{Board}
pub use Rattle.wire_board.specs.declared.seats.CoordSeat.{CoordSeat}
pub use Rattle.wire_board.specs.declared.seats.NodeSeat.{NodeSeat}
use Rattle.std.specs.Prelude.{List, [], ⊤, ℕ, ◌*◌, ◌-◌, ◌<◌, ◌^◌, ◌∷◌, ◌≡◌}

-- The board has so many peers, and these failures are those of its job.
pub record FitsBoard {M : Type 0} (board : Board M) (failures : List FailureAt) (peers : ℕ) : Type 0 where
  pub links : peers * peers ≡ board.table.many
  pub few : peers < 2 ^ 16
  pub job : failures ≡ board.table.table.shared.key.about.failures.value.items

-- the seat is that of machine a at this board, which has so many peers
pub record IsAtBoard {M : Type 0} (represents : Setting → ℕ → Machine → M → Type 0) (board : Board M) (peers a : ℕ) (seat : NodeSeat M) : Type 0 where
  pub table : seat.place.seat.table_id ≡ board.table.table.shared.table_id
  pub is : IsSeatOf represents peers board.table.table.shared.key.about.done.value.items a seat.member seat.place.seat.me seat.before

-- The machine of the seat has had turns: the seat is at the same board, and it sits.
pub record HasServed {M : Type 0} (represents : Setting → ℕ → Machine → M → Type 0) (old new : NodeSeat M) : Type 0 where
  pub table : new.place.seat.table_id ≡ old.place.seat.table_id
  pub number : new.member.number ≡ old.member.number
  pub peers : new.member.peers ≡ old.member.peers
  pub before : new.before ≡ old.before
  pub sits : Sits represents new.member new.place.seat.me

-- the seat is the coordinator's at this board, which has n machines
pub record LeadsBoard {M : Type 0} (board : Board M) (n : ℕ) (first : CoordSeat M) : Type 0 where
  pub table : first.place.seat.table_id ≡ board.table.table.shared.table_id
  pub number : first.lead.number ≡ n
  pub leads : Leads first.lead [] first.place.seat.me

-- Each has this, by its number; the numbers go down, and the first is below n.
abbrev pub AllDown : {A : Type 0} → (ℕ → A → Type 0) → ℕ → List A → Type 0
AllDown P n [] = ⊤
AllDown P n (x ∷ xs) = P (n - 1) x × AllDown P (n - 1) xs
