-- The halt of a board, as a seat finds it.
pub use Rattle.wire_board.specs.Seats.{LinkView, Machine, Sat, Seated, Setting}
use Rattle.std.specs.Prelude.{Bool, ℕ}
use Rattle.link_tables.specs.Halts.{FindsHalt}
use Rattle.wire_board.specs.Led.{HasBeenLed, IsBare, number_of}
use Rattle.wire_board.specs.Openings.{standing_parts}
use Rattle.wire_board.specs.declared.boards.About.{About}

-- In a state to which a board with so many links had been led, and where the seat stood so, the halt was up exactly where a seat had raised it.
abbrev pub FindsBoardHalt : {M : Type 0} → (Setting → ℕ → Machine → M → Type 0) → ℕ → Sat (Seated M) LinkView → Bool → Type 0
FindsBoardHalt {M} represents many me up =
    FindsHalt number_of IsBare (λ (k : About M). HasBeenLed represents k.failures.value.items k.done.value.items (standing_parts k.machines k.opening.value) k.machines) many me up
