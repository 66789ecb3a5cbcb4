-- The halt of a table, as a seat finds it.
use Rattle.std.specs.Prelude.{◌≡◌, ◌≢◌, ℕ, ◌<◌, Bool, true, false, List}
use mathlib.Core.Option.{some}
use lib.ListN.{get_elem?}
use Rattle.atomic_table.specs.Table.{State}
use Rattle.link_tables.specs.Rule.{HoldsTable}
use Rattle.link_tables.specs.Seats.{Sat}
use Rattle.link_tables.specs.declared.views.View.{View}

-- In this state of the table, where the seat stood so, the word of the halt had this number. It isn't 0 exactly where a seat had raised the halt.
pub record HaltWas {P Q K : Type 0} (number_of : P → ℕ) (Empty : Q → Type 0) (Led : K → List P → List Q → ℕ → ℕ → Type 0) (many : ℕ) (me : Sat P Q) (number : ℕ) : Type 0 where
  pub about : K
  pub top : ℕ
  pub peers : ℕ
  pub state : State Q (View P Q)
  pub holds : HoldsTable number_of Empty (Led about) many top peers state
  pub seat : ℕ
  pub here : get_elem? state.views seat ≡ some me.0
  pub raised : number ≢ 0 → (k : ℕ) × (v : View P Q) × (get_elem? state.views k ≡ some v) × (0 < v.raised)
  pub down : number ≡ 0 → (k : ℕ) (v : View P Q) → get_elem? state.views k ≡ some v → v.raised ≡ 0

-- the seat finds the halt up, or down
abbrev pub FindsHalt : {P Q K : Type 0} → (P → ℕ) → (Q → Type 0) → (K → List P → List Q → ℕ → ℕ → Type 0) → ℕ → Sat P Q → Bool → Type 0
FindsHalt number_of Empty Led many me up = (number : ℕ) × (up ≡ true → number ≢ 0) × (up ≡ false → number ≡ 0) × HaltWas number_of Empty Led many me number
