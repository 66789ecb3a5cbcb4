-- What each step tells: of the step, the seat before, the number found and the seat after.
use Rattle.std.specs.Prelude.{◌≡◌, ◌≢◌, ℕ, suc, ◌+◌, ◌≤◌, List, ◌∷◌, Option, Some, None, ⊤}
use Rattle.atomic_table.specs.Table.{Step, rest}
use Rattle.link_tables.specs.Halts.{HaltWas}
use Rattle.link_tables.specs.Seats.{Sat, sight, view, with_first, saw, word_at}

abbrev pub PlayOf : Type 0 → Type 0 → Type 1
PlayOf P Q = Step Q → Sat P Q → ℕ → Sat P Q → Type 0

-- the seat knows what it found
abbrev pub looked : {P Q : Type 0} → PlayOf P Q
looked st m r n = n ≡ (saw m.0 st.word r, m.1)

-- a link's word is 0, 1 or 2
abbrev pub looked_at_link : {P Q : Type 0} → PlayOf P Q
looked_at_link st m r n = (n ≡ (saw m.0 st.word r, m.1)) × (r ≤ 2)

-- the halt is up where a seat has raised it; where it isn't up, the seat hasn't raised it
abbrev pub looked_at_halt : {P Q K : Type 0} → (P → ℕ) → (Q → Type 0) → (K → List P → List Q → ℕ → ℕ → Type 0) → PlayOf P Q
looked_at_halt number_of Empty Led st m r n =
    (n ≡ (saw m.0 st.word r, m.1)) × (r ≡ 0 → m.0.raised ≡ 0) × (many : ℕ) × (st.word ≡ word_at (many + 1)) × HaltWas number_of Empty Led many m r

-- the seat has raised the halt once more
abbrev pub lifted : {P Q : Type 0} → PlayOf P Q
lifted st m r n = n ≡ (view m.0.parts m.0.link (suc m.0.raised) m.0.seen, m.1)

-- The link was as expected, and the seat has it now with what was on it; the first part is another. Or only what was found is told.
abbrev pub took : {P Q : Type 0} → (P → ℕ → Q → Type 0) → P → PlayOf P Q
took {P} {Q} Learns p st m r n =
    (r ≡ st.first → (i : ℕ) → st.word ≡ word_at i
    → (q : Q) × (n ≡ (view (with_first p m.0.parts) (Some (i, q)) m.0.raised (sight st.word r None ∷ m.0.seen), (i, q) ∷ m.1)) × Learns p i q)
    × (r ≢ st.first → n ≡ (saw m.0 st.word r, m.1))
    × (r ≤ 2)

-- The link goes back, and the first part is another. The seat knows what was on it as it was taken.
abbrev pub gave : {P Q : Type 0} → P → PlayOf P Q
gave p st m r n = n ≡ (view (with_first p m.0.parts) None m.0.raised (sight st.word st.first m.0.link ∷ m.0.seen), rest m.1)

-- The ticket is drawn, and the first part has it. Or only what was found is told.
abbrev pub drew : {P Q : Type 0} → P → PlayOf P Q
drew p st m r n =
    (r ≡ st.first → n ≡ (view (with_first p m.0.parts) None m.0.raised (sight st.word r None ∷ m.0.seen), m.1))
    × (r ≢ st.first → n ≡ (saw m.0 st.word r, m.1))

-- the first part is another
abbrev pub changed_alone : {P Q : Type 0} → P → PlayOf P Q
changed_alone p st m r n = n ≡ (view (with_first p m.0.parts) None m.0.raised (sight st.word r None ∷ m.0.seen), m.1)

-- ---- the same, where the part that the first one becomes is picked

abbrev pub took_by : {P Q : Type 0} → (P → ℕ → Q → Type 0) → Option P → PlayOf P Q
took_by Learns None st m r n = ⊤
took_by Learns (Some p) st m r n = took Learns p st m r n

abbrev pub gave_by : {P Q : Type 0} → Option P → PlayOf P Q
gave_by None st m r n = ⊤
gave_by (Some p) st m r n = gave p st m r n

abbrev pub drew_by : {P Q : Type 0} → Option P → PlayOf P Q
drew_by None st m r n = ⊤
drew_by (Some p) st m r n = drew p st m r n

abbrev pub changed_by : {P Q : Type 0} → Option P → PlayOf P Q
changed_by None st m r n = ⊤
changed_by (Some p) st m r n = changed_alone p st m r n
