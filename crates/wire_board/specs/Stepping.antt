-- What steps on a board make of a cluster: in each a machine makes events, and the coordinator does.
pub use Rattle.wire_board.specs.Acts.{Act, AreMade, CoordinatorView, LinkView, Machine, Sat, Seated, Setting}
pub use Rattle.wire_board.specs.Directing.{AreLed, LeadAct}
pub use Rattle.wire_board.specs.Standings.{Member}
pub use Rattle.wire_board.specs.declared.seats.NodeSeat.{NodeSeat}
use Rattle.std.specs.Prelude.{Bool, List, [], false, length, map, slice_index_or, slice_set, suc, true, ℕ, ◌*◌, ◌<◌, ◌∷◌, ◌≡◌, ◌≢◌, ◌⊎◌}

-- the machines of members, and of seats
abbrev pub machines_of : {M : Type 0} → List (Member M) → List M
machines_of {M} members = map (λ (y : Member M). y.machine) members

abbrev pub machines_at : {M : Type 0} → List (NodeSeat M) → List M
machines_at {M} seats = map (λ (s : NodeSeat M). s.member.machine) seats

-- At a board of n machines one of them, which were xs and are ys, makes these events; or none makes any.
abbrev pub AreMadeByOne : {M : Type 0} → (Setting → ℕ → Machine → M → Type 0) → ℕ → List Act → List M → List M → Type 0
AreMadeByOne {M} represents n acts xs ys =
    ((a : ℕ) × (x : M) × (y : M) × (old : Sat (Seated M) LinkView) × (new : Sat (Seated M) LinkView) × (a < length xs) × (x ≡ slice_index_or xs a x) × (ys ≡ slice_set xs a y)
    × AreMade represents (suc n * suc n) (suc n) a acts x old y new)
    ⊎ ((acts ≡ []) × (ys ≡ xs))

-- there is an event where it says `true`, and none where it says `false`
abbrev pub HasMadeByOne : {M : Type 0} → (Setting → ℕ → Machine → M → Type 0) → ℕ → List M → List M → Bool → Type 0
HasMadeByOne represents n xs ys some = (acts : List Act) × AreMadeByOne represents n acts xs ys × (some ≡ true → acts ≢ []) × (some ≡ false → acts ≡ [])

-- In a step a machine makes the first events and the coordinator, which was c and is d, the second ones.
abbrev pub IsStep : {M : Type 0} → (Setting → ℕ → Machine → M → Type 0) → ℕ → List Act × List LeadAct → List M → CoordinatorView → List M → CoordinatorView → Type 0
IsStep {M} represents n step xs c ys d = AreMadeByOne represents n step.0 xs ys × (old : Sat (Seated M) LinkView) × (new : Sat (Seated M) LinkView) × AreLed n step.1 c old d new

-- so one step after another
abbrev pub AreSteps : {M : Type 0} → (Setting → ℕ → Machine → M → Type 0) → ℕ → List (List Act × List LeadAct) → List M → CoordinatorView → List M → CoordinatorView → Type 0
AreSteps represents n [] xs c ys d = (ys ≡ xs) × (d ≡ c)
AreSteps {M} represents n (step ∷ more) xs c ys d = (ms : List M) × (e : CoordinatorView) × IsStep represents n step xs c ms e × AreSteps represents n more ms e ys d

-- Such steps have led from these machines and this coordinator to those. In the last one there is an event where it says `true`, and none
-- where it says `false`.
abbrev pub HasStepped : {M : Type 0} → (Setting → ℕ → Machine → M → Type 0) → ℕ → List M → CoordinatorView → List M → CoordinatorView → Bool → Type 0
HasStepped {M} represents n xs c ys d some =
    (before : List (List Act × List LeadAct)) × (ms : List M) × (e : CoordinatorView) × AreSteps represents n before xs c ms e
    × (last : List Act × List LeadAct) × IsStep represents n last ms e ys d × (some ≡ true → (last.0 ≢ []) ⊎ (last.1 ≢ [])) × (some ≡ false → (last.0 ≡ []) × (last.1 ≡ []))
