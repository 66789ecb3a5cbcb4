-- What the coordinator's seat makes in a turn: events, one after another.
pub use Rattle.wire_board.specs.Acts.{CoordinatorView, HasLed, IsLed, LeadAct, LinkView, MessageView, Sat, Seated}
use Rattle.std.specs.Prelude.{Bool, List, [], false, suc, true, ⊤, ℕ, ◌∷◌, ◌≡◌, ◌≢◌}
use Rattle.coordinator.specs.coord_core.Calls.{StaysCoordinator}
use Rattle.coordinator.specs.machine_api.Promises.{message_view}
use Rattle.wire_board.specs.Acts.{Begins, HearsReport, PutsStep, PutsWave, TellsCall}
use Rattle.wire_board.specs.Led.{link_no}
use Rattle.wire_board.specs.Sights.{HadQueue, Sees}

-- what the coordinator of so many machines hears was first on the link
abbrev pub WasFirst : {M : Type 0} → ℕ → LeadAct → Sat (Seated M) LinkView → Sat (Seated M) LinkView → Type 0
WasFirst n (TellsCall a message) old new = ⊤
WasFirst n (HearsReport a message) old new =
    (queue : LinkView) × (rest : List MessageView) × (queue.messages ≡ message_view message ∷ rest) × HadQueue old new (link_no (suc n) a n) queue
WasFirst n Begins old new = ⊤
WasFirst n PutsStep old new = ⊤
WasFirst n PutsWave old new = ⊤

-- it was c, its seat makes this event, and it is d
abbrev pub IsLedAt : {M : Type 0} → ℕ → LeadAct → CoordinatorView → Sat (Seated M) LinkView → CoordinatorView → Sat (Seated M) LinkView → Type 0
IsLedAt n act c old d new = IsLed act c d × WasFirst n act old new × Sees old new

-- it makes an event
abbrev pub HasLedAt : {M : Type 0} → ℕ → CoordinatorView → Sat (Seated M) LinkView → CoordinatorView → Sat (Seated M) LinkView → Type 0
HasLedAt n c old d new = (act : LeadAct) × IsLedAt n act c old d new

-- it makes these, one after another, and nothing else
abbrev pub AreLed : {M : Type 0} → ℕ → List LeadAct → CoordinatorView → Sat (Seated M) LinkView → CoordinatorView → Sat (Seated M) LinkView → Type 0
AreLed n [] c old d new = StaysCoordinator c d × Sees old new
AreLed {M} n (act ∷ more) c old d new =
    (from : CoordinatorView) × (here : Sat (Seated M) LinkView) × (to : CoordinatorView) × (there : Sat (Seated M) LinkView)
    × StaysCoordinator c from × Sees old here × IsLedAt n act from here to there × AreLed n more to there d new

-- These are the events that it makes. There is one where an answer says so, and none where it says that.
abbrev pub HasDirected : {M : Type 0} → ℕ → CoordinatorView → Sat (Seated M) LinkView → CoordinatorView → Sat (Seated M) LinkView → Type 0 → Type 0 → Type 0
HasDirected n c old d new IfSome IfNone = (acts : List LeadAct) × AreLed n acts c old d new × (IfSome → acts ≢ []) × (IfNone → acts ≡ [])

-- where it says `true`, and where it says `false`
abbrev pub HasDirectedIf : {M : Type 0} → ℕ → CoordinatorView → Sat (Seated M) LinkView → CoordinatorView → Sat (Seated M) LinkView → Bool → Type 0
HasDirectedIf n c old d new some = HasDirected n c old d new (some ≡ true) (some ≡ false)
