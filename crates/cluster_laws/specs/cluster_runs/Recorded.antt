-- The records among a run's actions, and the cuts that they hold.
use Rattle.std.specs.Prelude.{ℕ, List, [], ◌∷◌, ⊤}
use Rattle.gl_base.specs.declared.entries.Entry.{Entry}
use Rattle.gl_base.specs.declared.jobs.FailureAt.{FailureAt}
use Rattle.cluster_laws.specs.cluster_core.Actions.{Action, Admit, Grant, Send, Deliver, Update, Mark, Begin, Hear, SendSection, Collect, Record, after}
use Rattle.cluster_laws.specs.cluster_core.Settings.{Setting}
use Rattle.cluster_laws.specs.cluster_core.Worlds.{World}
use Rattle.cluster_laws.specs.cluster_cuts.Goings.{HoldCut}
use Rattle.cluster_laws.specs.cluster_runs.Attempts.{Shared}

-- at a record the first count is its cut's, and the others are those of the later records
abbrev pub AtRecord : Action → List (ℕ → ℕ) → ((ℕ → ℕ) → Type 0) → (List (ℕ → ℕ) → Type 0) → Type 0
AtRecord Record [] holds rest = ⊥
AtRecord Record (count ∷ counts) holds rest = holds count × rest counts
AtRecord (Admit a v) counts holds rest = rest counts
AtRecord (Grant a x) counts holds rest = rest counts
AtRecord (Send p q) counts holds rest = rest counts
AtRecord (Deliver p q) counts holds rest = rest counts
AtRecord (Update s) counts holds rest = rest counts
AtRecord (Mark s) counts holds rest = rest counts
AtRecord Begin counts holds rest = rest counts
AtRecord (Hear a) counts holds rest = rest counts
AtRecord (SendSection a) counts holds rest = rest counts
AtRecord (Collect a) counts holds rest = rest counts

-- there is one count for each record among the actions, and where a record is made the sections that have come hold the numbers of
-- its cut of the order
abbrev pub AreRecorded : Setting → World → List Action → List (ℕ → ℕ) → List Entry → Type 0
AreRecorded st w [] [] order = ⊤
AreRecorded st w [] (count ∷ counts) order = ⊥
AreRecorded st w (action ∷ actions) counts order =
    AtRecord action counts (λ count. HoldCut st w count order) (λ rest. AreRecorded st (after st w action) actions rest order)

-- what the attempts of a call share, where machines of the cluster own the vertices
abbrev pub shared_of : Setting → List FailureAt → Shared
shared_of st failures = record { graph = st.graph; program = st.program; owner = st.owner; failures = failures }
