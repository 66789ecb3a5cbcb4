-- A call in which a machine fails once: what was made behind the snapshot is lost, and made again behind a restart.
use Rattle.std.specs.Prelude.{[], false, if◌then◌else◌, ℕ, ◌==◌, ◌∷◌}
use Rattle.gl_base.specs.declared.entries.Entry.{Entry}
use Rattle.gl_base.specs.declared.entries.Entry.TheVariants.{Go}
use Rattle.gl_base.specs.declared.jobs.FailureAt.{FailureAt}
use Rattle.call_laws.specs.attempts.EngineCalls.{EngineCall}
use Rattle.cluster_laws.specs.cluster_runs.Attempts.{Attempt, Shared}
use Rattle.graph_core.specs.DataGraph.{DataGraph}
use Rattle.update_api.specs.Updates.{update_of_components}

-- two vertices without an edge
abbrev pub two_alone : DataGraph
two_alone = record { ids = 1 ∷ 2 ∷ []; edges = []; directed = false }

-- machine 0 fails when it has made two updates
abbrev pub fails_at_two : FailureAt
fails_at_two = record { machine = record { 0 = 0 }; after = 2 }

-- machine 0 owns both
abbrev pub alone : Shared
alone = record { graph = two_alone; program = update_of_components; owner = λ v. 0; failures = fails_at_two ∷ [] }

-- its update of a vertex
abbrev pub made_at : ℕ → ℕ → Entry
made_at v ticket = Go (record { 0 = 0 }) (record { 0 = v }) ticket

-- it updates both vertices, and the snapshot has the second alone
abbrev pub first_try : Attempt
first_try = record { made = made_at 1 0 ∷ made_at 0 1 ∷ []; kept = (λ v. if v == 1 then 1 else 0) ∷ []; struck = 1 }

-- it updates both again, and the snapshot has both
abbrev pub second_try : Attempt
second_try = record { made = made_at 0 2 ∷ made_at 1 3 ∷ []; kept = (λ v. 1) ∷ []; struck = 0 }

-- a first call
abbrev pub failing_call : EngineCall
failing_call = record { base = []; resumed = false; failed = first_try ∷ []; last = second_try }
