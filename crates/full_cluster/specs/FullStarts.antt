-- How a cluster in code begins.
use Rattle.std.specs.Prelude.{◌≡◌, ℕ, ◌<◌, ◌==◌, Bool, None, List, [], false, length, slice_index_or}
use Rattle.update_api.specs.Updates.{update_of_components}
use Rattle.seq_run.specs.States.{GraphState, start_state}
use Rattle.cluster_laws.specs.cluster_core.Settings.{Locking, Setting}
use Rattle.full_scope.specs.FullStates.{full_start}
use Rattle.full_scope.specs.FullUpdates.{FullUpdate}
use Rattle.full_laws.specs.FullParts.{FullPart}
use Rattle.full_laws.specs.FullWorlds.{FullWorld}
use Rattle.full_laws.specs.Items.{number_in}
use Rattle.full_cluster.specs.declared.admitting.FullTerms.{FullTerms}
use Rattle.full_cluster.specs.declared.divisions.Division.{Division}
use Rattle.full_cluster.specs.declared.machines.FullMachine.{FullMachine}
use Rattle.full_cluster.specs.FullClusters.{IsFullSeat}
use Rattle.full_cluster.specs.Given.{is_marked}
use Rattle.full_cluster.specs.Owners.{owner_in}

-- a division with these terms, as a setting; the setting's own program is not used
abbrev pub divided_setting : Division → FullTerms → Setting
divided_setting division terms =
    record {
      graph = division.graph.now;
      program = update_of_components;
      owner = owner_in division.owner.now;
      machines = terms.machines;
      pipeline = terms.pipeline;
      engine = Locking;
      stored = false;
      window = 0;
      start = start_state division.graph.now update_of_components;
      base = 0;
    }

-- machine a has these numbers, each vertex that it owns is a task, and nothing is under way
abbrev pub part_at_start : Setting → GraphState → ℕ → FullPart
part_at_start st s a =
    record {
      number = number_in s;
      task = λ u. st.owner u == a;
      log = [];
      serial = 0;
      flying = 0;
      flight = λ s. None;
      stand = λ s. None;
      ready = λ s. None;
      holds = λ x s. false;
      queue = λ x. [];
      out = λ q. [];
    }

-- no update was made, and so many tickets are left
abbrev pub world_at_start : Setting → FullUpdate → ℕ → FullWorld
world_at_start st p many = record { part = part_at_start st (full_start st.graph p); link = λ p q. []; next = 0; left = many }

-- these marks of n vertices are of those that machine a owns
pub record AreOwnTasks (owner : ℕ → ℕ) (a n : ℕ) (marks : List Bool) : Type 0 where
  pub count : length marks ≡ n
  pub own : (u : ℕ) → u < n → is_marked marks u ≡ (owner u == a)

-- the machines of a setting with these numbers, before the first update
abbrev pub AreSeatsAtStart : Setting → GraphState → List FullMachine → Type 0
AreSeatsAtStart st s machines = (a : ℕ) (d : FullMachine) → a < length machines → IsFullSeat st a (slice_index_or machines a d) (part_at_start st s a)
