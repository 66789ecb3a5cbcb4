-- Recovery: all machines go back to given numbers, which are those of a snapshot.
use Rattle.std.specs.Prelude.{None, [], false, nat_lt, true, ℕ, ◌&&◌, ◌==◌}
use Rattle.cluster_laws.specs.cluster_core.Effects.{nothing_saved}
use Rattle.cluster_laws.specs.cluster_core.Parts.{Part}
use Rattle.cluster_laws.specs.cluster_core.Settings.{Setting}
use Rattle.cluster_laws.specs.cluster_core.Worlds.{World}
use Rattle.graph_core.specs.DataGraph.{size}
use Rattle.seq_run.specs.States.{GraphState}

-- machine a has the numbers, each of its vertices is a task, and nothing is under way; serial numbers go on
abbrev pub begun_again : Setting → GraphState → ℕ → ℕ → Part → Part
begun_again st numbers k a part =
    record {
      datum = λ v. record { value = numbers.vertex v; version = 0; mark = k };
      edge = numbers.edge;
      task = λ u. st.owner u == a && nat_lt u (size st.graph);
      log = [];
      serial = part.serial;
      flying = 0;
      flight = λ s. None;
      stand = λ s. None;
      ready = λ s. false;
      holder = λ x s. None;
      queue = λ x. [];
      pending = λ u. false;
      known = k;
      saved = nothing_saved;
      sent = k;
      colour = 0;
      closed = true;
      out = λ q. [];
    }

-- the cluster after a recovery to snapshot k, which has these numbers; tickets go on
abbrev pub recovered : Setting → GraphState → ℕ → World → World
recovered st numbers k w =
    record {
      part = λ a. begun_again st numbers k a (w.part a);
      link = λ p q. [];
      next = w.next;
      left = w.left;
      begun = k;
      acknowledged = k;
      orders = λ a. [];
      reports = λ a. [];
      collected = λ a. None;
    }

-- the run that goes on from there
abbrev pub going_on : Setting → GraphState → ℕ → Setting
going_on st numbers k = record st { start = numbers; base = k }
