-- The state of a cluster.
use Rattle.std.specs.Prelude.{Bool, List, ℕ, ◌++◌}
use Rattle.gl_base.specs.declared.entries.Entry.{Entry}
use Rattle.cluster_laws.specs.cluster_core.Messages.{Message}
use Rattle.cluster_laws.specs.cluster_core.Ranges.{set_at}
use Rattle.cluster_laws.specs.cluster_model.Calls.{Call, Report}
use Rattle.cluster_laws.specs.cluster_model.Leading.{Coordinator}
use Rattle.cluster_laws.specs.cluster_model.Machines.{Machine}
use Rattle.seq_run.specs.States.{GraphState}

-- What an attempt begins with: a snapshot's number, order and numbers, and behind the order a Restart for each failure.
pub record BaseView : Type 0 where
  pub number : ℕ
  pub order : List Entry
  pub numbers : GraphState

-- Machines and coordinator, the links between them, and the tickets.
pub record Cluster : Type 0 where
  pub machine : ℕ → Machine
  -- the links between machines, from the coordinator to each machine, and from each machine to the coordinator: the first first
  pub link : ℕ → ℕ → List Message
  pub calls : ℕ → List Call
  pub reports : ℕ → List Report
  pub coordinator : Coordinator
  -- the next ticket, and how many there are
  pub next : ℕ
  pub left : ℕ
  -- what this attempt began with
  pub base : BaseView
  pub stopped : Bool

-- machine a is this
abbrev pub with_machine : Cluster → ℕ → Machine → Cluster
with_machine c a m = record c { machine = set_at c.machine a m }

-- the link from p to q has these messages
abbrev pub with_messages : Cluster → ℕ → ℕ → List Message → Cluster
with_messages c p q messages = record c { link = set_at c.link p (set_at (c.link p) q messages) }

-- the link from the coordinator to machine a has these calls
abbrev pub with_calls : Cluster → ℕ → List Call → Cluster
with_calls c a calls = record c { calls = set_at c.calls a calls }

-- the link from machine a to the coordinator has these reports
abbrev pub with_reports : Cluster → ℕ → List Report → Cluster
with_reports c a reports = record c { reports = set_at c.reports a reports }

-- the coordinator is this
abbrev pub with_coordinator : Cluster → Coordinator → Cluster
with_coordinator c coordinator = record c { coordinator = coordinator }

-- what is on the way from the coordinator to machine a, and from machine a to the coordinator
abbrev pub call_way : Cluster → ℕ → List Call
call_way c a = c.calls a ++ c.coordinator.out a

-- what is on the way from machine a to the coordinator
abbrev pub report_way : Cluster → ℕ → List Report
report_way c a = c.reports a ++ (c.machine a).out
