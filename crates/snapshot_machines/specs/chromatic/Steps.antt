-- The step of a machine that takes part in snapshots: how it begins, and when the machine's share of it is done.
pub use Rattle.cluster_laws.specs.cluster_core.Effects.{closes, steps_to}
pub use Rattle.cluster_laws.specs.cluster_model.Machines.{Machine}
use Rattle.std.specs.Prelude.{◌≡◌, Bool}
use Rattle.cluster_laws.specs.cluster_model.Working.{has_room, is_done}
use Rattle.task_sets.specs.task_sched.Tasks.{is_open}
use Rattle.snapshot_machines.specs.chromatic.Machines.{ColorSnapView, IsColorSnapPart, Setting, part_of_steps}

-- For each setting of which the machine is a part, and whatever else a machine of the law with this part has, its window having room where this
-- one's has: its share of the step is done, or isn't.
abbrev pub HasShareDone : {P : Type 0} → ColorSnapView P → Bool → Type 0
HasShareDone x done =
    (st : Setting) (m : Machine) → IsColorSnapPart st x → m.part ≡ part_of_steps x → has_room st m ≡ is_open x.core.numbers.tasks → is_done st.engine st x.core.numbers.local.me.0 m ≡ done
