-- An update needs a task, and so does a message that wakes.
use Rattle.whole_laws.specs.cluster_whole.Views.{world_of}
use Rattle.cluster_laws.specs.cluster_model.Events.{after_event}
use Rattle.whole_laws.proofs.cluster_whole.Joining.{event_leads}
use Rattle.whole_laws.proofs.cluster_whole.Wholeness.{is_exclusive}
use Rattle.whole_laws.proofs.cluster_ending.Leaving.{done_moved}
use Rattle.whole_laws.proofs.cluster_ending.laws.no_task_comes_again.Goals as goal

pub returns : goal.returns
returns c = λ st cluster event is whole left may other.
    let stays = done_moved st is (world_of cluster) (world_of (after_event st cluster event)) whole.consistent.copies (is_exclusive st is cluster whole) (event_leads st cluster event may other) left in
    (stays.left, stays.logs)
