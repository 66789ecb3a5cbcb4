-- What the calls leave makes up the receipt.
use Rattle.std.proofs.Common.{refl, ap, ◌∙◌}
use Rattle.machine_core.specs.machine_parts.Parts.{LocalView, part_at}
use Rattle.machine_core.proofs.machine_updates.LeaveLemmas.{part_owned}
use Rattle.machine_core.proofs.machine_updates.ReceiveLemmas.{HasHeard, received_is, order_heard, settings_heard, places_heard}
use Rattle.machine_core.proofs.machine_updates.receiving.receive_done.Goals as goal

has_heard : (c : goal.After-release_all) → HasHeard c.args.core.now (record c.args.core.now { numbers = c.learn.new.self; locks = c.release_all.new.locks }) c.args.done.now
has_heard c =
    let e = c.learn.ensures in
    record {
      learned = e.learned;
      local = e.local;
      ghosts = e.ghosts;
      tasks = e.tasks;
      tasks_kept = e.tasks_kept;
      owned = c.release_all.ensures.owned;
      holder = c.release_all.ensures.holder;
      queue = c.release_all.ensures.queue;
      rest = refl;
    }

pub release_all-requires-clause-owned : goal.release_all-requires-clause-owned
release_all-requires-clause-owned c =
    let v = c.args.done.now.centre.0 in
    part_owned c.args.core.now v c.part-part.result.now c.requires.orderly (c.part-part.ensures ∙ ap (λ (l : LocalView). part_at l v) c.learn.ensures.local)

pub returns-clause-received : goal.returns-clause-received
returns-clause-received c = received_is c.args.core.now _ c.args.done.now c.requires.orderly c.requires.can (has_heard c)

pub returns-clause-orderly : goal.returns-clause-orderly
returns-clause-orderly c = order_heard c.args.core.now _ c.args.done.now c.requires.orderly c.requires.can (has_heard c)

pub returns-clause-settings : goal.returns-clause-settings
returns-clause-settings c = settings_heard c.args.core.now _ c.args.done.now c.requires.orderly c.requires.can (has_heard c) c.learn.ensures.many_edges

pub returns-clause-places : goal.returns-clause-places
returns-clause-places c = places_heard c.args.core.now _ c.args.done.now c.requires.orderly c.requires.can (has_heard c) c.learn.ensures.many_tasks
