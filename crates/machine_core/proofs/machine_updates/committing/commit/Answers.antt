-- What the calls leave makes up the commit.
use Rattle.std.proofs.Common.{List, refl, ap, ◌∙◌}
use Rattle.gl_base.specs.declared.numbers.Vertex.{Vertex}
use Rattle.machine_core.specs.lock_release.Released.{released_all}
use Rattle.machine_core.proofs.machine_updates.CommitLemmas.{HasDone, committed}
use Rattle.machine_core.proofs.machine_updates.LeaveLemmas.{part_owned}
use Rattle.machine_core.proofs.machine_updates.OrderLemmas.{ordered, settled, places_known}
use Rattle.machine_core.proofs.machine_updates.StayLemmas.{stays_out}
use Rattle.machine_core.proofs.machine_updates.WholeLemmas.{whole_is}
use Rattle.machine_core.proofs.machine_updates.committing.commit.Goals as goal

has_done : (c : goal.After-finish-2) → HasDone c.args.core.now (record { terms = c.args.core.now.terms; numbers = c.finish-2.new.self; by_place = c.args.core.now.by_place; pipe = c.finish.new.self; locks = c.release_all.new.locks; out = c.tell_all.new.out; spare = c.args.core.now.spare }) c.args.outcome c.args.prepared.items c.args.ticket
has_done c =
    let e = c.finish-2.ensures in
    record {
      terms = refl;
      by_place = refl;
      updated = e.updated;
      back = e.back;
      graph = record { own = e.own; rest = e.local };
      ghosts = e.ghosts;
      run = e.run;
      tasks = e.tasks_kept;
      owned = c.release_all.ensures.owned;
      holder = c.release_all.ensures.holder;
      queue = c.release_all.ensures.queue;
      finished = c.finish.ensures.finished;
      pipe = c.finish.ensures.rest;
      out = c.tell_all.ensures.told;
      words = c.tell_all.ensures.words;
    }

pub release_all-requires-clause-owned : goal.release_all-requires-clause-owned
release_all-requires-clause-owned c = part_owned c.args.core.now c.args.outcome.work.vertex.0 c.part.result.now c.requires.orderly c.part.ensures

pub returns-clause-committed : goal.returns-clause-committed
returns-clause-committed c = committed c.args.core.now _ c.args.outcome c.args.prepared.items c.args.ticket c.requires.orderly c.requires.out c.requires.reserved (has_done c)

pub returns-clause-orderly : goal.returns-clause-orderly
returns-clause-orderly c = ordered c.args.core.now _ c.args.outcome c.args.prepared.items c.args.ticket c.requires.orderly c.requires.out c.requires.reserved (has_done c)

pub returns-clause-settings : goal.returns-clause-settings
returns-clause-settings c = settled c.args.core.now _ c.args.outcome c.args.prepared.items c.args.ticket c.requires.orderly c.requires.out c.requires.reserved (has_done c) c.finish-2.ensures.many_edges

pub returns-clause-others : goal.returns-clause-others
returns-clause-others c = stays_out c.args.core.now _ c.args.outcome c.args.prepared.items c.args.ticket c.requires.orderly c.requires.out c.requires.reserved (has_done c)

pub returns-clause-places : goal.returns-clause-places
returns-clause-places c = places_known c.args.core.now _ c.args.outcome c.args.prepared.items c.args.ticket c.requires.orderly c.requires.out c.requires.reserved (has_done c) c.finish-2.ensures.many_tasks

pub returns-clause-whole : goal.returns-clause-whole
returns-clause-whole c =
    let e = c.finish-2.ensures in
    let m = c.args.core.now in
    let o = c.args.outcome in
    whole_is m _ o c.args.prepared.items _ (c.requires.orderly.flights.own o.work.scope o.work.vertex c.requires.out.flight) refl e.many_edges e.updated e.written e.local e.ghosts e.run
    c.finish.ensures.exact (c.release_all.ensures.exact ∙ ap (λ (vs : List Vertex). released_all o.work.scope vs m.locks) c.part.ensures) c.tell_all.ensures.told
