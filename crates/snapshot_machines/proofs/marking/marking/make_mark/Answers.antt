-- What the calls leave makes up the snapshot update.
use Rattle.std.proofs.Common.{ℕ, refl, sym, subst}
use Rattle.snapshot_machines.specs.marking.Inner.Marks.{datum_here, edges_left, sides_at, with_vertex}
use Rattle.snapshot_machines.specs.marking.Marking.{HasSavedMore}
use Rattle.snapshot_machines.proofs.marking.EndLemmas.{row_of, saved_more}
use Rattle.snapshot_machines.proofs.marking.MarkedLemmas.{HasDoneMark, below_same, most_same, marked_orderly, marked_part, marked_places, marked_settings, outside_same}
use Rattle.snapshot_machines.proofs.marking.marking.make_mark.Goals as goal

pub mark_number-requires : goal.mark_number-requires
mark_number-requires c =
    let o = c.requires.orderly in
    let f = c.args.flight in
    let own = o.flights.own f.scope f.centre c.requires.can.flight in
    record {
      own = own;
      tasks = o.numbers.tasks;
      sides = o.numbers.sides f.centre.0 own;
      admitted = o.flights.admitted f.scope f.centre c.requires.can.flight;
      pending = c.requires.can.pending;
      version = c.requires.reserved.version;
    }

all_done : (c : goal.After-mark_number)
    → HasDoneMark c.args.core.now (record c.args.core.now { numbers = c.mark_number.new.numbers; pipe = c.finish.new.self; locks = c.release_all.new.locks; out = c.tell_marks.new.out }) c.args.flight.scope c.args.flight.centre c.args.prepared.items c.args.snaps.now.known
all_done c =
    let m = c.args.core.now in
    subst (λ (k : ℕ). HasDoneMark m (record m { numbers = c.mark_number.new.numbers; pipe = c.finish.new.self; locks = c.release_all.new.locks; out = c.tell_marks.new.out }) c.args.flight.scope c.args.flight.centre c.args.prepared.items k) c.known-known.ensures
    (record {
      terms = refl;
      by_place = refl;
      numbers = c.mark_number.ensures;
      owned = c.release_all.ensures.owned;
      holder = c.release_all.ensures.holder;
      queue = c.release_all.ensures.queue;
      finished = c.finish.ensures.finished;
      pipe = c.finish.ensures.rest;
      out = c.tell_marks.ensures;
    })

pub returns-clause-marked : goal.returns-clause-marked
returns-clause-marked c =
    let m = c.args.core.now in
    let w = c.args.snaps.now in
    let f = c.args.flight in
    let r = c.requires in
    let row = row_of m.numbers.local f.centre.0 r.row in
    record {
      after = marked_part m _ w c.save_marked.new.snaps f.scope f.centre c.args.prepared.items row.0 r.orderly r.can row.1 r.reserved (all_done c) c.save_marked.ensures;
      below = below_same m _ f.scope f.centre c.args.prepared.items w.known row.0 r.orderly r.can row.1 r.reserved (all_done c);
      most = most_same m _ f.scope f.centre c.args.prepared.items w.known row.0 r.orderly r.can row.1 r.reserved (all_done c);
    }

pub returns-clause-saved : goal.returns-clause-saved
returns-clause-saved c =
    let m = c.args.core.now in
    let w = c.args.snaps.now in
    let v = c.args.flight.centre in
    subst (HasSavedMore w) (sym c.save_marked.ensures) (saved_more (edges_left m.numbers w.known (sides_at m.numbers.local v.0)) w (with_vertex v (datum_here m.numbers v.0).value w) refl)

pub returns-clause-orderly : goal.returns-clause-orderly
returns-clause-orderly c =
    let m = c.args.core.now in
    let f = c.args.flight in
    let r = c.requires in
    let row = row_of m.numbers.local f.centre.0 r.row in
    marked_orderly m _ f.scope f.centre c.args.prepared.items c.args.snaps.now.known row.0 r.orderly r.can row.1 r.reserved (all_done c) r.base

pub returns-clause-places : goal.returns-clause-places
returns-clause-places c =
    let m = c.args.core.now in
    let f = c.args.flight in
    let r = c.requires in
    let row = row_of m.numbers.local f.centre.0 r.row in
    marked_places m _ f.scope f.centre c.args.prepared.items c.args.snaps.now.known row.0 r.orderly r.can row.1 r.reserved (all_done c)

pub returns-clause-settings : goal.returns-clause-settings
returns-clause-settings c =
    let m = c.args.core.now in
    let f = c.args.flight in
    let r = c.requires in
    let row = row_of m.numbers.local f.centre.0 r.row in
    marked_settings m _ f.scope f.centre c.args.prepared.items c.args.snaps.now.known row.0 r.orderly r.can row.1 r.reserved (all_done c)

pub returns-clause-outside : goal.returns-clause-outside
returns-clause-outside c =
    let m = c.args.core.now in
    let f = c.args.flight in
    let r = c.requires in
    let row = row_of m.numbers.local f.centre.0 r.row in
    outside_same m _ f.scope f.centre c.args.prepared.items c.args.snaps.now.known row.0 r.orderly r.can row.1 r.reserved (all_done c)

pub returns-clause-plans : goal.returns-clause-plans
returns-clause-plans c = c.mark_number.ensures.plans
