-- What the outcome says is what its work says that has the new numbers.
use Rattle.std.proofs.Common.{refl}
use Rattle.partition.proofs.machine_numbers.keeping.Numbers.finish.Goals as goal

pub finish_work-links-requires-clause-can : goal.finish_work-links-requires-clause-can
finish_work-links-requires-clause-can c =
    let can = c.requires.can in
    record {
      own = can.own;
      row = can.row;
      links = can.links;
      edges = can.edges;
      sides = can.sides;
      admitted = can.admitted;
      task = can.task;
      not_pending = can.not_pending;
      outside = can.outside;
      version = can.version;
      room = can.room;
    }

pub returns-clause-updated : goal.returns-clause-updated
returns-clause-updated c = let has = c.finish_work-links.ensures.updated in record { datum = has.datum; edge = has.edge; task = has.task; log = has.log }

pub returns-clause-written : goal.returns-clause-written
returns-clause-written c = let has = c.finish_work-links.ensures.written in record { kept = has.kept; rows = has.rows; task = has.task }
