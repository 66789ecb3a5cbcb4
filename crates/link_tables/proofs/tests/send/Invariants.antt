use Rattle.std.proofs.Common.{◌≡◌, [], Some}
use Rattle.link_tables.specs.Seats.{Rests}
use Rattle.link_tables.proofs.tests.send.Given as goal

abbrev pub ghosts-take : goal.ghosts-take
ghosts-take g a = record { part = Some a._from.now }

abbrev pub ghosts-give : goal.ghosts-give
ghosts-give g a = record { part = Some a._from.now }

abbrev pub invariant-loop : goal.invariant-loop
invariant-loop g l = record {
  table : l.place.seat.table_id ≡ l.table.table.shared.table_id;
  rests : Rests l.place.seat.me l.node [];
}
