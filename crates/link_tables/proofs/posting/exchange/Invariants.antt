use Rattle.std.proofs.Common.{◌≡◌, []}
use Rattle.link_tables.specs.Seats.{Rests}
use Rattle.link_tables.proofs.posting.exchange.Given as goal

abbrev pub invariant-loop : goal.invariant-loop
invariant-loop g l = record {
  table : l.place.seat.table_id ≡ l.table.table.shared.table_id;
  rests : Rests l.place.seat.me l.node [];
}
