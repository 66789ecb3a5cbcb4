-- What is said of the numbers of a record.
pub use Rattle.store.specs.store_format.ReadBack.{EntryFits, NumbersFit, PairFits, edge_pair, part_edges, part_vertices, record_vertices, vertex_pair}
pub use Rattle.store.specs.store_format.StoredNumbers.{saved_or}
