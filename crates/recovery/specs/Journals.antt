-- What is said of journals and stores.
pub use Rattle.store.specs.snap_journal.Journals.{JournalState, snapshots_in}
pub use Rattle.store.specs.snap_journal.Last.{last_body, last_body_or, IsLastSnapshot, LastErrorCause}
pub use Rattle.store.specs.snap_journal.Formats.{stored_in, records_size, body_entries, with_entries, order_behind, stored_order, vertex_number, edge_number, IsBeforeOrAfter}
pub use Rattle.store.specs.store_format.Encoding.{body_bytes, RecordFits}
pub use Rattle.store.specs.store_format.StoredNumbers.{saved_or}
pub use Rattle.store.specs.store_format.ReadBack.{record_vertices, record_edges, NumbersFit}
