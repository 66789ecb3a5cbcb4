-- What is said of the bytes of a store.
pub use Rattle.store.specs.store_format.Headers.{store_header, IsAllowed, HeaderFits}
pub use Rattle.store.specs.store_format.Bodies.{IsBody, HasSections, sections_place}
pub use Rattle.store.specs.store_format.Encoding.{body_bytes, RecordFits}
pub use Rattle.store.specs.store_format.Stores.{read_store, DecodesTo, stored_in, records_size, IsBeforeOrAfter}
pub use Rattle.store.specs.store_format.StoredOrders.{body_entries, with_entries, order_behind, stored_order}
pub use Rattle.store.specs.store_format.StoredNumbers.{vertex_number, edge_number, AreNumbersOf}
