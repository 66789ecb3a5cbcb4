pub mod snap_journal
pub mod store_format
