pub mod Orders
pub mod Journals
pub mod GoodStores
pub mod Recovered
pub mod restarts
pub mod opened_store
pub mod record_form
pub mod records
