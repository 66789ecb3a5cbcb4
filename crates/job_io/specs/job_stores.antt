pub mod JobHeaders
pub mod NewStores
pub mod Inner
