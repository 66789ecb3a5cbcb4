pub mod FullUpdates
pub mod FullStates
pub mod FullOrders
pub mod FullLinks
pub mod FullScopes
pub mod FullRows
