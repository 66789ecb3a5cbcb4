pub mod TaskQueues
pub mod ListedLinks
pub mod Played
pub mod Waking
