pub mod Near
pub mod LeastFree
pub mod Supported
pub mod Updates
pub mod Directions
pub mod Links
pub mod Marks
pub mod Scopes
