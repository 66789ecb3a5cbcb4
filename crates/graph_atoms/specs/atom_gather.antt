pub mod IndexForm
pub mod Files
pub mod Owners
pub mod Gathered
pub mod Cuts
pub mod Inner
