pub mod Stretches
pub mod Outside
