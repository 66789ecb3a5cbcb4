pub mod chromatic
pub mod any_machine
pub mod Beginning
pub mod Inner
