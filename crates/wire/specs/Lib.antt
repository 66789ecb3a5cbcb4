pub mod outboxes
pub mod wire_msgs
