pub mod Outboxes
