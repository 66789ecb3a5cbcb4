pub mod local_parts
pub mod machine_numbers
