pub mod coord_core
pub mod quiet_waves
pub mod machine_api
pub mod snap_update
