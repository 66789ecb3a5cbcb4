pub mod ghost_cache
pub mod scope_pipe
pub mod vertex_locks
