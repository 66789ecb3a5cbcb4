pub mod color_tasks
pub mod task_sched
pub mod vertex_queue
