pub mod call_answers
pub mod call_budgets
pub mod lost_updates
pub mod each_saved_once
pub mod attempts
pub mod cluster_attempts
pub mod whole_calls
