pub mod selection
pub mod prog_colours
pub mod prog_cores
pub mod prog_labels
pub mod prog_paths
