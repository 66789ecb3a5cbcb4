pub mod Texts
pub mod Lists
pub mod Results
pub mod FaultNames
pub mod scope_lists
pub mod vertex_places
