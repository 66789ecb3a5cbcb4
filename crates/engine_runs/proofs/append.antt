pub mod Numbering
pub mod Images
pub mod Lacking
pub mod Putting
pub mod Appending
pub mod Answering
