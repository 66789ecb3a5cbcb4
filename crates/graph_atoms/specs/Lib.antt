pub mod atom_cut
pub mod atom_file
pub mod atom_gather
pub mod atom_place
