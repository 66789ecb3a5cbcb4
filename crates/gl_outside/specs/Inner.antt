-- What the clauses of private functions and the laws' proofs cite. Who reads the public clauses need not read it.
pub mod OpenFiles
pub mod DiskBytes
pub mod Disks
pub mod DiskImages
pub mod Laws
