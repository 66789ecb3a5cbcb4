pub mod DisksUsed
