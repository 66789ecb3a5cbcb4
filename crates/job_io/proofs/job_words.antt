pub mod ClapEnd
pub mod ClapSaid
pub mod ClapLine
pub mod ClapWalk
pub mod Numbers
pub mod Spelling
