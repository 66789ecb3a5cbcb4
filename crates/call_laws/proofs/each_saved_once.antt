pub mod OnlyOnce
pub mod InCalls
pub mod WorkedEdge
