pub mod Going
pub mod LaterLemmas
pub mod AtOnceGoing
pub mod Calling
pub mod Passing
pub mod Settled
