pub mod Promise
pub mod Sieve
