pub mod Sums
pub mod Streams
pub mod Skipping
pub mod Examples
