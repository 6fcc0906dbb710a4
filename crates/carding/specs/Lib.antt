pub mod Layout
pub mod Search
pub mod Answer
pub mod Writing
