pub mod Lengths
pub mod Subframes
pub mod Names
