pub mod Structs
pub mod Sizes
pub mod Promises
