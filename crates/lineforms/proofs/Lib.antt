pub mod Modesty
pub mod Arms
