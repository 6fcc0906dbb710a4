pub mod Decimals
pub mod Lines
pub mod Listing
pub mod Cards
