pub mod Entries
pub mod Emit
pub mod Made
