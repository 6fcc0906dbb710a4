pub mod Items
pub mod Written
pub mod Says
pub mod Plain
