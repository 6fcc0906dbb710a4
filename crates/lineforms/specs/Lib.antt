pub mod Forms
pub mod LineFields
pub mod Said
