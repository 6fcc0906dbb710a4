pub mod MarginLaws
pub mod SpanLaws
pub mod Runs
pub mod Searching
pub mod Handing
pub mod Sieves
pub mod Opened
