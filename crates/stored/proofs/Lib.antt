pub mod FormCases
pub mod Reading
pub mod Openings
pub mod Flagged
