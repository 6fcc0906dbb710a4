pub mod Digits
pub mod Answers
pub mod Texts
pub mod Truths
pub mod Integers
pub mod Decimals
pub mod BitRanges
pub mod Durations
