pub mod Book
pub mod Tests
pub mod Ruling
pub mod WallSheet
