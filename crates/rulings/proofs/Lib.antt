pub mod DecimalSeconds
pub mod WallJudged
pub mod WallSaid
pub mod SheetExamples
