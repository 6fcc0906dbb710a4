pub mod DigitLaws
pub mod MarkLaws
pub mod AnswerLaws
pub mod FractionLaws
