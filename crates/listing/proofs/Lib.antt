pub mod AnswerLaws
pub mod CarryLaws
pub mod InputLaws
pub mod LedLaws
pub mod ListLaws
pub mod ReadLaws
pub mod SayLaws
