pub mod Answers
pub mod Derived
pub mod Values
pub mod Orders
pub mod Compare
pub mod Raise
pub mod RangeLaws
pub mod OriginLaws
