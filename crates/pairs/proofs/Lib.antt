pub mod PairLaws
pub mod OutcomeLaws
pub mod Written
