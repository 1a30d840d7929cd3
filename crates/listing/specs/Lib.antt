pub mod Answers
pub mod Carry
pub mod Input
pub mod List
pub mod Program
pub mod Say
