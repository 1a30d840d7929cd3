pub mod Overwritten
pub mod Arrived
pub mod OneTree
pub mod RefusalLaws
