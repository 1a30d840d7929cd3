pub mod Calls
pub mod Checks
pub mod Outcomes
pub mod Resend
pub mod Unseen
