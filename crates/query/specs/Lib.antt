pub mod Reading
pub mod Listing
pub mod Count
pub mod Lookup
pub mod Interest
pub mod Walk
pub mod EarlyFinish
