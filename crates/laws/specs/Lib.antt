pub mod Order
pub mod Prefix
pub mod Sorted
pub mod Lists
pub mod Parts
pub mod First
