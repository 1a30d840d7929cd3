pub mod Truth
pub mod Order
pub mod Prefix
pub mod Sorted
pub mod Lists
pub mod First
