pub mod Least
pub mod KeyOrder
pub mod Examples
pub mod Bytes
pub mod Agree
pub mod WrittenKeys
