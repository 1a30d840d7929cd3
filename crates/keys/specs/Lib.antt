pub mod Encode
pub mod Decode
pub mod Inner
pub mod Judge
