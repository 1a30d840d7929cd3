pub mod Hex
pub mod Decimal
pub mod Fields
pub mod PathField
pub mod PathText
pub mod Value
pub mod EntryLine
