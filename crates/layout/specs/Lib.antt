pub mod Buffers
pub mod Layout
pub mod Marks
