pub mod SaysOnce
pub mod RowLaws
mod RangeBack
mod Unlooked
