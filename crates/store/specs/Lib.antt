pub mod Store
pub mod Lent
pub mod Refusal
pub mod Open
pub mod Ingest
pub mod Forget
pub mod Change
