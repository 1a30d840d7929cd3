pub mod TallyLaws
pub mod OneTally
pub mod RunLaws
pub mod TallyBytes
