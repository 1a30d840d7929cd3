pub mod TakingPath
