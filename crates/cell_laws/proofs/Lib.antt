pub mod Commits
pub mod Puts
pub mod Seals
pub mod Writes
