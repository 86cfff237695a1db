pub mod Gathering
pub mod Tasks
pub mod Told
