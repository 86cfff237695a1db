pub mod Counts
pub mod Ends
pub mod Steps
pub mod Summary
