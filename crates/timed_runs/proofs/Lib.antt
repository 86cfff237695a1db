pub mod Ends
pub mod Looks
