pub mod Committed
pub mod Keeps
