pub mod Between
pub mod Copied
pub mod Does
pub mod Moves
pub mod Seen
