pub mod Attempts
pub mod Bare
pub mod Booting
pub mod Claims
pub mod Cutting
pub mod Following
pub mod Stubs
