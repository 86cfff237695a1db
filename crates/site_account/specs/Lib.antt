pub mod Account
pub mod Places
pub mod Told
