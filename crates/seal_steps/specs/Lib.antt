pub mod Soon
pub mod Places
