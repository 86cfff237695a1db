pub mod Enter
pub mod Scopes
