pub mod Apart
pub mod Suiting
