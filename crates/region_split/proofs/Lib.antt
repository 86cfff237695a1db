pub mod Alike
pub mod Apart
mod Examples
pub mod Owning
mod Programs
pub mod Touching
