pub mod Cutting
pub mod Divided
pub mod Division
pub mod Fair
pub mod Once
pub mod Spaced
pub mod Spelling
