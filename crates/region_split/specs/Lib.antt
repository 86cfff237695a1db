pub mod Class
pub mod Owners
pub mod Regions
