mod Examples
pub mod Joining
pub mod PlaceLaws
pub mod Telling
