pub mod Follows
pub mod Records
pub mod SiteLaws
pub mod Standing
pub mod Telling
