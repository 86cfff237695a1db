pub mod Due
pub mod Followed
pub mod Journals
pub mod Quiet
