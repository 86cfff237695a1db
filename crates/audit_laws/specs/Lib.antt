pub mod Answers
pub mod Expected
pub mod Followed
pub mod Gathered
pub mod Right
pub mod Stops
pub mod Verdict
