mod Along
mod Early
mod Fronts
mod GoesOn
mod InBoot
pub mod InTime
mod OverRows
mod Quiet
mod Seen
mod Standing
mod Tasks
