pub mod Agreement
pub mod Behind
pub mod BitLemmas
mod Examples
pub mod Growing
pub mod Marking
pub mod Passing
pub mod RowLemmas
pub mod SetLemmas
mod Tasks
pub mod Telling
