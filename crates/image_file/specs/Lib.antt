pub mod Answers
pub mod Bytes
pub mod Faults
pub mod Fields
pub mod Layout
pub mod ManyLaws
