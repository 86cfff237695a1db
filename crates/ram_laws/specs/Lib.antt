pub mod Notes
pub mod Ram
