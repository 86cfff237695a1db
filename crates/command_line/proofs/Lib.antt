mod Examples
pub mod Agrees
pub mod FormLaws
pub mod Matched
pub mod ParsedLaws
pub mod Refused
pub mod Rows
pub mod Shapes
pub mod Walked
