pub mod Form
pub mod Line
pub mod Parsed
pub mod Words
