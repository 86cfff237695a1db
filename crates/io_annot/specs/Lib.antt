pub mod Choice
pub mod Records
