pub mod Calling
pub mod CellsStay
pub mod Noting
pub mod Relating
pub mod Stays
