pub mod Depend
pub mod Flow
pub mod Laws
pub mod Marks
pub mod RangeLaws
pub mod Rows
pub mod Sets
pub mod Told
