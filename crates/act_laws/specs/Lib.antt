pub mod Blocks
pub mod CodeLaws
pub mod Codes
pub mod Templates
pub mod Values
pub mod Words
