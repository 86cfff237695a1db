pub mod Acts
pub mod Asked
pub mod Boots
pub mod Lasting
pub mod Runs
