pub mod FirstMemory
pub mod FirstStores
pub mod FirstWords
pub mod Shown
