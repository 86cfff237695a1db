pub mod Document
pub mod Peripherals
pub mod Tests
pub mod WorldFile
