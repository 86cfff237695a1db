pub mod Addresses
pub mod Engine
pub mod Memories
pub mod TransferLaws
