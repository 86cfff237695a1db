pub mod Answer
pub mod Files
pub mod Inputs
pub mod Lines
pub mod Output
pub mod Settled
pub mod Status
