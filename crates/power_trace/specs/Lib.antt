pub mod LineLaws
pub mod Live
pub mod Put
pub mod Report
pub mod Run
pub mod Short
pub mod Way
pub mod Writing
