mod Acts
mod Beginning
mod Bodies
pub mod Boots
mod Committing
mod Examples
pub mod Lists
mod Open
mod Opening
mod Placing
mod Positions
pub mod Puts
mod Regions
mod Restoring
mod Saving
pub mod Solid
mod Steps
pub mod Writing
