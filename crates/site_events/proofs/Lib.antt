mod Acts
mod Attempts
mod Blocks
mod Bodies
mod Boots
mod Calls
mod Copies
mod CopyWords
mod Cuts
mod KeptWords
mod Places
mod Records
pub mod Runs
mod SiteProofs
mod States
mod Stores
mod Telling
mod Traps
