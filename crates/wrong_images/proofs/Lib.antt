mod Halting
mod Idling
mod LateSeal
mod OtherTask
mod Restarting
mod Worlds
