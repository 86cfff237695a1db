pub mod ArrayWrites
pub mod Choices
pub mod Constants
mod Examples
pub mod Fitting
pub mod Inside
pub mod Keeping
mod Programs
pub mod RunLaws
pub mod Runs
pub mod Shapes
pub mod StateShapes
pub mod Steps
pub mod Stores
pub mod TameTasks
pub mod Traps
pub mod UnderWay
pub mod Values
