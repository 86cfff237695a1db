pub mod Parts
pub mod Rising
pub mod Shown
pub mod Trees
