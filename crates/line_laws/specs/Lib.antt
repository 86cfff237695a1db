pub mod CodeSizes
pub mod GiveLaws
pub mod Gives
pub mod Goals
pub mod Relation
pub mod Standing
pub mod Suits
pub mod Works
