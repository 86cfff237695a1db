pub mod GatherLaws
pub mod TaskLaws
