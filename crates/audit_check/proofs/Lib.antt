mod AllowedRows
mod AttemptCode
pub mod AttemptWalks
mod CopyCode
mod CopyLaws
mod FitLaws
pub mod FittingLaws
pub mod LeafLaws
mod RangeLaws
pub mod SameLaws
mod StatementCode
pub mod TrackLaws
pub mod WalkLaws
mod WalkLemmas
