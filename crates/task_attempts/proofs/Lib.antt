mod AlongLaws
mod AlongWords
pub mod AttemptLaws
mod BlockRows
mod CallRows
mod CopyRows
mod CostRows
mod CutLaws
mod JournalRow
mod PlainLaws
mod Programs
mod RetainedLaws
mod Sense
mod SoundRows
