pub mod AnswerLemmas
pub mod FileLemmas
pub mod ReaderLemmas
pub mod SettledLemmas
