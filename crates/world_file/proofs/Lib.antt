pub mod AnswerLemmas
pub mod ApartLemmas
pub mod DocumentLemmas
pub mod FeedLemmas
pub mod LimitLemmas
pub mod SeenLemmas
