mod Examples
pub mod FeedLemmas
pub mod MakeLemmas
pub mod SeriesLemmas
