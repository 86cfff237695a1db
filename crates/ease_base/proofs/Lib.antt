mod Examples
pub mod MemCabinetLemmas
pub mod NumberLemmas
pub mod ReadingLemmas
pub mod SinkLemmas
