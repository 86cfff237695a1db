pub mod EngineLemmas
mod Examples
pub mod StoreLemmas
