pub mod Clear
pub mod PlaceLemmas
pub mod Places
pub mod Reserved
pub mod Table
