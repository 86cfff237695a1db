pub mod PlacedSites
