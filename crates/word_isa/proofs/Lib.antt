mod DefaultLemmas
mod Examples
mod ImageExamples
mod ListingLemmas
mod NameLemmas
mod SearchLemmas
