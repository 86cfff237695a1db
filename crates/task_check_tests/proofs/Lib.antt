pub mod SampleLemmas
