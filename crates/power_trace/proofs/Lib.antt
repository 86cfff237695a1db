mod Examples
mod NameLemmas
mod PlaceLemmas
mod ReportLemmas
mod RowLemmas
mod RunExamples
mod RunLemmas
mod ShortLemmas
