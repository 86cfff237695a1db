mod Examples
mod ReservedLemmas
mod TableLemmas
