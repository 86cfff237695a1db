mod CountLemmas
mod NameLemmas
mod RowLemmas
mod RunLemmas
mod SumLemmas
