mod RowsLemmas
