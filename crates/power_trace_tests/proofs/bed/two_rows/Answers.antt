-- Two short rows.
use Rattle.power_trace_tests.proofs.RowsLemmas.{two_rows_short}
use Rattle.power_trace_tests.proofs.bed.two_rows.Goals as goal

pub returns : goal.returns
returns c = two_rows_short c.power_row.result c.power_row-2.result _ c.power_row.ensures c.power_row-2.ensures c.in_ok-rows.ensures
