-- One short row.
use Rattle.power_trace_tests.proofs.RowsLemmas.{one_row_short}
use Rattle.power_trace_tests.proofs.bed.one_row.Goals as goal

pub returns : goal.returns
returns c = one_row_short c.power_row.result _ c.power_row.ensures c.in_ok-rows.ensures
