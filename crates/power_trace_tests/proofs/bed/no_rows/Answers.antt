-- No row at all.
use Rattle.power_trace_tests.proofs.RowsLemmas.{no_rows_short}
use Rattle.power_trace_tests.proofs.bed.no_rows.Goals as goal

pub returns : goal.returns
returns c = no_rows_short _ c.new.ensures
