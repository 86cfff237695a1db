use Rattle.std.proofs.Common.{length}
use Rattle.op_table.proofs.table.+codes_repeat.Given as goal

abbrev pub decreases-codes_repeat : goal.decreases-codes_repeat
decreases-codes_repeat l = length l.rows.now
