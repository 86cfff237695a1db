-- Short rows, one feed and no retained readings.
use Rattle.std.proofs.Common.{rules}
use Rattle.power_trace_tests.proofs.RowsLemmas.{within, words_of}
use Rattle.power_trace_tests.proofs.bed.world.Goals as goal

pub returns : goal.returns
returns c = within _ c.args.values.now c.in_ok-power.ensures c.in_ok-one_feed.ensures (words_of c.args.values.now (λ i. let fits = c.type_inv.values i in search rules)) c.new.ensures
