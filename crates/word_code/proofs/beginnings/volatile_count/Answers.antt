-- Fewer than all words.
use Rattle.std.specs.Prelude.{length}
use Rattle.std.proofs.Common.{arith, ap}
use Rattle.word_code.proofs.BeginLemmas.{volatile_few, volatile_at}
use Rattle.word_code.proofs.beginnings.volatile_count.Goals as goal

pub overflow_add-count : goal.overflow_add-count
overflow_add-count c =
    omega (arith, c.arrays.invariant, volatile_few c.args.arrays.now, c.requires, volatile_at c.args.arrays.now c.arrays.array-index c.array-item.result c.arrays-test.true c.array-item.is, ap length c.volatile_words.ensures)

pub returns-clause-few : goal.returns-clause-few
returns-clause-few c = omega (arith, c.arrays.invariant, volatile_few c.args.arrays.now, c.requires)
