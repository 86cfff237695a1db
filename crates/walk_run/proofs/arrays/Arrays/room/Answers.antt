-- The length of an array fits a word.
use Rattle.std.proofs.Common.{arith}
use Rattle.walk_run.proofs.ArrayWrites.{narrow_seen}
use Rattle.walk_run.proofs.arrays.Arrays.room.Goals as goal

pub overflow_cast-result : goal.overflow_cast-result
overflow_cast-result c = omega (arith, narrow_seen (λ v. v.items) c.self.inside.arrays.items c.args.self.now c.args.array _ c.self.invariant c.self.view_is c.words.ensures)
