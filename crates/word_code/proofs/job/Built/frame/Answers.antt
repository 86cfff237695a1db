-- The frame's limits are the program's.
use Rattle.std.proofs.Common.{arith, subst, sym}
use Rattle.word_code.specs.Beginnings.{AreLow}
use Rattle.word_code.proofs.JobLemmas.{arrays_low}
use Rattle.word_code.proofs.job.Built.frame.Goals as goal

pub invariant_of-result : goal.invariant_of-result
invariant_of-result c =
    let known = c.self.invariant in
    record {
      kept = c.requires.kept;
      words = known.fit.words;
      pointers = known.fit.pointers;
      tasks = known.fit.tasks;
      number = omega (arith, c.requires.number);
      areas = known.placed;
      low = subst AreLow (sym known.placed) (arrays_low c.self.inside.core.now.arrays known.fit.words);
    }
