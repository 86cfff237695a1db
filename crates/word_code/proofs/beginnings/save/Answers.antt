-- The arrays lie low.
use Rattle.word_code.proofs.beginnings.save.Goals as goal

pub homes-requires-clause-places : goal.homes-requires-clause-places
homes-requires-clause-places c = c.f.invariant.low
