-- What is counted with what is left is all; each call counts fewer lines.
use Rattle.std.proofs.Common.{◌+◌, drop}
use Rattle.word_code.specs.Sizes.{act_size, acts_size}
use Rattle.word_code.proofs.ActLemmas.{IsCounted}
use Rattle.word_code.proofs.sizes.+acts.Given as goal

abbrev pub invariant-acts_size-acts : goal.invariant-acts_size-acts
invariant-acts_size-acts l = IsCounted l.f l.acts l.size (drop l.a-index l.acts)

abbrev pub decreases-act_size : goal.decreases-act_size
decreases-act_size l = act_size l.f.now l.a.now

abbrev pub decreases-acts_size : goal.decreases-acts_size
decreases-acts_size l = acts_size l.f.now l.acts.now + 1
