-- What is there with what is left is all; each call has fewer lines to put.
use Rattle.std.proofs.Common.{◌+◌, drop}
use Rattle.line_code.specs.Sizes.{expr_size}
use Rattle.word_code.specs.Frames.{site_at}
use Rattle.word_code.specs.Sizes.{act_size, acts_size}
use Rattle.word_code.specs.Tables.{keeps_size}
use Rattle.word_code.proofs.ActLemmas.{IsOnWay}
use Rattle.word_code.proofs.act_lines.+acts.Given as goal

abbrev pub invariant-acts-acts : goal.invariant-acts-acts
invariant-acts-acts l = IsOnWay l.f l.ahead.keeps l.ahead.next l.initial.code l.acts l.code (drop l.place l.acts)

abbrev pub decreases-act : goal.decreases-act
decreases-act l = act_size l.f.now l.a.now

abbrev pub decreases-test : goal.decreases-test
decreases-test l = expr_size l.c.now + acts_size l.f.now l.yes_part.now + acts_size l.f.now l.no_part.now + 2

abbrev pub decreases-choose : goal.decreases-choose
decreases-choose l = keeps_size (site_at l.f.now l.site) + acts_size l.f.now l.issue_part.now + acts_size l.f.now l.keep_part.now + 2

abbrev pub decreases-leave_block : goal.decreases-leave_block
decreases-leave_block l = acts_size l.f.now l.part.now + 4

abbrev pub decreases-by_class : goal.decreases-by_class
decreases-by_class l = acts_size l.f.now l.single.now + acts_size l.f.now l.private.now + acts_size l.f.now l.rest.now + 4

abbrev pub decreases-acts : goal.decreases-acts
decreases-acts l = acts_size l.f.now l.acts.now + 1
