-- Three parts.
use Rattle.line_code.specs.PartLaws.{on_ok}
use Rattle.word_code.proofs.HeadLemmas.{commit_lines}
use Rattle.word_code.proofs.heads.commit.Goals as goal

pub returns-clause-lines : goal.returns-clause-lines
returns-clause-lines c = on_ok c.fix.result (commit_lines c.args.f.now c.args.next c.args.code.now _ _ _ _ _ c.sign-sign.ensures c.stride.ensures c.in_ok-put_all.ensures.lines c.in_ok-put_marked.ensures.lines) c.fix.ensures.lines
