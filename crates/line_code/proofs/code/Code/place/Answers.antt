-- Three parts.
use Rattle.line_code.specs.PartLaws.{on_ok, three_parts}
use Rattle.line_code.proofs.code.Code.place.Goals as goal

pub returns-clause-lines : goal.returns-clause-lines
returns-clause-lines c = on_ok c.put_all.result (three_parts c.args.self.now _ _ _ _ _ _ c.in_ok-put.ensures.lines c.in_ok-bound.ensures.lines) c.put_all.ensures.lines
