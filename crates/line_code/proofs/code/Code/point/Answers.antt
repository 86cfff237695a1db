-- Three parts.
use Rattle.line_code.proofs.StatementLemmas.{point_lines}
use Rattle.line_code.specs.PartLaws.{on_ok}
use Rattle.line_code.proofs.code.Code.point.Goals as goal

pub returns-clause-lines : goal.returns-clause-lines
returns-clause-lines c =
    on_ok c.put_all.result (point_lines c.args.areas.now c.args.pointer c.args.array c.args.index.now _ _ c.args.self.now _ _ _ c.pointer_cell-cell.ensures c.area_at.ensures c.in_ok-expr.ensures.lines c.in_ok-place.ensures.lines) c.put_all.ensures.lines
