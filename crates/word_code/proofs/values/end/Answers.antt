-- Three parts.
use Rattle.std.specs.Prelude.{◌++◌, length}
use Rattle.std.proofs.Common.{ap, sym, ◌∙◌}
use Rattle.task_ast.specs.declared.core_form.CoreEnd.{CoreEnd}
use Rattle.line_code.specs.PartLaws.{on_ok}
use Rattle.word_code.specs.Values.{end_code}
use Rattle.word_code.proofs.ValueLemmas.{end_lines}
use Rattle.word_code.proofs.values.end.Goals as goal

pub returns-in_ok-place-in-Cell-clause-lines : goal.returns-in_ok-place-in-Cell-clause-lines
returns-in_ok-place-in-Cell-clause-lines c =
    on_ok c.put_all.result (λ h. end_lines c.args.areas.now c.in-Cell.array c.in-Cell.index c.args.cell _ c.args.code.now _ _ _ c.area_at.ensures c.in_ok-expr-in-Cell.ensures.lines c.in_ok-place-in-Cell.ensures.lines h
    ∙ ap (λ (e : CoreEnd). c.args.code.now ++ end_code c.args.areas.now e c.args.cell (length c.args.code.now)) (sym c.in-Cell.is)) c.put_all.ensures.lines
