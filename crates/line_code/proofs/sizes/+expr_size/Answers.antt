-- Each variant by its parts.
use Rattle.line_code.specs.ExpressionLaws.{size_at_cell, size_at_through, size_at_one, size_at_two}
use Rattle.line_code.proofs.ExpressionLemmas.{size_more, size_one, size_sides}
use Rattle.line_code.proofs.sizes.+expr_size.Goals as goal

pub returns-in-Cell : goal.returns-in-Cell
returns-in-Cell t c = size_more c.args.e.now c.in-Cell.index c.get.result.now 10 _ _ (size_at_cell _ _ _ c.in-Cell.is) c.get.ensures c.expr_size.ensures c.saturating_add.ensures

pub returns-in-Through : goal.returns-in-Through
returns-in-Through t c = size_more c.args.e.now c.in-Through.index c.get-in-Through.result.now 14 _ _ (size_at_through _ _ _ c.in-Through.is) c.get-in-Through.ensures c.expr_size-in-Through.ensures c.saturating_add-in-Through.ensures

pub returns-in-One : goal.returns-in-One
returns-in-One t c = size_one c.args.e.now c.in-One.e c.get-in-One.result.now _ _ _ _ (size_at_one _ _ _ c.in-One.is) c.get-in-One.ensures c.expr_size-in-One.ensures c.one_size.ensures c.saturating_add-in-One.ensures

pub returns-in-Two : goal.returns-in-Two
returns-in-Two t c =
    size_sides c.args.e.now c.in-Two.left c.in-Two.right c.get-in-Two.result.now c.get-in-Two-2.result.now _ _ _ _ _ _ (size_at_two _ _ _ _ c.in-Two.is) c.get-in-Two.ensures c.get-in-Two-2.ensures
    c.expr_size-in-Two.ensures c.expr_size-in-Two-2.ensures c.saturating_add-sides.ensures c.two_size.ensures c.saturating_add-in-Two.ensures
