-- Each variant by its parts.
use Rattle.io_depend.specs.Rows.{listed}
use Rattle.io_depend.proofs.RowLemmas.{cell_bits, index_bits, one_bits, two_bits}
use Rattle.io_depend.proofs.rows.Rows.+expr.Goals as goal

pub returns-in-Cell : goal.returns-in-Cell
returns-in-Cell t c = cell_bits (listed c.args.points.now) c.args.self.now _ _ _ _ _ _ c.in-Cell.is c.get.ensures c.array.ensures c.expr.ensures

pub returns-in-Through : goal.returns-in-Through
returns-in-Through t c = index_bits (listed c.args.points.now) c.args.self.now _ _ _ _ _ _ c.in-Through.is c.get-in-Through.ensures c.through.ensures c.expr-in-Through.ensures

pub returns-in-One : goal.returns-in-One
returns-in-One t c = one_bits (listed c.args.points.now) c.args.self.now _ _ _ _ _ c.in-One.is c.get-in-One.ensures c.expr-in-One.ensures

pub returns-in-Two : goal.returns-in-Two
returns-in-Two t c = two_bits (listed c.args.points.now) c.args.self.now _ _ _ _ _ _ _ _ c.in-Two.is c.get-in-Two.ensures c.get-in-Two-2.ensures c.expr-in-Two.ensures c.expr-in-Two-2.ensures
