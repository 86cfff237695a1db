-- Each variant by its parts.
use Rattle.std.specs.Prelude.{◌<◌, ◌≤◌, ◌+◌, length}
use Rattle.std.proofs.Common.{arith, rules, ap, subst, sym}
use Rattle.line_code.specs.ExpressionLaws.{size_at_cell, size_at_through, size_at_one, size_at_two, short_cell, short_through, short_one, short_two}
use Rattle.line_code.specs.Fitting.{IsShort}
use Rattle.line_code.specs.Expressions.{op_code}
use Rattle.line_code.specs.Sizes.{expr_size, two_size}
use Rattle.line_code.specs.PartLaws.{on_ok}
use Rattle.line_code.proofs.ExpressionLemmas.{cell_lines, through_lines, one_lines, both_lines, either_lines, sides_lines, strict_size, one_positive}
use Rattle.line_code.proofs.code.Code.+expr.Goals as goal

pub both-expr-requires-2 : goal.both-expr-requires-2
both-expr-requires-2 t c =
    let smaller : expr_size c.args.right.now < expr_size c.args.left.now + expr_size c.args.right.now + 1 = omega arith in
    let room : length c.put_all.new.self + expr_size c.args.right.now ≤ 4194304 = omega (arith, c.in_ok-put_all.ensures.count, c.in_ok-expr.ensures.count, c.requires.room) in
    search rules

pub either-expr-requires-2 : goal.either-expr-requires-2
either-expr-requires-2 t c =
    let smaller : expr_size c.args.right.now < expr_size c.args.left.now + expr_size c.args.right.now + 1 = omega arith in
    let room : length c.put_all.new.self + expr_size c.args.right.now ≤ 4194304 = omega (arith, c.in_ok-put_all.ensures.count, c.in_ok-expr.ensures.count, c.requires.room) in
    search rules

pub sides-expr-requires-2 : goal.sides-expr-requires-2
sides-expr-requires-2 t c =
    let smaller : expr_size c.args.right.now < expr_size c.args.left.now + expr_size c.args.right.now + 1 = omega arith in
    let room : length c.put.new.self + expr_size c.args.right.now ≤ 4194304 = omega (arith, c.in_ok-put.ensures.count, c.in_ok-expr.ensures.count, c.requires.room) in
    search rules

pub expr-expr-requires : goal.expr-expr-requires
expr-expr-requires t c =
    let size = size_at_cell c.args.e.now _ _ c.in-Cell.is in
    let smaller : expr_size c.get.result.now < expr_size c.args.e.now = omega (arith, size, ap expr_size c.get.ensures) in
    let room : length c.args.self.now + expr_size c.get.result.now ≤ 4194304 = omega (arith, c.requires.room, size, ap expr_size c.get.ensures) in
    let short : IsShort c.args.depth c.get.result.now = subst (IsShort c.args.depth) (sym c.get.ensures) (short_cell c.args.depth c.args.e.now _ _ c.in-Cell.is c.requires.short) in
    search rules

pub expr-expr-requires-in-Through : goal.expr-expr-requires-in-Through
expr-expr-requires-in-Through t c =
    let size = size_at_through c.args.e.now _ _ c.in-Through.is in
    let smaller : expr_size c.get-in-Through.result.now < expr_size c.args.e.now = omega (arith, size, ap expr_size c.get-in-Through.ensures) in
    let room : length c.args.self.now + expr_size c.get-in-Through.result.now ≤ 4194304 = omega (arith, c.requires.room, size, ap expr_size c.get-in-Through.ensures) in
    let short : IsShort c.args.depth c.get-in-Through.result.now = subst (IsShort c.args.depth) (sym c.get-in-Through.ensures) ((short_through c.args.depth c.args.e.now _ _ c.in-Through.is c.requires.short).1) in
    search rules

pub expr-expr-requires-in-One : goal.expr-expr-requires-in-One
expr-expr-requires-in-One t c =
    let size = size_at_one c.args.e.now _ _ c.in-One.is in
    let smaller : expr_size c.get-in-One.result.now < expr_size c.args.e.now = omega (arith, size, ap expr_size c.get-in-One.ensures, one_positive c.in-One.op) in
    let room : length c.args.self.now + expr_size c.get-in-One.result.now ≤ 4194304 = omega (arith, c.requires.room, size, ap expr_size c.get-in-One.ensures) in
    let short : IsShort c.args.depth c.get-in-One.result.now = subst (IsShort c.args.depth) (sym c.get-in-One.ensures) (short_one c.args.depth c.args.e.now _ _ c.in-One.is c.requires.short) in
    search rules

pub expr-pointer_cell-requires : goal.expr-pointer_cell-requires
expr-pointer_cell-requires t c = (short_through c.args.depth c.args.e.now _ _ c.in-Through.is c.requires.short).0

pub expr-both-requires : goal.expr-both-requires
expr-both-requires t c =
    let parts = short_two c.args.depth c.args.e.now _ _ _ c.in-Two.is c.requires.short in
    let size = size_at_two c.args.e.now _ _ _ c.in-Two.is in
    let smaller : expr_size c.get-in-Both.result.now + expr_size c.get-in-Both-2.result.now + 1 < expr_size c.args.e.now = omega (arith, size, ap expr_size c.get-in-Both.ensures, ap expr_size c.get-in-Both-2.ensures, ap two_size c.in-Both.is) in
    let room : length c.args.self.now + expr_size c.get-in-Both.result.now + expr_size c.get-in-Both-2.result.now + 5 ≤ 4194304 =
    omega (arith, c.requires.room, size, ap expr_size c.get-in-Both.ensures, ap expr_size c.get-in-Both-2.ensures, ap two_size c.in-Both.is) in
    let left : IsShort c.args.depth c.get-in-Both.result.now = subst (IsShort c.args.depth) (sym c.get-in-Both.ensures) parts.left in
    let right : IsShort c.args.depth c.get-in-Both-2.result.now = subst (IsShort c.args.depth) (sym c.get-in-Both-2.ensures) parts.right in
    search rules

pub expr-either-requires : goal.expr-either-requires
expr-either-requires t c =
    let parts = short_two c.args.depth c.args.e.now _ _ _ c.in-Two.is c.requires.short in
    let size = size_at_two c.args.e.now _ _ _ c.in-Two.is in
    let smaller : expr_size c.get-in-Either.result.now + expr_size c.get-in-Either-2.result.now + 1 < expr_size c.args.e.now = omega (arith, size, ap expr_size c.get-in-Either.ensures, ap expr_size c.get-in-Either-2.ensures, ap two_size c.in-Either.is) in
    let room : length c.args.self.now + expr_size c.get-in-Either.result.now + expr_size c.get-in-Either-2.result.now + 4 ≤ 4194304 =
    omega (arith, c.requires.room, size, ap expr_size c.get-in-Either.ensures, ap expr_size c.get-in-Either-2.ensures, ap two_size c.in-Either.is) in
    let left : IsShort c.args.depth c.get-in-Either.result.now = subst (IsShort c.args.depth) (sym c.get-in-Either.ensures) parts.left in
    let right : IsShort c.args.depth c.get-in-Either-2.result.now = subst (IsShort c.args.depth) (sym c.get-in-Either-2.ensures) parts.right in
    search rules

pub expr-sides-requires : goal.expr-sides-requires
expr-sides-requires t c =
    let parts = short_two c.args.depth c.args.e.now _ _ _ c.in-Two.is c.requires.short in
    let size = size_at_two c.args.e.now _ _ _ c.in-Two.is in
    let smaller : expr_size c.get-in_default.result.now + expr_size c.get-in_default-2.result.now + 1 < expr_size c.args.e.now = omega (arith, size, ap expr_size c.get-in_default.ensures, ap expr_size c.get-in_default-2.ensures, strict_size c.in-Two.op c.in_default.not-Both c.in_default.not-Either) in
    let room : length c.args.self.now + expr_size c.get-in_default.result.now + expr_size c.get-in_default-2.result.now + 3 + length (op_code c.in-Two.op) ≤ 4194304 =
    omega (arith, c.requires.room, size, ap expr_size c.get-in_default.ensures, ap expr_size c.get-in_default-2.ensures, strict_size c.in-Two.op c.in_default.not-Both c.in_default.not-Either) in
    let left : IsShort c.args.depth c.get-in_default.result.now = subst (IsShort c.args.depth) (sym c.get-in_default.ensures) parts.left in
    let right : IsShort (c.args.depth + 1) c.get-in_default-2.result.now = subst (IsShort (c.args.depth + 1)) (sym c.get-in_default-2.ensures) parts.deeper in
    search rules

pub expr-returns-in_ok-place-in-Cell-clause-lines : goal.expr-returns-in_ok-place-in-Cell-clause-lines
expr-returns-in_ok-place-in-Cell-clause-lines t c =
    on_ok c.put.result (cell_lines c.args.areas.now c.args.e.now _ _ _ c.args.depth _ c.args.self.now _ _ _ c.in-Cell.is c.get.ensures c.area_at.ensures c.in_ok-expr-in-Cell.ensures.lines c.in_ok-place-in-Cell.ensures.lines) c.put.ensures.lines

pub expr-returns-in_ok-place-in-Cell-clause-count : goal.expr-returns-in_ok-place-in-Cell-clause-count
expr-returns-in_ok-place-in-Cell-clause-count t c =
    on_ok c.put.result (λ h. omega (arith, h, c.in_ok-expr-in-Cell.ensures.count, c.in_ok-place-in-Cell.ensures.count, size_at_cell c.args.e.now _ _ c.in-Cell.is, ap expr_size c.get.ensures)) c.put.ensures.count

pub expr-returns-in_ok-pointed-in-Through-clause-lines : goal.expr-returns-in_ok-pointed-in-Through-clause-lines
expr-returns-in_ok-pointed-in-Through-clause-lines t c =
    on_ok c.put-in-Through.result (through_lines c.args.areas.now c.args.e.now _ _ _ c.args.depth _ c.args.self.now _ _ _ c.in-Through.is c.get-in-Through.ensures c.pointer_cell.ensures c.in_ok-expr-in-Through.ensures.lines c.in_ok-pointed-in-Through.ensures.lines)
    c.put-in-Through.ensures.lines

pub expr-returns-in_ok-pointed-in-Through-clause-count : goal.expr-returns-in_ok-pointed-in-Through-clause-count
expr-returns-in_ok-pointed-in-Through-clause-count t c =
    on_ok c.put-in-Through.result (λ h. omega (arith, h, c.in_ok-expr-in-Through.ensures.count, c.in_ok-pointed-in-Through.ensures.count, size_at_through c.args.e.now _ _ c.in-Through.is, ap expr_size c.get-in-Through.ensures)) c.put-in-Through.ensures.count

pub expr-returns-in_ok-expr-in-One-clause-lines : goal.expr-returns-in_ok-expr-in-One-clause-lines
expr-returns-in_ok-expr-in-One-clause-lines t c =
    on_ok c.one.result (one_lines c.args.areas.now c.args.e.now _ _ _ c.args.depth c.args.self.now _ _ c.in-One.is c.get-in-One.ensures c.in_ok-expr-in-One.ensures.lines) c.one.ensures.lines

pub expr-returns-in_ok-expr-in-One-clause-count : goal.expr-returns-in_ok-expr-in-One-clause-count
expr-returns-in_ok-expr-in-One-clause-count t c =
    on_ok c.one.result (λ h. omega (arith, h, c.in_ok-expr-in-One.ensures.count, size_at_one c.args.e.now _ _ c.in-One.is, ap expr_size c.get-in-One.ensures)) c.one.ensures.count

pub expr-returns-in-Both-clause-lines : goal.expr-returns-in-Both-clause-lines
expr-returns-in-Both-clause-lines t c =
    on_ok c.both.result (both_lines c.args.areas.now c.args.e.now _ _ _ _ _ c.args.depth c.args.self.now _ c.in-Two.is c.in-Both.is c.get-in-Both.ensures c.get-in-Both-2.ensures) c.both.ensures.lines

pub expr-returns-in-Both-clause-count : goal.expr-returns-in-Both-clause-count
expr-returns-in-Both-clause-count t c =
    on_ok c.both.result (λ h. omega (arith, h, size_at_two c.args.e.now _ _ _ c.in-Two.is, ap expr_size c.get-in-Both.ensures, ap expr_size c.get-in-Both-2.ensures, ap two_size c.in-Both.is)) c.both.ensures.count

pub expr-returns-in-Either-clause-lines : goal.expr-returns-in-Either-clause-lines
expr-returns-in-Either-clause-lines t c =
    on_ok c.either.result (either_lines c.args.areas.now c.args.e.now _ _ _ _ _ c.args.depth c.args.self.now _ c.in-Two.is c.in-Either.is c.get-in-Either.ensures c.get-in-Either-2.ensures) c.either.ensures.lines

pub expr-returns-in-Either-clause-count : goal.expr-returns-in-Either-clause-count
expr-returns-in-Either-clause-count t c =
    on_ok c.either.result (λ h. omega (arith, h, size_at_two c.args.e.now _ _ _ c.in-Two.is, ap expr_size c.get-in-Either.ensures, ap expr_size c.get-in-Either-2.ensures, ap two_size c.in-Either.is)) c.either.ensures.count

pub expr-returns-in_default : goal.expr-returns-in_default
expr-returns-in_default t c = record {
  lines = on_ok c.sides.result (sides_lines c.args.areas.now c.args.e.now _ _ _ _ _ c.args.depth c.args.self.now _ c.in-Two.is c.in_default.not-Both c.in_default.not-Either c.get-in_default.ensures c.get-in_default-2.ensures) c.sides.ensures.lines;
  count = on_ok c.sides.result (λ h. omega (arith, h, size_at_two c.args.e.now _ _ _ c.in-Two.is, ap expr_size c.get-in_default.ensures, ap expr_size c.get-in_default-2.ensures, strict_size c.in-Two.op c.in_default.not-Both c.in_default.not-Either)) c.sides.ensures.count;
}
