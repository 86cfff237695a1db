-- Each statement by its parts.
use Rattle.std.specs.Prelude.{◌≡◌, ◌<◌, ◌≤◌, ◌+◌, length}
use Rattle.std.proofs.Common.{arith, rules}
use Rattle.line_code.specs.Fitting.{IsShort, IsShortStmt, IsShortBody}
use Rattle.line_code.specs.Sizes.{expr_size, body_size, statement_size}
use Rattle.line_code.proofs.StatementLemmas.{choose_lines, if_short, if_size, loop_short, loop_size, if_lines, loop_lines, sets_out, one_more, at_next}
use Rattle.line_code.specs.PartLaws.{on_ok}
use Rattle.line_code.proofs.code.Code.+statements.Goals as goal

pub choose-statements-requires : goal.choose-statements-requires
choose-statements-requires t c =
    let smaller : body_size c.args.yes_part.now + 1 < expr_size c.args.c.now + body_size c.args.yes_part.now + body_size c.args.no_part.now + 2 = omega arith in
    let room : length c.unless.new.self + body_size c.args.yes_part.now ≤ 4194304 = omega (arith, c.requires.room, c.in_ok-unless.ensures.count, c.in_ok-expr.ensures.count) in
    search rules

pub choose-statements-requires-2 : goal.choose-statements-requires-2
choose-statements-requires-2 t c =
    let smaller : body_size c.args.no_part.now + 1 < expr_size c.args.c.now + body_size c.args.yes_part.now + body_size c.args.no_part.now + 2 = omega arith in
    let room : length c.put.new.self + body_size c.args.no_part.now ≤ 4194304 =
    omega (arith, c.requires.room, c.in_ok-unless.ensures.count, c.in_ok-expr.ensures.count, c.in_ok-statements.ensures.count, c.in_ok-put.ensures.count) in
    search rules

pub statement-choose-requires : goal.statement-choose-requires
statement-choose-requires t c =
    let short = if_short c.args.s.now _ _ _ _ _ c.in-If.is c.as_slice.ensures c.as_slice-in-If.ensures c.requires.short in
    let size = if_size c.args.s.now _ _ _ _ _ c.in-If.is c.as_slice.ensures c.as_slice-in-If.ensures in
    let smaller : expr_size c.in-If.c + body_size c.as_slice.result.now + body_size c.as_slice-in-If.result.now + 2 < statement_size c.args.s.now = omega (arith, size) in
    let room : length c.args.self.now + expr_size c.in-If.c + body_size c.as_slice.result.now + body_size c.as_slice-in-If.result.now + 4 ≤ 4194304 = omega (arith, c.requires.room, size) in
    let condition : IsShort 0 c.in-If.c = short.0 in
    let yes_part : IsShortBody c.as_slice.result.now = short.1 in
    let no_part : IsShortBody c.as_slice-in-If.result.now = short.2 in
    search rules

pub statement-turns-requires : goal.statement-turns-requires
statement-turns-requires t c =
    let short = loop_short c.args.s.now _ _ _ _ c.in-Loop.is c.as_slice-in-Loop.ensures c.requires.short in
    let size = loop_size c.args.s.now _ _ _ _ c.in-Loop.is c.as_slice-in-Loop.ensures in
    let smaller : body_size c.as_slice-in-Loop.result.now + 2 < statement_size c.args.s.now = omega (arith, size) in
    let room : length c.args.self.now + body_size c.as_slice-in-Loop.result.now + 12 ≤ 4194304 = omega (arith, c.requires.room, size) in
    let turns : c.in-Loop.turns < 65536 = short.0 in
    let body : IsShortBody c.as_slice-in-Loop.result.now = short.1 in
    search rules

pub statements-statement-requires : goal.statements-statement-requires
statements-statement-requires t c =
    let way = at_next c.args.areas.now c.args.self.now c.args.body.now c.statements.self c.statements.s-index c.s-item.result c.statements-test.true c.s-item.is c.statements.invariant in
    let smaller : statement_size c.s-item.result < body_size c.args.body.now + 1 = omega (arith, way.within) in
    let room : length c.statements.self + statement_size c.s-item.result ≤ 4194304 = omega (arith, way.count, c.requires.room) in
    let short : IsShortStmt c.s-item.result = way.short.0 in
    search rules

pub statements-statements-preserved : goal.statements-statements-preserved
statements-statements-preserved t c =
    let way = at_next c.args.areas.now c.args.self.now c.args.body.now c.statements.self c.statements.s-index c.s-item.result c.statements-test.true c.s-item.is c.statements.invariant in
    one_more c.args.areas.now c.args.self.now c.args.body.now c.statements.self _ c.s-item.result _ way c.in_ok-statement.ensures.lines c.in_ok-statement.ensures.count

pub statements-statements-init : goal.statements-statements-init
statements-statements-init t c = sets_out c.args.areas.now c.args.self.now c.args.body.now c.requires.short

pub statement-returns-in-If-clause-lines : goal.statement-returns-in-If-clause-lines
statement-returns-in-If-clause-lines t c =
    on_ok c.choose.result (if_lines c.args.areas.now c.args.s.now _ _ _ _ _ c.args.self.now _ c.in-If.is c.as_slice.ensures c.as_slice-in-If.ensures) c.choose.ensures.lines

pub statement-returns-in-If-clause-count : goal.statement-returns-in-If-clause-count
statement-returns-in-If-clause-count t c =
    on_ok c.choose.result (λ h. omega (arith, h, if_size c.args.s.now _ _ _ _ _ c.in-If.is c.as_slice.ensures c.as_slice-in-If.ensures)) c.choose.ensures.count

pub statement-returns-in-Loop-clause-lines : goal.statement-returns-in-Loop-clause-lines
statement-returns-in-Loop-clause-lines t c =
    on_ok c.turns.result (loop_lines c.args.areas.now c.args.s.now _ _ _ _ c.args.self.now _ c.in-Loop.is c.as_slice-in-Loop.ensures) c.turns.ensures.lines

pub statement-returns-in-Loop-clause-count : goal.statement-returns-in-Loop-clause-count
statement-returns-in-Loop-clause-count t c =
    on_ok c.turns.result (λ h. omega (arith, h, loop_size c.args.s.now _ _ _ _ c.in-Loop.is c.as_slice-in-Loop.ensures)) c.turns.ensures.count

pub choose-returns-clause-lines : goal.choose-returns-clause-lines
choose-returns-clause-lines t c =
    let at_yes : length c.unless.new.self ≡ length c.args.self.now + expr_size c.args.c.now + 3 = omega (arith, c.in_ok-expr.ensures.count, c.in_ok-unless.ensures.count) in
    let at_no : length c.put.new.self ≡ length c.args.self.now + expr_size c.args.c.now + 3 + body_size c.args.yes_part.now + 1 = omega (arith, c.in_ok-expr.ensures.count, c.in_ok-unless.ensures.count, c.in_ok-statements.ensures.count, c.in_ok-put.ensures.count) in
    on_ok c.statements-2.result (choose_lines c.args.areas.now c.args.c.now c.args.yes_part.now c.args.no_part.now c.args.self.now _ _ _ _ _ _ _
    (omega (arith, c.at.ensures, c.expr_size.ensures, c.statements_size.ensures, c.requires.room))
    (omega (arith, c.at.ensures, c.expr_size.ensures, c.statements_size.ensures, c.statements_size-2.ensures, c.requires.room))
    at_yes at_no c.in_ok-expr.ensures.lines c.in_ok-unless.ensures.lines c.in_ok-statements.ensures.lines c.in_ok-put.ensures.lines) c.statements-2.ensures.lines
