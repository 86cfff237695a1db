-- One argument more for each turn.
use Rattle.std.proofs.Common.{arith, sym, ◌∙◌, append-nil}
use Rattle.word_code.proofs.ValueLemmas.{args_begin, arg_next, arg_more, args_end}
use Rattle.word_code.proofs.values.arguments.Goals as goal

pub arguments-init : goal.arguments-init
arguments-init c = args_begin c.args.areas.now c.args.code.now c.args.args.now c.requires.short c.requires.few

pub arguments-preserved : goal.arguments-preserved
arguments-preserved c =
    let way = arg_next c.args.areas.now c.args.code.now c.args.args.now c.arguments.code c.arguments.number c.index-args-number.result c.arguments-test.true c.index-args-number.is c.arguments.invariant in
    arg_more c.args.areas.now c.args.code.now c.args.args.now c.arguments.code _ _ c.arguments.number c.index-args-number.result _ way c.in_ok-expr.ensures.lines c.in_ok-expr.ensures.count c.in_ok-put.ensures.lines c.in_ok-put.ensures.count

pub returns-clause-lines : goal.returns-clause-lines
returns-clause-lines c =
    let way = args_end c.args.areas.now c.args.code.now c.args.args.now c.arguments.code c.arguments.number c.arguments-test.false c.arguments.invariant in
    sym (append-nil c.arguments.code) ∙ way.lines

pub returns-clause-count : goal.returns-clause-count
returns-clause-count c =
    let way = args_end c.args.areas.now c.args.code.now c.args.args.now c.arguments.code c.arguments.number c.arguments-test.false c.arguments.invariant in
    omega (arith, way.count)
