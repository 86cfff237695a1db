-- Symbol by symbol.
use Rattle.std.proofs.Common.{sym, ◌∙◌}
use Rattle.soak_run.proofs.NameLemmas.{passed, reached, passed_all}
use Rattle.soak_run.proofs.named.base_of.Goals as goal

pub returns-then-is_named : goal.returns-then-is_named
returns-then-is_named c =
    let found = reached c.args.symbols.now c.symbols.symbol-index c.symbol-item.result c.args.name.now c.symbols-test.true c.symbol-item.is (sym c.is_named.ensures ∙ c.if-is_named.true) in
    sym found ∙ c.symbols.invariant

pub symbols-preserved : goal.symbols-preserved
symbols-preserved c =
    sym (passed c.args.symbols.now c.symbols.symbol-index c.symbol-item.result c.args.name.now c.symbols-test.true c.symbol-item.is (sym c.is_named.ensures ∙ c.if-is_named.false)) ∙ c.symbols.invariant

pub returns : goal.returns
returns c = sym (passed_all c.args.symbols.now c.symbols.symbol-index c.args.name.now c.symbols-test.false) ∙ c.symbols.invariant
