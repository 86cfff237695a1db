use Rattle.std.proofs.Common.{arith}
use Rattle.word_isa.specs.Entries.{symbol_passes}
use Rattle.word_isa.proofs.SearchLemmas.{goes_on_at, finds_at, search_ends}
use Rattle.word_isa.proofs.entries.first_bad_beside.Goals as goal

pub returns-then-not-symbol_passes-clause-value : goal.returns-then-not-symbol_passes-clause-value
returns-then-not-symbol_passes-clause-value c =
    finds_at (symbol_passes c.args.kept c.args.stride) c.args.symbols.now c.symbols.at c.index-symbols-at.result c.index-symbols-at.result c.symbol_passes.result c.symbols-test.true c.index-symbols-at.is c.symbol_passes.ensures c.if-not-symbol_passes.true c.symbols.invariant

pub symbols-preserved : goal.symbols-preserved
symbols-preserved c =
    goes_on_at (symbol_passes c.args.kept c.args.stride) c.args.symbols.now c.symbols.at c.index-symbols-at.result c.index-symbols-at.result c.symbol_passes.result c.symbols-test.true c.index-symbols-at.is c.symbol_passes.ensures c.if-not-symbol_passes.false c.symbols.invariant

pub returns-clause-value : goal.returns-clause-value
returns-clause-value c = search_ends (symbol_passes c.args.kept c.args.stride) c.args.symbols.now c.symbols.at (omega arith) c.symbols.invariant
