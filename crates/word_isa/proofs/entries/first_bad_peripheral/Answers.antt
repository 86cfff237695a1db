use Rattle.std.proofs.Common.{arith}
use Rattle.word_isa.specs.Entries.{peripheral_passes}
use Rattle.word_isa.proofs.SearchLemmas.{goes_on_at, finds_at, search_ends}
use Rattle.word_isa.proofs.entries.first_bad_peripheral.Goals as goal

pub returns-then-not-peripheral_passes-clause-value : goal.returns-then-not-peripheral_passes-clause-value
returns-then-not-peripheral_passes-clause-value c =
    finds_at (peripheral_passes c.args.symbols.now) c.args.peripherals.now c.peripherals.at c.index-peripherals-at.result c.index-peripherals-at.result c.peripheral_passes.result c.peripherals-test.true c.index-peripherals-at.is c.peripheral_passes.ensures c.if-not-peripheral_passes.true c.peripherals.invariant

pub peripherals-preserved : goal.peripherals-preserved
peripherals-preserved c =
    goes_on_at (peripheral_passes c.args.symbols.now) c.args.peripherals.now c.peripherals.at c.index-peripherals-at.result c.index-peripherals-at.result c.peripheral_passes.result c.peripherals-test.true c.index-peripherals-at.is c.peripheral_passes.ensures c.if-not-peripheral_passes.false c.peripherals.invariant

pub returns-clause-value : goal.returns-clause-value
returns-clause-value c = search_ends (peripheral_passes c.args.symbols.now) c.args.peripherals.now c.peripherals.at (omega arith) c.peripherals.invariant
