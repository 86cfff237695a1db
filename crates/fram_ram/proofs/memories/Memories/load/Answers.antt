-- The word at an address of FRAM, and at one of RAM.
use Rattle.std.proofs.Common.{◌∙◌, ◌<◌, length, sym, ap, arith}
use Rattle.fram_ram.specs.Memories.{words}
use Rattle.fram_ram.proofs.StoreLemmas.{words_fram, words_ram, read_at, ram_offset, ram_place, fram_found, ram_found, none_found}
use Rattle.fram_ram.proofs.memories.Memories.load.Goals as goal

pub returns-then-at-lt-FRAM_WORDS-clause-found : goal.returns-then-at-lt-FRAM_WORDS-clause-found
returns-then-at-lt-FRAM_WORDS-clause-found c = fram_found c.args.at c.if-at-lt-FRAM_WORDS.true

pub returns-then-at-lt-FRAM_WORDS-clause-word : goal.returns-then-at-lt-FRAM_WORDS-clause-word
returns-then-at-lt-FRAM_WORDS-clause-word c =
    let within : c.args.at < length c.self.inside.fram.items = omega arith in
    sym (sym (ap (λ m. words m c.args.at) c.self.view_is)
    ∙ words_fram _ c.args.at c.if-at-lt-FRAM_WORDS.true
    ∙ read_at _ c.args.at c.index.result.now within c.index.ensures)

pub returns-then-place-lt-RAM_WORDS-clause-found : goal.returns-then-place-lt-RAM_WORDS-clause-found
returns-then-place-lt-RAM_WORDS-clause-found c = ram_found c.args.at c.ranges.at.fits c.if-place-lt-RAM_WORDS.true

pub returns-then-place-lt-RAM_WORDS-clause-word : goal.returns-then-place-lt-RAM_WORDS-clause-word
returns-then-place-lt-RAM_WORDS-clause-word c =
    let there = ram_place c.args.at c.ranges.at.fits c.if-place-lt-RAM_WORDS.true in
    let within : ram_offset c.args.at < length c.self.inside.ram.items = omega arith in
    sym (sym (ap (λ m. words m c.args.at) c.self.view_is)
    ∙ words_ram _ c.args.at (ram_offset c.args.at) there c.if-place-lt-RAM_WORDS.true
    ∙ read_at _ (ram_offset c.args.at) c.index-then-place-lt-RAM_WORDS.result.now within c.index-then-place-lt-RAM_WORDS.ensures)

pub returns-clause-found : goal.returns-clause-found
returns-clause-found c = none_found c.args.at c.ranges.at.fits c.if-at-lt-FRAM_WORDS.false c.if-place-lt-RAM_WORDS.false
