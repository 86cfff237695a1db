-- A write at an address of FRAM, and at one of RAM.
use Rattle.std.proofs.Common.{◌∙◌, ap}
use Rattle.fram_ram.specs.Memories.{words, put}
use Rattle.fram_ram.proofs.StoreLemmas.{stored_fram, stored_ram, ram_offset, ram_place, fram_found, ram_found, none_found}
use Rattle.fram_ram.proofs.memories.Memories.store.Goals as goal

pub returns-then-at-lt-FRAM_WORDS-clause-found : goal.returns-then-at-lt-FRAM_WORDS-clause-found
returns-then-at-lt-FRAM_WORDS-clause-found c = fram_found c.args.at c.if-at-lt-FRAM_WORDS.true

pub returns-then-at-lt-FRAM_WORDS-clause-ok : goal.returns-then-at-lt-FRAM_WORDS-clause-ok
returns-then-at-lt-FRAM_WORDS-clause-ok c =
    stored_fram c.self.inside.fram.items c.self.inside.ram.items c.args.at c.args.word c.self.invariant.0 c.if-at-lt-FRAM_WORDS.true
    ∙ ap (λ m. put (words m) c.args.at c.args.word) c.self.view_is

pub returns-then-place-lt-RAM_WORDS-clause-found : goal.returns-then-place-lt-RAM_WORDS-clause-found
returns-then-place-lt-RAM_WORDS-clause-found c = ram_found c.args.at c.ranges.at.fits c.if-place-lt-RAM_WORDS.true

pub returns-then-place-lt-RAM_WORDS-clause-ok : goal.returns-then-place-lt-RAM_WORDS-clause-ok
returns-then-place-lt-RAM_WORDS-clause-ok c =
    let there = ram_place c.args.at c.ranges.at.fits c.if-place-lt-RAM_WORDS.true in
    stored_ram c.self.inside.fram.items c.self.inside.ram.items c.args.at (ram_offset c.args.at) c.args.word
    c.self.invariant.1 there c.if-place-lt-RAM_WORDS.true
    ∙ ap (λ m. put (words m) c.args.at c.args.word) c.self.view_is

pub returns-clause-found : goal.returns-clause-found
returns-clause-found c = none_found c.args.at c.ranges.at.fits c.if-at-lt-FRAM_WORDS.false c.if-place-lt-RAM_WORDS.false
