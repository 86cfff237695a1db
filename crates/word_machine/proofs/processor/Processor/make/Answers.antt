-- Registers that are all 0, and memories that begin with the words.
use Rattle.std.specs.Prelude.{slice_index}
use Rattle.std.proofs.Common.{◌≡◌, ◌∙◌, ℕ, List, refl}
use Rattle.fram_ram.specs.Engine.{Transfer, idle}
use Rattle.fram_ram.specs.Memories.{Contents, words}
use Rattle.word_machine.specs.Held.{core_of, first_core}
use Rattle.word_machine.specs.declared.ending.Ending.TheVariants.{Running}
use Rattle.word_machine.proofs.RegisterLemmas.{all_zero}
use Rattle.word_machine.proofs.processor.Processor.make.Goals as goal

is_first : (registers fram : List ℕ) (memories : Contents) (engine : Transfer) → slice_index registers ≡ (λ _. 0) → words memories ≡ slice_index fram → engine ≡ idle
    → core_of (record { pc = 0; registers = registers; memories = memories; engine = engine; ending = Running }) ≡ first_core fram
unfolding core_of
is_first registers fram memories engine zeros begins is = rw (zeros, begins, is) refl

pub returns : goal.returns
returns c = is_first c.all.result c.args.fram.now c.in_ok-make.field-0 c.new.result (c.all.ensures ∙ all_zero) c.in_ok-make.ensures c.new.ensures
