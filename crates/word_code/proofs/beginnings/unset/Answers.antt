-- One block more for each turn.
use Rattle.std.specs.Prelude.{ℕ, ◌+◌, [], ◌∷◌, ◌++◌}
use Rattle.std.proofs.Common.{refl, arith, ap, ◌∙◌}
use Rattle.word_isa.specs.declared.instr.Instr.TheVariants.{St}
use Rattle.line_code.specs.Lines.{bares}
use Rattle.word_code.specs.Beginnings.{unset_code}
use Rattle.word_code.proofs.RepeatLemmas.{run_begins, run_goes_on, run_ends}
use Rattle.word_code.proofs.beginnings.unset.Goals as goal

pub pointers-init : goal.pointers-init
pointers-init c = run_begins unset_code 2 c.args.code.now c.args.count

pub pointers-preserved : goal.pointers-preserved
pointers-preserved c = run_goes_on unset_code 2 c.args.code.now c.pointers.code c.put_all.new.self c.pointers.pointer c.args.count c.pointers.invariant c.pointers-test.true refl (c.in_ok-put_all.ensures.lines ∙ ap (λ (n : ℕ). c.pointers.code ++ bares (St 0 15 n ∷ St 0 15 (n + 1) ∷ [])) c.pointer_cell-cell.ensures) c.in_ok-put_all.ensures.count

pub returns-clause-lines : goal.returns-clause-lines
returns-clause-lines c = run_ends unset_code 2 c.args.code.now c.pointers.code c.pointers.pointer c.args.count c.pointers.invariant c.pointers-test.false

pub returns-clause-count : goal.returns-clause-count
returns-clause-count c = omega (arith, c.pointers.invariant.grown, c.pointers-test.false, c.pointers.auto.pointer-end)
