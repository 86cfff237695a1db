-- What an image's tests give: its words have rows, and its marks lie in the code.
use Rattle.std.proofs.Common.{◌≡◌, ◌∙◌, ◌<◌, ◌≤◌, ℕ, List, length, map, ap, sym, subst, arith, get_or}
use Rattle.std.proofs.lemmas.List.{length-map}
use Rattle.word_isa.specs.declared.mark.Mark.{Mark}
use Rattle.word_machine.specs.declared.cell.Cell.{Cell}
use Rattle.word_machine.specs.Held.{instr_in}
use Rattle.word_machine.specs.Loading.{bare_cell, AreSigned}
use Rattle.word_machine.proofs.LoadingLemmas.{mark_low, cells_fit, code_short, same_program}
use Rattle.word_machine.proofs.machine.Machine.load.Goals as goal

pub sign_all-requires : goal.sign_all-requires
sign_all-requires c =
    let image = c.args.image.now in
    let cells : c.in_ok-code.code.items ≡ map bare_cell image.code = c.in_ok-code.ensures ∙ ap (map bare_cell) c.as_slice.ensures in
    let count : length c.in_ok-code.code.items ≡ length image.code = ap length cells ∙ length-map image.code bare_cell in
    let marks_low : (k : ℕ) → (d : Mark) → k < length image.marks → (get_or image.marks k d).at < length c.in_ok-code.code.items = λ k d h.
    subst (λ n. (get_or image.marks k d).at < n) (sym count) (mark_low image.version image.code image.marks k d image.tested.marks_pass h) in
    subst (λ (ms : List Mark). (k : ℕ) → (d : Mark) → k < length ms → (get_or ms k d).at < length c.in_ok-code.code.items) (sym c.as_slice-2.ensures) marks_low

-- the cells are those of the code, with the marks of the image
pub invariant_of-result : goal.invariant_of-result
invariant_of-result c =
    let image = c.args.image.now in
    let cells : c.in_ok-code.code.items ≡ map bare_cell image.code = c.in_ok-code.ensures ∙ ap (map bare_cell) c.as_slice.ensures in
    let count : length c.sign_all.new.cells.items ≡ length image.code = c.sign_all.ensures.count ∙ ap length cells ∙ length-map image.code bare_cell in
    let short : length image.code ≤ 4194304 = code_short (length image.code) (length image.fram) (length image.symbols) (length image.peripherals) (length image.marks) image.tested.counts in
    (cells_fit image.code c.sign_all.new.cells.items (λ at. c.sign_all.ensures.instrs at ∙ ap (λ xs. instr_in xs at) cells), omega (arith, count, short))

pub returns-clause-program : goal.returns-clause-program
returns-clause-program c values =
    let image = c.args.image.now in
    let cells : c.in_ok-code.code.items ≡ map bare_cell image.code = c.in_ok-code.ensures ∙ ap (map bare_cell) c.as_slice.ensures in
    let P : List Cell → List Mark → Type 0 = λ xs ms. AreSigned ms xs c.sign_all.new.cells.items in
    let over_code : P (map bare_cell image.code) c.as_slice-2.result.now = subst (λ xs. P xs c.as_slice-2.result.now) cells c.sign_all.ensures in
    same_program image.code image.marks c.sign_all.new.cells.items values image.tested.words (subst (λ ms. P (map bare_cell image.code) ms) c.as_slice-2.ensures over_code)
