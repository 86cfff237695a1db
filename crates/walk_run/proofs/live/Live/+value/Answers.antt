-- Each variant, by how its parts end.
use Rattle.std.proofs.Common.{◌∙◌, Ok, sym, ap}
use Rattle.std.proofs.lemmas.Result.{err_from_is_err_and}
use Rattle.walk_run.proofs.Values.{part_value, cell_at, through_at, one_at, two_at_left, two_at_early, two_at_right}
use Rattle.walk_run.proofs.live.Live.+value.Goals as goal

pub returns-in_err-index-in-Cell : goal.returns-in_err-index-in-Cell
returns-in_err-index-in-Cell t c =
    let trap = part_value _ _ _ _ _ c.get.ensures c.value.ensures c.in_err-index-in-Cell.was in
    let exit = c.from_residual in
    let p = err_from_is_err_and exit.result exit.ensures.1 in
    rw (p.1, p.2) (sym (cell_at _ _ _ _ _ c.in-Cell.is trap))

pub returns-in_ok-index-in-Cell : goal.returns-in_ok-index-in-Cell
returns-in_ok-index-in-Cell t c =
    let i = part_value _ _ _ _ _ c.get.ensures c.value.ensures c.in_ok-index-in-Cell.was in
    c.cell.ensures ∙ sym (cell_at _ _ _ _ _ c.in-Cell.is i)

pub returns-in_err-index-in-Through : goal.returns-in_err-index-in-Through
returns-in_err-index-in-Through t c =
    let trap = part_value _ _ _ _ _ c.get-in-Through.ensures c.value-in-Through.ensures c.in_err-index-in-Through.was in
    let exit = c.from_residual-in_err-index-in-Through in
    let p = err_from_is_err_and exit.result exit.ensures.1 in
    rw (p.1, p.2) (sym (through_at _ _ _ _ _ c.in-Through.is trap))

pub returns-in_ok-index-in-Through : goal.returns-in_ok-index-in-Through
returns-in_ok-index-in-Through t c =
    let i = part_value _ _ _ _ _ c.get-in-Through.ensures c.value-in-Through.ensures c.in_ok-index-in-Through.was in
    c.through.ensures ∙ sym (through_at _ _ _ _ _ c.in-Through.is i)

pub returns-in_err-left-in-Two : goal.returns-in_err-left-in-Two
returns-in_err-left-in-Two t c =
    let trap = part_value _ _ _ _ _ c.get-in-Two.ensures c.value-in-Two.ensures c.in_err-left-in-Two.was in
    let exit = c.from_residual-in_err-left-in-Two in
    let p = err_from_is_err_and exit.result exit.ensures.1 in
    rw (p.1, p.2) (sym (two_at_left _ _ _ _ _ _ c.in-Two.is trap))

pub returns-in_err-word-in-One : goal.returns-in_err-word-in-One
returns-in_err-word-in-One t c =
    let trap = part_value _ _ _ _ _ c.get-in-One.ensures c.value-in-One.ensures c.in_err-word-in-One.was in
    let exit = c.from_residual-in_err-word-in-One in
    let p = err_from_is_err_and exit.result exit.ensures.1 in
    rw (p.1, p.2) (sym (one_at _ _ _ _ _ c.in-One.is trap))

pub returns-in_ok-word-in-One : goal.returns-in_ok-word-in-One
returns-in_ok-word-in-One t c =
    let word = part_value _ _ _ _ _ c.get-in-One.ensures c.value-in-One.ensures c.in_ok-word-in-One.was in
    ap Ok c.of_one.ensures ∙ sym (one_at _ _ _ _ _ c.in-One.is word)

pub returns-in-Some : goal.returns-in-Some
returns-in-Some t c =
    let left = part_value _ _ _ _ _ c.get-in-Two.ensures c.value-in-Two.ensures c.in_ok-left-in-Two.was in
    sym (two_at_early _ _ _ _ _ _ _ c.in-Two.is left (sym c.in-Some.ensures))

pub returns-in_err-right-in-None : goal.returns-in_err-right-in-None
returns-in_err-right-in-None t c =
    let left = part_value _ _ _ _ _ c.get-in-Two.ensures c.value-in-Two.ensures c.in_ok-left-in-Two.was in
    let trap = part_value _ _ _ _ _ c.get-in-None.ensures c.value-in-None.ensures c.in_err-right-in-None.was in
    let exit = c.from_residual-in_err-right-in-None in
    let p = err_from_is_err_and exit.result exit.ensures.1 in
    rw (p.1, p.2) (sym (two_at_right _ _ _ _ _ _ _ c.in-Two.is left (sym c.in-None.ensures) trap))

pub returns-in_ok-right-in-None : goal.returns-in_ok-right-in-None
returns-in_ok-right-in-None t c =
    let left = part_value _ _ _ _ _ c.get-in-Two.ensures c.value-in-Two.ensures c.in_ok-left-in-Two.was in
    let right = part_value _ _ _ _ _ c.get-in-None.ensures c.value-in-None.ensures c.in_ok-right-in-None.was in
    c.of_two.ensures ∙ sym (two_at_right _ _ _ _ _ _ _ c.in-Two.is left (sym c.in-None.ensures) right)
