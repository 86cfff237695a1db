-- What is written so far, with the lines that are left, is the whole.
use Rattle.std.proofs.Common.{◌≡◌, ◌++◌, drop}
use Rattle.walk_run.specs.Store.{shown_names}
use Rattle.walk_run.specs.WalkText.{array_lines}
use Rattle.walk_run.proofs.text.put_arrays.Given as goal

abbrev pub invariant-arrays : goal.invariant-arrays
invariant-arrays l =
    l.out ++ array_lines (shown_names (drop l.array-index l.arrays)) l.left ≡ l.initial.out ++ array_lines (shown_names l.arrays) l.words
