-- The marks from the last down to these are done.
use Rattle.std.proofs.Common.{◌≡◌, ◌-◌, length}
use Rattle.word_machine.proofs.LoadingLemmas.{IsSigning}
use Rattle.word_machine.proofs.loading.sign_all.Given as goal

abbrev pub invariant-marks : goal.invariant-marks
invariant-marks l = record {
  count : l.count ≡ length l.marks;
  signing : IsSigning l.marks (l.count - l.done) l.fn.cells.items l.cells.items;
}
