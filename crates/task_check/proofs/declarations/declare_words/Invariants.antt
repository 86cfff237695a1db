use Rattle.std.proofs.Common.{◌≡◌, ◌≤◌, ◌+◌, [], sum_by, take, drop}
use Rattle.std.specs.List.{AllByRecursion, flat_map}
use Rattle.task_check.specs.Faults.{decls_faults}
use Rattle.task_check.specs.Limits.{IsByte, fram_words, ram_words}
use Rattle.task_check.specs.Names.{declared_words, look_up, none_yet, with_decls}
use Rattle.task_check.specs.Refusals.{decl_number}
use Rattle.task_check.specs.Table.{meanings}
use Rattle.task_check.proofs.declarations.declare_words.Given as goal

abbrev pub invariant-loop-at : goal.invariant-loop-at
invariant-loop-at l = record {
  table : meanings l.names ≡ look_up (declared_words none_yet (take l.at l.decls));
  numbers : l.numbers ≡ with_decls none_yet (take l.at l.decls);
  counted : l.numbers.arrays + l.numbers.pointers + l.numbers.peripherals ≡ l.at;
  few_names : l.at ≤ 256;
  taken : l.taken ≡ flat_map decl_number (take l.at l.decls);
  bytes : AllByRecursion IsByte (flat_map decl_number (take l.at l.decls));
  fram : l.sums.fram ≡ sum_by fram_words (take l.at l.decls);
  ram : l.sums.ram ≡ sum_by ram_words (take l.at l.decls);
  few : l.sums.fram ≤ 2048;
  small : l.sums.ram ≤ 2048;
  left : decls_faults [] l.decls ≡ decls_faults (take l.at l.decls) (drop l.at l.decls);
}
