-- That rows have no twins, by two tests that compute.
use Rattle.std.specs.Prelude.{◌≡◌, Bool, true, false, List, eqb}
use Rattle.std.proofs.Common.{inl, inr}
use Rattle.std.specs.Str.{bytes_eq}
use Rattle.std.proofs.lemmas.Slice.Eq.{bytes_eq-Decides}
use Rattle.std.proofs.lemmas.Bool.Decides.{Decides-eqb}
use Rattle.op_table.specs.Places.{repeats}
use Rattle.op_table.specs.PlaceLemmas.{repeats-Decides}
use Rattle.op_table.specs.Table.{Entry, HasTwins, codes, names}

false_and_true : (b : Bool) → b ≡ false → b ≡ true → ⊥
false_and_true b is_false is_true = cc

-- a table where neither test finds a repetition has no twins
pub clear_by_tests : (table : List Entry) → repeats eqb (codes table) ≡ false → repeats bytes_eq (names table) ≡ false → HasTwins table → ⊥
clear_by_tests table no_code no_name twins = elim twins [
  | inl twice ↦ false_and_true (repeats eqb (codes table)) no_code ((repeats-Decides eqb Decides-eqb (codes table)).1 twice)
  | inr twice ↦ false_and_true (repeats bytes_eq (names table)) no_name ((repeats-Decides bytes_eq bytes_eq-Decides (names table)).1 twice)
]
