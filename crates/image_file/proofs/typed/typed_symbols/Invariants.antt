-- What has its kind, with what the rest get, is what all get.
use Rattle.std.proofs.Common.{◌≡◌, ◌≤◌, ◌++◌, length, drop}
use Rattle.image_file.specs.Faults.{typed_symbols}
use Rattle.image_file.proofs.typed.typed_symbols.Given as goal

abbrev pub invariant-raws : goal.invariant-raws
invariant-raws l = record {
  typed : l.typed ++ typed_symbols (drop l.raw-index l.raws) ≡ typed_symbols l.raws;
  few : length l.typed ≤ l.raw-index;
}
