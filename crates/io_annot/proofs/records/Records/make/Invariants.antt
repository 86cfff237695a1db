-- So many slots are made as there were turns, all of them without a record.
use Rattle.std.proofs.Common.{◌≡◌, ℕ, None, get_or, vec_len}
use Rattle.io_annot.proofs.records.Records.make.Given as goal

abbrev pub invariant-sites : goal.invariant-sites
invariant-sites l = record {
  count : vec_len l.slots ≡ l._site;
  none : (n : ℕ) → get_or l.slots.items n None ≡ None;
}
