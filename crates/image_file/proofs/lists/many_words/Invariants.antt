-- What was read so far, with what is read of the rest, is what all give.
use Rattle.std.proofs.Common.{◌≡◌, ◌-◌, length}
use Rattle.image_file.specs.Fields.{number, many_at}
use Rattle.image_file.specs.ManyLaws.{behind_done}
use Rattle.image_file.proofs.lists.many_words.Given as goal

abbrev pub invariant-items : goal.invariant-items
invariant-items l = record {
  read : behind_done l.items (many_at (number 4).read (l.initial.count - l._item) l.rest) ≡ many_at (number 4).read l.initial.count l.initial.bytes;
  counted : length l.items ≡ l._item;
}
