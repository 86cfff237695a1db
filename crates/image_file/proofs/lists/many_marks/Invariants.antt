-- What was read so far, with what is read of the rest, is what all give.
use Rattle.std.proofs.Common.{◌≡◌, ◌-◌, length}
use Rattle.image_file.specs.Fields.{many_at}
use Rattle.image_file.specs.Layout.{mark}
use Rattle.image_file.specs.ManyLaws.{behind_done}
use Rattle.image_file.proofs.lists.many_marks.Given as goal

abbrev pub invariant-items : goal.invariant-items
invariant-items l = record {
  read : behind_done l.items (many_at (mark l.initial.version).read (l.initial.count - l._item) l.rest) ≡ many_at (mark l.initial.version).read l.initial.count l.initial.bytes;
  counted : length l.items ≡ l._item;
}
