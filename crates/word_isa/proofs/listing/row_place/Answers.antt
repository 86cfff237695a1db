use Rattle.std.specs.Prelude.{◌≡◌, ◌-◌, Some, List}
use Rattle.std.proofs.Common.{arith, subst}
use Rattle.op_table.specs.Table.{Entry, HasTwins, entries}
use Rattle.word_isa.proofs.ListingLemmas.{no_twins, found_place, rows_length}
use Rattle.word_isa.proofs.listing.row_place.Goals as goal

pub new-requires : goal.new-requires
new-requires c = (omega arith, rows_length c.args.rows.now c.requires.table)

pub unreachable-requires : goal.unreachable-requires
unreachable-requires c =
    let P : List Entry → Type 0 = λ t. HasTwins t in no_twins (subst P c.requires.table (c.new.ensures.refused.0 c.in_default.is))

pub unreachable-requires-in_default-find_code : goal.unreachable-requires-in_default-find_code
unreachable-requires-in_default-find_code c =
    c.in_default-find_code.not-Some (c.args.code - 1) (found_place c.in-Some.table (entries c.args.rows.now) c.find_code.result c.args.code c.in-Some.ensures.made c.requires.table c.find_code.ensures.found c.requires.from_one c.requires.known)

pub returns : goal.returns
returns c =
    let found : c.find_code.result ≡ Some (c.args.code - 1) = found_place c.in-Some.table (entries c.args.rows.now) c.find_code.result c.args.code c.in-Some.ensures.made c.requires.table c.find_code.ensures.found c.requires.from_one c.requires.known in
    let is = c.in-Some-find_code.is in
    cc
