use Rattle.std.specs.Prelude.{◌≡◌, ◌<◌, ◌++◌, ℕ, List, OnOk, OnErr, length}
use Rattle.std.proofs.Common.{arith, subst}
use Rattle.word_isa.specs.Parts.{IsPart}
use Rattle.word_isa.proofs.ListingLemmas.{rows_length, form_small, text_at_place}
use Rattle.word_isa.proofs.listing.put_row.Goals as goal

pub bounds-rows-row_place : goal.bounds-rows-row_place
bounds-rows-row_place c = omega (arith, rows_length c.args.rows.now c.requires.table)

pub put_entry-requires : goal.put_entry-requires
put_entry-requires c =
    form_small c.args.rows.now c.row_place.result _ c.requires.table (omega (arith, rows_length c.args.rows.now c.requires.table))

pub returns-clause-ok : goal.returns-clause-ok
returns-clause-ok c =
    let within : c.row_place.result < length c.args.rows.now = omega (arith, rows_length c.args.rows.now c.requires.table) in
    let P : List ℕ → Type 0 = λ t. OnOk c.put_entry.result (c.put_entry.new.out ≡ c.args.out.now ++ t) in
    subst P (text_at_place c.args.rows.now c.row_place.result c.args.fields.code _ c.args.fields c.requires.table within c.row_place.ensures) c.put_entry.ensures.ok

pub returns-clause-partly : goal.returns-clause-partly
returns-clause-partly c =
    let within : c.row_place.result < length c.args.rows.now = omega (arith, rows_length c.args.rows.now c.requires.table) in
    let P : List ℕ → Type 0 = λ t. OnErr c.put_entry.result (IsPart c.args.out.now c.put_entry.new.out t) in
    subst P (text_at_place c.args.rows.now c.row_place.result c.args.fields.code _ c.args.fields c.requires.table within c.row_place.ensures) c.put_entry.ensures.partly
