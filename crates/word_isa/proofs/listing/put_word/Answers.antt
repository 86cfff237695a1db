use Rattle.std.specs.Prelude.{◌≡◌, ◌++◌, ℕ, List, OnOk, OnErr}
use Rattle.std.proofs.Common.{subst, ◌∙◌, ap}
use Rattle.word_isa.specs.Parts.{IsPart}
use Rattle.word_isa.proofs.ListingLemmas.{row_listed, mark_listed, row_code}
use Rattle.word_isa.proofs.listing.put_word.Goals as goal

pub put_row-requires-clause-from_one : goal.put_row-requires-clause-from_one
put_row-requires-clause-from_one c =
    let known = row_code c.args.word _ c.in-Some.ensures.value in rw c.split.ensures known.0

pub put_row-requires-clause-known : goal.put_row-requires-clause-known
put_row-requires-clause-known c =
    let known = row_code c.args.word _ c.in-Some.ensures.value in rw c.split.ensures known.1

pub returns-in_ok-push-in-None-clause-ok : goal.returns-in_ok-push-in-None-clause-ok
returns-in_ok-push-in-None-clause-ok c =
    c.in_ok-push-in-None.ensures.ok ∙ ap (λ t. c.args.out.now ++ t) (mark_listed c.args.word c.in-None.ensures.value)

pub returns-in-Some-clause-ok : goal.returns-in-Some-clause-ok
returns-in-Some-clause-ok c =
    let P : List ℕ → Type 0 = λ t. OnOk c.put_row.result (c.put_row.new.out ≡ c.args.out.now ++ t) in
    subst P (row_listed c.args.word c.split.result _ c.split.ensures c.in-Some.ensures.value) c.put_row.ensures.ok

pub returns-in-Some-clause-partly : goal.returns-in-Some-clause-partly
returns-in-Some-clause-partly c =
    let P : List ℕ → Type 0 = λ t. OnErr c.put_row.result (IsPart c.args.out.now c.put_row.new.out t) in
    subst P (row_listed c.args.word c.split.result _ c.split.ensures c.in-Some.ensures.value) c.put_row.ensures.partly
