-- One mark more is put at its address.
use Rattle.std.proofs.Common.{◌-◌, ◌+◌, ◌<◌, ℕ, suc, length, subst, refl, sym, arith, get_or}
use Rattle.std.proofs.lemmas.List.{get_or_default}
use Rattle.word_isa.specs.declared.mark.Mark.{Mark}
use Rattle.word_isa.specs.declared.mark.MarkKind.TheVariants.{Begin}
use Rattle.word_machine.specs.Loading.{signed}
use Rattle.word_machine.proofs.LoadingLemmas.{IsSigning, signing_starts, signing_goes_on}
use Rattle.word_machine.proofs.loading.sign_all.Goals as goal

-- what is read behind the last mark
abbrev none : Mark
none = record { at = 0; kind = Begin; site = 0; task = 0 }

pub marks-init : goal.marks-init
marks-init c = record { count = refl; signing = signing_starts c.args.marks.now (length c.args.marks.now - 0) c.args.cells.now.items (omega arith) }

pub marks-preserved : goal.marks-preserved
marks-preserved c =
    let marks = c.args.marks.now in
    let before = c.args.cells.now.items in
    let after = c.marks.cells.items in
    let left : ℕ = length marks - 1 - c.marks.done in
    let below : left < length marks = omega (arith, c.marks-test.true) in
    let m : Mark = get_or marks left none in
    let here : IsSigning marks (suc left) before after = subst (λ n. IsSigning marks n before after) (omega (arith, c.marks-test.true)) c.marks.invariant.signing in
    let done : IsSigning marks left before (signed m after) = signing_goes_on marks left before after m below (get_or_default marks left none m below) (c.requires left none below) here in
    let counted : IsSigning marks (length marks - (c.marks.done + 1)) before (signed m after) = subst (λ n. IsSigning marks n before (signed m after)) (omega arith) done in
    record { count = refl; signing = subst (λ cells. IsSigning marks (length marks - (c.marks.done + 1)) before cells) (sym c.sign.ensures) counted }
