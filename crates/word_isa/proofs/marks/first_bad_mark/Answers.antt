use Rattle.std.specs.Prelude.{refl}
use Rattle.std.proofs.Common.{arith, get_or}
use Rattle.word_isa.specs.declared.mark.Mark.{Mark}
use Rattle.word_isa.specs.declared.mark.MarkKind.TheVariants.{Begin}
use Rattle.word_isa.specs.Marks.{mark_passes}
use Rattle.word_isa.proofs.SearchLemmas.{goes_on_at, finds_at, search_ends}
use Rattle.word_isa.proofs.marks.first_bad_mark.Goals as goal

-- what is read behind the last mark
abbrev none : Mark
none = record { at = 0; kind = Begin; site = 0; task = 0 }

pub returns-then-not-mark_passes-clause-value : goal.returns-then-not-mark_passes-clause-value
returns-then-not-mark_passes-clause-value c =
    finds_at (mark_passes c.args.version c.args.code.now) c.args.marks.now c.marks.at none (get_or c.args.marks.now c.marks.at none) c.mark_passes.result c.marks-test.true refl c.mark_passes.ensures c.if-not-mark_passes.true c.marks.invariant

pub marks-preserved : goal.marks-preserved
marks-preserved c =
    goes_on_at (mark_passes c.args.version c.args.code.now) c.args.marks.now c.marks.at none (get_or c.args.marks.now c.marks.at none) c.mark_passes.result c.marks-test.true refl c.mark_passes.ensures c.if-not-mark_passes.false c.marks.invariant

pub returns-clause-value : goal.returns-clause-value
returns-clause-value c = search_ends (mark_passes c.args.version c.args.code.now) c.args.marks.now c.marks.at (omega arith) c.marks.invariant
