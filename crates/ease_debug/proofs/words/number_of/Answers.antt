use Rattle.std.proofs.Common.{◌≡◌, Ok, decimal, arith, sym, ap, subst, ◌∙◌}
use Rattle.std.proofs.lemmas.Fmt.{parse-decimal}
use Rattle.ease_debug.proofs.WordLemmas.{other_text, decimal_text}
use Rattle.std.specs.Str.{IsUtf8}
use Rattle.ease_debug.proofs.words.number_of.Goals as goal
use Rattle.ease_debug.proofs.words.number_of.Goals.{then-n-most-via-then-n-most, then-n-most-via-else-n-most+then-ne}

pub returns-in_default-clause-none : goal.returns-in_default-clause-none
returns-in_default-clause-none c = λ n few spelled. c.in_default.ensures.cases.0 (subst IsUtf8 (sym spelled) (decimal_text n (omega (arith, few, c.ranges.most.fits))))

pub returns-in_default-parse-clause-none : goal.returns-in_default-parse-clause-none
returns-in_default-parse-clause-none c = λ n few spelled.
    c.in_default-parse.not-Ok n (parse-decimal 32 n _ _ (omega arith) (omega arith) (c.in-Ok.ensures.cases.0 ∙ spelled) c.parse.ensures.value.0)

pub returns-then-n-most-clause-none : goal.returns-then-n-most-clause-none
returns-then-n-most-clause-none c = λ n few spelled.
    let parsed : c.parse.result ≡ Ok n = parse-decimal 32 n _ _ (omega arith) (omega arith) (c.in-Ok.ensures.cases.0 ∙ spelled) c.parse.ensures.value.0 in
    let same : n ≡ c.in-Ok-parse.n = cc in
    elim c.then-n-most.branch [
      | then-n-most-via-then-n-most w ↦ omega (arith, same)
      | then-n-most-via-else-n-most+then-ne w ↦
          let from = c.from.ensures in
          other_text w.ne.result _ _ w.ne.ensures w.if-ne.true
          (c.digits-count.ensures.written ∙ ap decimal (from ∙ sym same) ∙ sym spelled)
    ]
