-- No other word is the digits of a number.
use Rattle.std.proofs.Common.{◌≡◌, Ok, decimal, arith, sym, ap, subst, ◌∙◌}
use Rattle.std.proofs.lemmas.Fmt.{parse-decimal}
use Rattle.report_text.proofs.WordLemmas.{other_text, decimal_text}
use Rattle.std.specs.Str.{IsUtf8}
use Rattle.report_text.proofs.numbers.number_of.Goals as goal

pub returns-in_default-clause-none : goal.returns-in_default-clause-none
returns-in_default-clause-none c = λ n few spelled. c.in_default.ensures.cases.0 (subst IsUtf8 (sym spelled) (decimal_text n few))

pub returns-in_default-parse-clause-none : goal.returns-in_default-parse-clause-none
returns-in_default-parse-clause-none c = λ n few spelled.
    c.in_default-parse.not-Ok n (parse-decimal 32 n _ _ few (omega arith) (c.in-Ok.ensures.cases.0 ∙ spelled) c.parse.ensures.value.0)

pub returns-then-ne-clause-none : goal.returns-then-ne-clause-none
returns-then-ne-clause-none c = λ n few spelled.
    let parsed : c.parse.result ≡ Ok n = parse-decimal 32 n _ _ few (omega arith) (c.in-Ok.ensures.cases.0 ∙ spelled) c.parse.ensures.value.0 in
    let same : n ≡ c.in-Ok-parse.n = cc in
    let from = c.from.ensures in
    other_text c.ne.result _ _ c.ne.ensures c.if-ne.true
    (c.digits-count.ensures.written ∙ ap decimal (from ∙ sym same) ∙ sym spelled)
