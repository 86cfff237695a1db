use Rattle.std.proofs.lemmas.Result.{IfOk-weaker, IfErr-weaker}
use Rattle.audit_gather.specs.Told.{answer_of}
use Rattle.ease_cli.proofs.FileLemmas.{refused_stops}
use Rattle.ease_cli.proofs.ReaderLemmas.{report_read}
use Rattle.ease_cli.proofs.fetched.fetch_verdict.Goals as goal

pub returns-clause-read : goal.returns-clause-read
returns-clause-read g c before =
    IfOk-weaker c.verdict_in.result _ _ (λ v is. report_read _ _ before _ _ _ _ v c.as_slice.ensures.value c.in_ok-bytes.ensures.brought is) c.verdict_in.ensures.read

pub returns-clause-stops : goal.returns-clause-stops
returns-clause-stops g c before =
    IfErr-weaker c.verdict_in.result _ _ (λ r told. refused_stops _ _ _ _ _ r c.as_slice.ensures.value c.in_ok-bytes.ensures.quiet c.in_ok-bytes.ensures.brought told) (c.verdict_in.ensures.refused before)
