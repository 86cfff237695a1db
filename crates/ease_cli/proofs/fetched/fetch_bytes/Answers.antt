use Rattle.ease_cli.proofs.FileLemmas.{failed_case, long_case}
use Rattle.ease_cli.proofs.fetched.fetch_bytes.Goals as goal

pub returns-in-Err-Failed-clause-stops : goal.returns-in-Err-Failed-clause-stops
returns-in-Err-Failed-clause-stops g c =
    failed_case _ c.in-Err-Failed.field-0 c.args.name.now c.args.limit c.from_slice.result c.refuse.result c.in-Err-Failed.field-0-is c.in-Err-Failed.ensures.long_contents c.in-Err-Failed.ensures.failed
    c.from_slice.ensures c.refuse.ensures

pub returns-in-Err-TooLong-clause-stops : goal.returns-in-Err-TooLong-clause-stops
returns-in-Err-TooLong-clause-stops g c =
    long_case _ c.in-Err-TooLong.field-0 c.args.name.now c.args.limit c.from_slice-in-Err-TooLong.result c.refuse-in-Err-TooLong.result c.in-Err-TooLong.field-0-is c.in-Err-TooLong.ensures.steady
    c.in-Err-TooLong.ensures.long_contents (λ is told. let w = (c.in-Err-TooLong.ensures.too_long is).1 told in (w.0, w.1, w.2)) c.from_slice-in-Err-TooLong.ensures c.refuse-in-Err-TooLong.ensures
