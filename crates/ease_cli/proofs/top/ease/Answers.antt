use Rattle.ease_cli.proofs.AnswerLemmas.{writes_output, whole_speaks}
use Rattle.ease_cli.proofs.SettledLemmas.{fault_is_told, none_is_usage, written_settles, settles_by_line}
use Rattle.ease_cli.proofs.top.ease.Goals as goal

pub returns-in-Ok-clause-written : goal.returns-in-Ok-clause-written
returns-in-Ok-clause-written g c = writes_output _ _ _ _ _ c.in-Ok.ensures.says

pub returns-in-Ok-clause-usage : goal.returns-in-Ok-clause-usage
returns-in-Ok-clause-usage g c none = none_is_usage _ _ _ _ _ none (writes_output _ _ _ _ _ c.in-Ok.ensures.says)

pub returns-in-Ok-clause-fetch_once : goal.returns-in-Ok-clause-fetch_once
returns-in-Ok-clause-fetch_once g c rose = fault_is_told _ _ _ _ _ (writes_output _ _ _ _ _ c.in-Ok.ensures.says) rose

pub returns-in-Ok-clause-settled : goal.returns-in-Ok-clause-settled
returns-in-Ok-clause-settled g c command some can steady = written_settles _ command _ _ _ _ some can (whole_speaks _ _ _ _ _ c.in-Ok.ensures.says) (writes_output _ _ _ _ _ c.in-Ok.ensures.says)

pub returns-in-Ok-send_all-clause-settled : goal.returns-in-Ok-send_all-clause-settled
returns-in-Ok-send_all-clause-settled g c command some can steady =
    settles_by_line _ _ c.in-Err-Refused.field-0 c.in-Err-Refused.status c.in-Err-Refused.line c.as_slice.result.now _ _ _ command c.in-Err-Refused.field-0-is c.in-Err-Refused.ensures.says c.as_slice.ensures
    c.in-Ok-send_all.ensures.whole some can

pub returns-in-Ok-clause-write_fault : goal.returns-in-Ok-clause-write_fault
returns-in-Ok-clause-write_fault g c fault = absurd (whole_speaks _ _ _ _ _ c.in-Ok.ensures.says fault)
