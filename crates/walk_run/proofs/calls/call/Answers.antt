-- A call, by how its reading was taken.
use Rattle.std.proofs.Common.{◌∙◌, ap, sym}
use Rattle.std.proofs.lemmas.Result.{err_from_is_err_and}
use Rattle.walk_run.proofs.Runs.{unit_ended, call_drops, call_puts}
use Rattle.walk_run.proofs.calls.call.Goals as goal

pub returns-in_err-take-in-None : goal.returns-in_err-take-in-None
returns-in_err-take-in-None c =
    let exit = c.from_residual in
    let p = err_from_is_err_and exit.result exit.ensures.1 in
    rw (p.1, p.2) (call_drops _ _ _ _ _ _ _ c.in-None.is c.take.ensures c.in_err-take-in-None.was)

pub returns-in_ok-take-in-None : goal.returns-in_ok-take-in-None
returns-in_ok-take-in-None c = call_drops _ _ _ _ _ _ _ c.in-None.is c.take.ensures c.in_ok-take-in-None.was

pub returns-in_err-word-in-Some : goal.returns-in_err-word-in-Some
returns-in_err-word-in-Some c =
    let exit = c.from_residual-in_err-word-in-Some in
    let p = err_from_is_err_and exit.result exit.ensures.1 in
    rw (p.1, p.2) (call_puts _ _ _ _ _ _ _ _ _ c.in-Some.is (sym c.target.ensures.place ∙ c.in_ok-at-in-Some.was) c.take-in-Some.ensures c.in_err-word-in-Some.was)

pub returns-in_ok-word-in-Some : goal.returns-in_ok-word-in-Some
returns-in_ok-word-in-Some c =
    ap (λ s. unit_ended s c.take-in-Some.new.readings) c.set.ensures.word
    ∙ call_puts _ _ _ _ _ _ _ _ _ c.in-Some.is (sym c.target.ensures.place ∙ c.in_ok-at-in-Some.was) c.take-in-Some.ensures c.in_ok-word-in-Some.was
