-- What is left, of a body and of a loop's turns, gives what the whole gives.
use Rattle.std.proofs.Common.{◌≡◌, ◌-◌, drop}
use Rattle.walk_run.specs.Plain.{turns_done, all_done}
use Rattle.walk_run.proofs.live.Live.+plain.Given as goal

abbrev pub invariant-do_all-statements : goal.invariant-do_all-statements
invariant-do_all-statements l = all_done (drop l.statement-index l.body) l.self ≡ all_done l.body l.initial.self

abbrev pub invariant-do_turns-turns : goal.invariant-do_turns-turns
invariant-do_turns-turns l =
    turns_done (all_done l.body) l.variable l.number (l.turns - l.number) l.self ≡ turns_done (all_done l.body) l.variable 0 l.turns l.initial.self
