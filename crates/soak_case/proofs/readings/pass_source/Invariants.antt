-- How many numbers were drawn.
use Rattle.std.proofs.Common.{◌≡◌, ◌*◌}
use Rattle.soak_case.specs.Draws.{state_behind}
use Rattle.soak_case.proofs.readings.pass_source.Given as goal

abbrev pub invariant-numbers : goal.invariant-numbers
invariant-numbers l = l.draws ≡ state_behind (1 * l._done) l.initial.draws
