-- The parts are those of the first boot.
use Rattle.std.proofs.Common.{◌∙◌, refl, sym, ap, subst, lit≤}
use Rattle.devices.specs.Readings.{values_of}
use Rattle.word_machine.specs.Held.{state_with}
use Rattle.power_trace.specs.Run.{program_in}
use Rattle.ease_debug.proofs.StepLemmas.{trails_first}
use Rattle.ease_debug.specs.Stopping.{Names}
use Rattle.ease_debug.proofs.TableLemmas.{marks_within, tasks_fit}
use Rattle.ease_debug.proofs.debugger.Debugger.make.Goals as goal

pub returns-clause-stands : goal.returns-clause-stands
returns-clause-stands c = record {
  state = λ i. state_with (c.in_ok-machine.ensures.state i) (c.new.ensures i) (c.in_ok-make.ensures.issued i);
  steps = refl;
  ending = refl;
  trails = trails_first _ c.in_ok-trails.ensures;
  boot = refl;
  spent = refl;
}

pub returns-clause-program : goal.returns-clause-program
returns-clause-program c = c.in_ok-machine.ensures.program (values_of c.in_ok-make.field-0) ∙ ap (program_in c.args.image.now) c.in_ok-make.ensures.values

pub tasks_of-requires : goal.tasks_of-requires
tasks_of-requires c =
    let image = c.args.image.now in
    λ k d within. tasks_fit _ _ _ c.as_slice.ensures c.len.ensures (marks_within image.version image.code image.marks image.tested.marks_pass) k d within

pub invariant_of-result : goal.invariant_of-result
invariant_of-result c = record { names = subst (Names c.in_ok-tasks.tasks.items) c.as_slice.ensures c.in_ok-tasks.ensures; steps = lit≤ tt; running = ap (λ m. m.ending) (sym c.in_ok-machine.ensures.state) }
