-- What is written, with the words that are left, is all of them.
use Rattle.std.proofs.Common.{◌+◌, ◌-◌}
use Rattle.std.specs.List.{flat_map}
use Rattle.power_trace.specs.Report.{number}
use Rattle.power_trace.specs.Way.{IsOnWay}
use Rattle.word_machine.specs.Held.{core_of}
use Rattle.word_machine.specs.Places.{words_from}
use Rattle.ease_debug.proofs.shown.send_store.Given as goal

abbrev pub invariant-words : goal.invariant-words
invariant-words g l = IsOnWay (g.K.Sink.taken l.initial.out) (g.K.Sink.taken l.out) (g.K.Sink.faults l.initial.out) (g.K.Sink.faults l.out)
    (flat_map number (words_from (l.count - l.done) (l.base + l.done) (core_of l.machine.held).store)) (flat_map number (words_from l.count l.base (core_of l.machine.held).store))
