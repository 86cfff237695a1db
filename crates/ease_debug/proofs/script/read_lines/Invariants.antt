-- The commands so far, with those of the lines that are left, are the script's.
use Rattle.std.proofs.Common.{◌≡◌}
use Rattle.ease_debug.specs.Commands.{lines_of}
use Rattle.ease_debug.specs.Reading.{script_of, behind}
use Rattle.ease_debug.specs.Words.{rest_of}
use Rattle.ease_debug.proofs.ScriptLemmas.{left_long}
use Rattle.ease_debug.proofs.script.read_lines.Given as goal

abbrev pub invariant-lines : goal.invariant-lines
invariant-lines l = behind l.commands (script_of l.image l.number (rest_of 10 l.left)) ≡ script_of l.image 0 (lines_of l.bytes)

abbrev pub decreases-lines : goal.decreases-lines
decreases-lines l = left_long l.left
