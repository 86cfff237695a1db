-- Line by line.
use Rattle.ease_debug.specs.Commands.{lines_of}
use Rattle.ease_debug.proofs.ScriptLemmas.{turn_goes, turn_fails, turn_ends, reads_err, counted}
use Rattle.ease_debug.proofs.script.read_lines.Goals as goal

pub lines-preserved : goal.lines-preserved
lines-preserved c =
    turn_goes c.args.image.now (lines_of c.args.bytes.now) _ _ _ c.cut.result.1 c.lines.commands c.read_line.new.commands _ _ c.lines.invariant c.in-Some.is c.cut.ensures.parts
    (counted _ _ _ _ c.checked_add.ensures c.in_ok-number.ensures.ok_part) c.in_ok-read_line.ensures.read

pub returns-in_err-read_line : goal.returns-in_err-read_line
returns-in_err-read_line c = record {
  read = reads_err _ _ _ c.from_residual-in_err-read_line.ensures
      (turn_fails c.args.image.now (lines_of c.args.bytes.now) _ _ _ c.cut.result.1 c.lines.commands c.read_line.new.commands _ _ _ c.lines.invariant c.in-Some.is c.cut.ensures.parts
      (counted _ _ _ _ c.checked_add.ensures c.in_ok-number.ensures.ok_part) c.in_err-read_line.ensures.read);
}

pub returns : goal.returns
returns c = record { read = turn_ends c.args.image.now (lines_of c.args.bytes.now) c.lines.left c.lines.commands c.lines.number c.lines.invariant c.in_default.is }
