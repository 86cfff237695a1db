-- Line by line.
use Rattle.std.proofs.Common.{sym, subst}
use Rattle.report_text.proofs.ReportLemmas.{IsOnWay, turn_goes, turn_stops, turn_ends, turn_lacks, counted, empty_is, empty_not}
use Rattle.report_text.proofs.report.read_lines.Goals as goal

pub returns-in_default : goal.returns-in_default
returns-in_default c = record {
  read = turn_stops c.lines.lines c.lines.ended c.lines.number c.lines.left.now c.args.bytes.now c.lines.invariant c.in_default.ensures.next
      (empty_not c.is_empty.result c.lines.left.now c.is_empty.ensures c.lines-test.true);
}

pub lines-preserved : goal.lines-preserved
lines-preserved c =
    subst (λ e. IsOnWay c.push.new.self e c.in_ok-number.number c.in-Some.behind.now c.args.bytes.now) (sym c.is_end-ended.ensures)
    (turn_goes c.lines.lines c.push.new.self c.lines.ended c.lines.number c.in_ok-number.number c.lines.left.now c.args.bytes.now c.in-Some.behind.now c.in-Some.line c.in-Some.ensures.next.0
    c.lines.invariant c.in-Some.ensures.next.1 c.in-Some.ensures.next.2 c.in_ok-push.ensures.ok (counted _ _ _ _ c.checked_add.ensures c.in_ok-number.ensures.ok_part))

pub returns-then-ended : goal.returns-then-ended
returns-then-ended c = record {
  read = turn_ends c.lines.lines c.lines.ended c.lines.number c.lines.left.now c.args.bytes.now c.lines.invariant (empty_is c.is_empty.result c.lines.left.now c.is_empty.ensures c.lines-test.false) c.if-ended.true;
}

pub returns : goal.returns
returns c = record {
  read = turn_lacks c.lines.lines c.lines.ended c.lines.number c.lines.left.now c.args.bytes.now c.lines.invariant (empty_is c.is_empty.result c.lines.left.now c.is_empty.ensures c.lines-test.false) c.if-ended.false;
}
