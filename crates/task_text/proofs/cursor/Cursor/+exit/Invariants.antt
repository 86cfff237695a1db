use Rattle.std.proofs.Common.{◌+◌, ◌*◌}
use Rattle.task_text.proofs.cursor.Cursor.+exit.Given as goal

abbrev pub decreases-exit : goal.decreases-exit
decreases-exit l = 3 * l.ifs

abbrev pub decreases-chosen : goal.decreases-chosen
decreases-chosen l = 3 * l.ifs + 1

abbrev pub decreases-choose : goal.decreases-choose
decreases-choose l = 3 * l.ifs + 2
