-- A task begins with the same store where the nonvolatile words are the same.
use Rattle.walk_run.proofs.Constants.{task_alike}
use Rattle.walk_run.proofs.laws.a_task_depends_on_the_nonvolatile_words_alone.Goals as goal

pub returns : goal.returns
returns c = task_alike c.args.c.now
