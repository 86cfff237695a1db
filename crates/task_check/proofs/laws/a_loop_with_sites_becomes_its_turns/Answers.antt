use Rattle.task_check.specs.Names.{names_of}
use Rattle.task_check.proofs.UnrollLaws.{unrolled_is}
use Rattle.task_check.proofs.laws.a_loop_with_sites_becomes_its_turns.Goals as goal

pub returns : goal.returns
returns c = unrolled_is (names_of c.args.p.now) c.args.i.now c.args.turns c.args.at c.args.body.now c.args.word c.requires
