-- What the lines give is the script.
use Rattle.ease_debug.specs.Commands.{lines_of}
use Rattle.ease_debug.proofs.GrammarLemmas.{read_accepted, read_found, read_only, err_only, err_first}
use Rattle.ease_debug.proofs.script.read_script.Goals as goal

pub returns-in_err-lines-clause-only : goal.returns-in_err-lines-clause-only
returns-in_err-lines-clause-only c = λ commands are. err_only c.args.image.now (lines_of c.args.bytes.now) _ _ commands c.in_err-lines.ensures.read c.from_residual.ensures are

pub returns-in_err-lines-clause-refused : goal.returns-in_err-lines-clause-refused
returns-in_err-lines-clause-refused c = err_first c.args.image.now (lines_of c.args.bytes.now) _ _ c.in_err-lines.ensures.read c.from_residual.ensures

pub returns-clause-found : goal.returns-clause-found
returns-clause-found c = read_found c.args.image.now (lines_of c.args.bytes.now) _ c.in_ok-lines.ensures.read

pub returns-clause-only : goal.returns-clause-only
returns-clause-only c = λ commands are. read_only c.args.image.now (lines_of c.args.bytes.now) _ commands c.in_ok-lines.ensures.read are

pub returns-clause-accepted : goal.returns-clause-accepted
returns-clause-accepted c = read_accepted c.args.image.now (lines_of c.args.bytes.now) _ c.in_ok-lines.ensures.read
