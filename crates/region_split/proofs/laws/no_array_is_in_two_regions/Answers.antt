-- What a region writes is written before each later one.
use Rattle.region_split.proofs.Apart.{apart}
use Rattle.region_split.proofs.laws.no_array_is_in_two_regions.Goals as goal

pub returns : goal.returns
returns c = λ region later array less is. apart c.args.c.now c.args.t.now region later array less is
