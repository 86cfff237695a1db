-- By where places lie.
use Rattle.cell_laws.proofs.Commits.{commit_stands}
use Rattle.cell_laws.proofs.laws.a_commit_is_one_word.Goals as goal

pub returns : goal.returns
returns g = λ c scheme t next m s epoch task bank well stands fits.
    commit_stands (λ k b h few. g.each_place_lies_in_its_area.ensures k b h few) c well m s epoch task bank scheme t next stands fits
