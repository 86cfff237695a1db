-- All trails are untrodden.
use Rattle.ease_debug.proofs.SlotLemmas.{none_noted, all_untrodden}
use Rattle.ease_debug.proofs.trails.Trails.make.Goals as goal

pub returns : goal.returns
returns c = none_noted _ (all_untrodden _ 256 _ (c.in_ok-vec.ensures.items_if_clones_equal (λ y e. e)) c.untrodden.ensures)
